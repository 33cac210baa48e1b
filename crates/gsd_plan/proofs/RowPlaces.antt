-- The places that the code finds for data and new names are those of the rows.
use Prim.Native.Nat.{ℕ, zero, suc, ◌+◌, ◌-◌, ◌≤◌, ◌<◌}
use mathlib.Core.Path.{◌≡◌, sym, ◌∙◌, ap}
use mathlib.Core.List.{List, [], ◌∷◌, ◌++◌}
use native.Mathlib.Numerals.{add-one}
use native.Mathlib.Omega.{arith}
use lib.ListN.{length, get_or, take}
use lib.Seq.{take-suc}
use Rattle.gsd_format.specs.Bytes.{round_up}
use Rattle.gsd_format.specs.Header.{aligned}
use Rattle.gsd_format.specs.Names.{flat}
use Rattle.gsd_format.proofs.Names.{flat-none, flat-more}
use Rattle.gsd_stores.specs.Stores.{half}
use Rattle.gsd_stores.specs.Sheet.{row_count, table_end, rows_of}
use Rattle.gsd_stores.specs.Plan.{bodies, end_from}
use Rattle.gsd_stores.specs.Demand3.{no_row}
use Rattle.gsd_stores.proofs.Sheet.{start-rises, name-length, body-length, rows-count}
use Rattle.gsd_stores.proofs.Rows.{place-first, place-next, place-last}
use Rattle.gsd_sheet.specs.Columns.{name_from, data_from, new_row}
use Rattle.gsd_sheet.specs.Rows.{Located}
use Rattle.gsd_sheet.proofs.Rows.{name-next, located-room, located_end}
use Rattle.gsd_ids.specs.RowIds.{RowNamed}
use Rattle.gsd_places.specs.Places.{Laid, data_end_at, name_offset}
use Rattle.gsd_places.proofs.Places.{end_none, end_more, offset-none, offset-more}

module _ {s c : List ℕ} (h : Located s c) where
  pub located-laid : length s ≤ half → Laid c (row_count s)
  located-laid b = record {
    few = h.few;
    name = λ i l. (located-room h i l).0;
    body = λ i l. (located_end h i l).0;
    small = λ i l. omega (arith, h.name.at i (omega arith), start-rises (row_count s) s 4 (table_end s) i l, h.exact);
  }

  name-size : (i : ℕ) → i < row_count s → data_from c i ≡ name_from c i + length (get_or (rows_of s) i no_row).name
  name-size i l = omega (arith, h.name.at i (omega arith), h.body.at i l, name-length s h.exact i l)

  body-size : (i : ℕ) → i < row_count s → name_from c (i + 1) - data_from c i ≡ length (get_or (rows_of s) i no_row).body
  body-size i l = omega (arith, h.name.at (i + 1) (omega arith), h.body.at i l, name-next s i, body-length s h.exact i l)

  pub data-position : (start i : ℕ) → i ≤ row_count s → data_end_at c start i ≡ end_from start (bodies (take i (rows_of s)))
  data-position start zero l = end_none c start ∙ sym (place-first start (rows_of s))
  data-position start (suc i) l =
      let m : i < row_count s = omega arith in
      sym (ap (data_end_at c start) (add-one i)) ∙ end_more c start i
      ∙ (λ j. aligned (data-position start i (omega arith) j) + round_up 8 (body-size i m j))
      ∙ sym (place-next (rows_of s) start i (rw (rows-count s) m))

  pub data-ends : (start : ℕ) → data_end_at c start (row_count s) ≡ end_from start (bodies (rows_of s))
  data-ends start =
      data-position start (row_count s) (omega arith)
      ∙ ap (λ n. end_from start (bodies (take n (rows_of s)))) (sym (rows-count s)) ∙ place-last start (rows_of s)

  -- new names, each of a row
  module _ (fresh : List (List ℕ)) (named : (j : ℕ) → j < length fresh → RowNamed (rows_of s) (length (rows_of s)) (new_row c j) (get_or fresh j [])) where
    pub row_within : (j : ℕ) → j < length fresh → new_row c j < row_count s
    row_within j l = rw (rows-count s) at (named j l).within

    new-size : (j : ℕ) → j < length fresh → data_from c (new_row c j) ≡ name_from c (new_row c j) + length (get_or fresh j [])
    new-size j l = omega (arith, name-size (new_row c j) (row_within j l), ap length (named j l).named)

    pub name-offset : (j : ℕ) → j ≤ length fresh → name_offset c j ≡ length (flat (take j fresh))
    name-offset zero l = offset-none c ∙ sym (ap length flat-none)
    name-offset (suc j) l =
        let m : j < length fresh = omega arith in
        let e : name_offset c (suc j) ≡ name_offset c (j + 1) = ap (name_offset c) (sym (add-one j)) in
        let f : length (flat (take (suc j) fresh)) ≡ length (flat (take j fresh ++ get_or fresh j [] ∷ [])) =
        ap (λ ns. length (flat ns)) (take-suc fresh j [] m) in
        omega (arith, e, f, offset-more c j, new-size j m, flat-more (take j fresh) (get_or fresh j []), name-offset j (omega arith))
