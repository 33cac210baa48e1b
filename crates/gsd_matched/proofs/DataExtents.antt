-- Step 2 of an append, extent by extent: the data of each row, padded, at their place.
use Prim.Native.Nat.{ℕ, zero, suc, ◌+◌, ◌*◌, ◌-◌, ◌/◌, ◌<◌}
use mathlib.Core.Path.{◌≡◌, sym, ◌∙◌, ap}
use mathlib.Core.List.{List, [], ◌∷◌, ◌++◌}
use native.Mathlib.Omega.{arith}
use lib.ListN.{length, get_or, take, drop, drop_of_length-le}
use lib.Seq.{drop-cons}
use Rattle.gsd_format.specs.Header.{aligned}
use Rattle.gsd_format.proofs.Bytes.{Octets, Text}
use Rattle.gsd_stores.specs.Stores.{Store, words, up}
use Rattle.gsd_stores.specs.Sheet.{Row, rows_of, row_count, table_end, name_at, body_at, Exact}
use Rattle.gsd_stores.specs.Plan.{Plan, padded, bodies, end_from, body_place}
use Rattle.gsd_stores.specs.Steps.{store_texts, store_data}
use Rattle.gsd_stores.specs.Demand3.{no_row}
use Rattle.gsd_stores.proofs.Sheet.{rows-count, body-length, body-text, start-next}
use Rattle.gsd_stores.proofs.Rows.{padded-length, padded-byte, place-first, place-next}
use Rattle.gsd_extents.specs.Exec.{tasks, stores_of}
use Rattle.gsd_extents.specs.Extents.{row_data}
use Rattle.gsd_steps.specs.Numbers.{rows_in}
use Rattle.gsd_matched.specs.Matches.{DataMatch}
use Rattle.gsd_steps.specs.Steps.{data_extent, tab}
use Rattle.gsd_matched.proofs.Octets.{text-octets, padded-octets}
use Rattle.gsd_matched.proofs.ExtentWords.{data-stores}
use Rattle.gsd_matched.proofs.Makes.{Always, ◌⨾◌, makes_none}
use Rattle.gsd_matched.proofs.Blocks.{text-cut}

-- the stores of one text at a place
abbrev store_text : List ℕ → ℕ → List Store
store_text b at = words b at (up at (length b / 8))

-- the stores of the data that are left: none behind the last row; from the i-th row on, its own and those behind it
texts-end : (rs : List Row) (pos : ℕ) → store_texts pos (bodies (drop (length rs) rs)) ≡ []
unfolding store_texts bodies
texts-end rs pos = rw (drop_of_length-le rs {i = length rs} (omega arith))

texts-next : (rs : List Row) (pos i : ℕ) → i < length rs → store_texts pos (bodies (drop i rs)) ≡
    store_text (padded (get_or rs i no_row).body) (aligned pos) ++ store_texts (aligned pos + length (padded (get_or rs i no_row).body)) (bodies (drop (suc i) rs))
unfolding store_texts bodies
texts-next rs pos i l = rw (drop-cons rs i no_row l)

module _ (sheet : List ℕ) (exact : Exact sheet) (o : Octets sheet) (d : Plan) (p : List ℕ)
    (m : (i : ℕ) → i < length (rows_of sheet) → DataMatch sheet d p i) where
  abbrev rs : List Row
  rs = rows_of sheet

  row-stored : (i : ℕ) → i < length rs → Always sheet (data_extent p i ∷ []) (store_text (padded (get_or rs i no_row).body) (body_place d.start rs i))
  unfolding data_extent
  row-stored i l = record {
    same = λ img u.
        ap (λ x. stores_of sheet img (tasks (x ∷ []))) extent
        ∙ data-stores sheet (padded b) to (padded-octets b (text-octets sheet from b o text)) to from until img (omega arith) cut
        ∙ ap (λ n. words (padded b) to (up to n)) (omega (arith, end, padded-length b));
    final = λ img u. tt;
  }
    where
      b : List ℕ
      b = (get_or rs i no_row).body

      to : ℕ
      to = body_place d.start rs i

      from : ℕ
      from = body_at sheet i

      until : ℕ
      until = name_at sheet (suc i)

      inside : i < row_count sheet
      inside = rw rows-count at l

      text : Text sheet from b
      text = body-text sheet exact i inside

      end : until ≡ from + length b
      end = omega (arith, start-next sheet 4 (table_end sheet) i, body-length sheet exact i inside)

      extent : data_extent p i ≡ row_data to from until
      extent = λ j. row_data ((m i l).to j) ((m i l).from j) ((m i l).until j)

      cut : (k : ℕ) → k < 8 * ((until - from + 7) / 8) → get_or (take until sheet) (from + k) 0 ≡ get_or (padded b) (to + k - to) 0
      cut k n =
          text-cut sheet from b until (from + k) text end (omega arith)
          ∙ ap (λ j. get_or b j 0) (let e : from + k - from ≡ to + k - to = omega arith in e)
          ∙ sym (padded-byte b (to + k - to))

  -- the data of all rows from the i-th on
  rows-stored : (n i : ℕ) → i + n ≡ length rs → Always sheet (tab (data_extent p) i n) (store_texts (end_from d.start (bodies (take i rs))) (bodies (drop i rs)))
  unfolding tab
  rows-stored zero i e = let z : i ≡ length rs = omega arith in rw (z, texts-end rs _) makes_none
  rows-stored (suc n) i e =
      let l : i < length rs = omega arith in
      let next : body_place d.start rs i + length (padded (get_or rs i no_row).body) ≡ end_from d.start (bodies (take (suc i) rs))
      = omega (arith, place-next rs d.start i l, padded-length (get_or rs i no_row).body) in
      rw (texts-next rs _ i l, next) (row-stored i l ⨾ rows-stored n (suc i) (omega arith))

  pub data-stored : d.body ≡ bodies rs → rows_in p ≡ length rs → Always sheet (tab (data_extent p) 0 (rows_in p)) (store_data d)
  data-stored whole e = rw (whole, ← place-first d.start rs) (rows-stored (rows_in p) 0 (omega arith))
