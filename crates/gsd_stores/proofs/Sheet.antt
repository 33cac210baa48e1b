-- Laws of the append sheet: where each row's name and data lie in it, when it is accepted, and what then holds of every row.
use Prim.Native.Nat.{ℕ, zero, suc, ◌+◌, ◌*◌, ◌^◌, ◌≤◌, ◌<◌}
use mathlib.Core.Path.{◌≡◌, refl, sym, ◌∙◌, ap}
use mathlib.Core.Bool.{true, false, not, ◌||◌}
use mathlib.Core.List.{List}
use native.Mathlib.Nat.{zero-add}
use native.Mathlib.Decide.{ℕ_discrete}
use native.Mathlib.Omega.{arith}
use lib.ListN.{length, get_or}
use lib.Dec.{ltb, eqb}
use borrow.Author.Tests.{ltb-false, eqb-true, eqb-false, not-false, le-ltb, eq-eqb, ne_eqb}
use Rattle.gsd_format.specs.Bytes.{le, part, zero_in}
use Rattle.gsd_format.specs.Types.{size_of, known}
use Rattle.gsd_format.proofs.Lists.{Each, each_at, at_each, map_each, each_map, one-false, false-one}
use Rattle.gsd_format.proofs.Refusals.{both, none_of, unmet, passed, neither, neither-of, not-of, not-less, less-no, no-differ, differ-no}
use Rattle.gsd_format.proofs.Bytes.{Octets, Text, le-bound, part_length, no_zero, zero-out, zero_in-same}
use Rattle.gsd_format.proofs.Texts.{part-text}
use Rattle.gsd_format.specs.Names.{Distinct}
use Rattle.gsd_format.proofs.Ids.{twins-distinct, distinct-twins}
use Rattle.gsd_format.proofs.Names.{Named, Full, part-named}
use Rattle.gsd_stores.specs.Sheet.{Row, row_kind, name_size, body_size, bad_row, bad_table, bodies_end, rows_at, row_count, table_end}
use Rattle.gsd_stores.specs.Sheet.{row_place, start_at, rows_of, row_at, name_at, body_at, Exact, row_names, most_rows, any_nan_row, form_test, sheet_test}
use Rattle.gsd_stores.specs.Demand3.{no_row}

-- Places in the sheet

pub start_first : (s : List ℕ) (t q : ℕ) → start_at s t q 0 ≡ q
unfolding start_at
start_first s t q = refl

pub start-next : (s : List ℕ) (t q i : ℕ) → start_at s t q (suc i) ≡ start_at s t q i + name_size s (row_place t i) + body_size s (row_place t i)
unfolding start_at
start-next s t q i = refl

-- the same, from the second row on
start-tail : (i : ℕ) (s : List ℕ) (t q : ℕ) → start_at s (t + 16) (q + name_size s t + body_size s t) i ≡ start_at s t q (suc i)
unfolding start_at
start-tail zero s t q = ap (λ k. q + name_size s k + body_size s k) (let e : t ≡ row_place t 0 = omega arith in e)
start-tail (suc i) s t q =
    let f : start_at s (t + 16) (q + name_size s t + body_size s t) i ≡ start_at s t q (suc i) = start-tail i s t q in
    let e : row_place (t + 16) i ≡ row_place t (suc i) = omega arith in
    λ j. f j + name_size s (e j) + body_size s (e j)

pub start-rises : (j : ℕ) (s : List ℕ) (t q i : ℕ) → i ≤ j → start_at s t q i ≤ start_at s t q j
start-rises zero s t q i l = let e : i ≡ 0 = omega arith in rw e (omega arith)
start-rises (suc j) s t q i l = go (start-rises j s t q i) (ℕ_discrete i (suc j))
  where
    go : (i ≤ j → start_at s t q i ≤ start_at s t q j) → Dec (i ≡ suc j) → start_at s t q i ≤ start_at s t q (suc j)
    go f (yes e) = rw e (omega arith)
    go f (no e) = omega (arith, f (omega arith), start-next s t q j)

-- the bodies end where one more name would begin
pub bodies-end : (n : ℕ) (s : List ℕ) (t q : ℕ) → bodies_end s t q n ≡ start_at s t q n
unfolding bodies_end start_at
bodies-end zero s t q = refl
bodies-end (suc n) s t q = bodies-end n s (t + 16) (q + name_size s t + body_size s t) ∙ start-tail n s t q

-- the row at t of the table whose name begins at q
abbrev pub row_from : List ℕ → ℕ → ℕ → Row
row_from s t q = record { name = part s q (name_size s t); n = le 8 s t; m = le 4 s (t + 8); kind = row_kind s t; body = part s (q + name_size s t) (body_size s t) }

pub rows-length : (n : ℕ) (s : List ℕ) (t q : ℕ) → length (rows_at s t q n) ≡ n
unfolding rows_at
rows-length zero s t q = refl
rows-length (suc n) s t q = ap suc (rows-length n s (t + 16) (q + name_size s t + body_size s t))

pub rows-at : (n : ℕ) (s : List ℕ) (t q i : ℕ) → i < n → get_or (rows_at s t q n) i no_row ≡ row_from s (row_place t i) (start_at s t q i)
unfolding rows_at start_at
rows-at zero s t q i l = absurd (omega arith)
rows-at (suc n) s t q zero l = ap (λ k. row_from s k q) (let e : t ≡ row_place t 0 = omega arith in e)
rows-at (suc n) s t q (suc i) l =
    let e : row_place (t + 16) i ≡ row_place t (suc i) = omega arith in
    let f : start_at s (t + 16) (q + name_size s t + body_size s t) i ≡ start_at s t q (suc i) = start-tail i s t q in
    rows-at n s (t + 16) (q + name_size s t + body_size s t) i (omega arith) ∙ λ j. row_from s (e j) (f j)

-- The rows of a sheet

pub rows-count : (s : List ℕ) → length (rows_of s) ≡ row_count s
unfolding rows_of
rows-count s = rows-length (row_count s) s 4 (table_end s)

pub row-at : (s : List ℕ) (i : ℕ) → i < row_count s → get_or (rows_of s) i no_row ≡ row_from s (row_at i) (name_at s i)
unfolding rows_of
row-at s i l = rows-at (row_count s) s 4 (table_end s) i l

module _ (s : List ℕ) (exact : Exact s) (i : ℕ) (l : i < row_count s) where
  -- name and data lie behind the table, in the sheet
  pub name-behind : table_end s ≤ name_at s i
  name-behind = omega (arith, start-rises i s 4 (table_end s) 0 (omega arith), start_first s 4 (table_end s))

  pub body-inside : body_at s i + body_size s (row_at i) ≤ length s
  body-inside = omega (arith, start-rises (row_count s) s 4 (table_end s) (suc i) (omega arith), start-next s 4 (table_end s) i)

  pub name-inside : name_at s i + name_size s (row_at i) ≤ length s
  name-inside = omega (arith, body-inside)

  pub name-length : length (get_or (rows_of s) i no_row).name ≡ name_size s (row_at i)
  name-length = rw (row-at s i l) (part_length s (name_at s i) (name_size s (row_at i)) name-inside)

  pub body-length : length (get_or (rows_of s) i no_row).body ≡ body_size s (row_at i)
  body-length = rw (row-at s i l) (part_length s (body_at s i) (body_size s (row_at i)) body-inside)

  pub name-text : Text s (name_at s i) (get_or (rows_of s) i no_row).name
  name-text = rw (row-at s i l) (part-text s (name_at s i) (name_size s (row_at i)) name-inside)

  pub body-text : Text s (body_at s i) (get_or (rows_of s) i no_row).body
  body-text = rw (row-at s i l) (part-text s (body_at s i) (body_size s (row_at i)) body-inside)

  -- the size of the data, in whole numbers: since the sheet has them all, no product wraps
  pub body-size : length (get_or (rows_of s) i no_row).body ≡ (get_or (rows_of s) i no_row).n * (get_or (rows_of s) i no_row).m * size_of (get_or (rows_of s) i no_row).kind
  unfolding body_size
  body-size = body-length ∙ rw (row-at s i l)

  -- a zero in the name is a zero in the sheet
  pub name-zero : zero_in (get_or (rows_of s) i no_row).name 0 (length (get_or (rows_of s) i no_row).name) ≡ zero_in s (name_at s i) (name_size s (row_at i))
  name-zero =
      let b : List ℕ = (get_or (rows_of s) i no_row).name in
      ap (zero_in b 0) name-length
      ∙ zero_in-same (name_size s (row_at i)) b 0 s (name_at s i) (λ k m. ap (λ j. get_or b j 0) (zero-add k) ∙ sym (name-text k (rw name-length m)))

-- When a sheet is accepted

-- 24
pub record GoodRow (version : ℕ) (s : List ℕ) (t : ℕ) : Type 0 where
  pub typed : known version (row_kind s t) ≡ true
  pub named : 0 < name_size s t
  pub zeros : le 2 s (t + 14) ≡ 0

pub good-row : (version : ℕ) (s : List ℕ) (t : ℕ) → bad_row version s t ≡ false → GoodRow version s t
good-row version s t h =
    let parts : (((not (known version (row_kind s t)) || eqb (name_size s t) 0) ≡ false) × (not (eqb (le 2 s (t + 14)) 0) ≡ false)) = neither _ _ h in
    let first : ((not (known version (row_kind s t)) ≡ false) × (eqb (name_size s t) 0 ≡ false)) = neither _ _ parts.0 in
    let some : (name_size s t ≡ 0 → ⊥) = eqb-false _ _ first.1 in
    record { typed = not-false _ first.0; named = omega arith; zeros = eqb-true _ _ (not-false _ parts.1) }

pub row-good : (version : ℕ) (s : List ℕ) (t : ℕ) → GoodRow version s t → bad_row version s t ≡ false
row-good version s t h =
    neither-of (not (known version (row_kind s t)) || eqb (name_size s t) 0) _
    (neither-of (not (known version (row_kind s t))) _ (not-of _ h.typed) (ne_eqb (name_size s t) 0 (λ e. omega arith)))
    (not-of _ (eq-eqb _ _ h.zeros))

pub good-table : (version n : ℕ) (s : List ℕ) (t : ℕ) → bad_table version s t n ≡ false → (i : ℕ) → i < n → GoodRow version s (row_place t i)
unfolding bad_table
good-table version zero s t h i l = absurd (omega arith)
good-table version (suc n) s t h zero l = let e : t ≡ row_place t 0 = omega arith in rw e at (good-row version s t (neither (bad_row version s t) _ h).0)
good-table version (suc n) s t h (suc i) l =
    let e : row_place (t + 16) i ≡ row_place t (suc i) = omega arith in rw e at (good-table version n s (t + 16) (neither (bad_row version s t) _ h).1 i (omega arith))

pub table-good : (version n : ℕ) (s : List ℕ) (t : ℕ) → ((i : ℕ) → i < n → GoodRow version s (row_place t i)) → bad_table version s t n ≡ false
unfolding bad_table
table-good version zero s t h = refl
table-good version (suc n) s t h =
    neither-of _ _ (row-good version s t (let e : row_place t 0 ≡ t = omega arith in rw e at (h 0 (omega arith))))
    (table-good version n s (t + 16) (λ i l. let e : row_place t (suc i) ≡ row_place (t + 16) i = omega arith in rw e at (h (suc i) (omega arith))))

pub record Accepted (version : ℕ) (s : List ℕ) : Type 0 where
  pub long : 4 ≤ length s
  pub some : 0 < row_count s
  pub few : row_count s ≤ most_rows
  pub table : table_end s ≤ length s
  pub rows : (i : ℕ) → i < row_count s → GoodRow version s (row_at i)
  pub exact : Exact s
  pub full : (i : ℕ) → i < row_count s → Full s (name_at s i) (name_size s (row_at i))
  pub distinct : Distinct (row_names (rows_of s))
  pub numbers : any_nan_row (rows_of s) ≡ false

pub accepted : (version : ℕ) (s : List ℕ) → sheet_test version s ≡ 0 → Accepted version s
unfolding form_test sheet_test
accepted version s h =
    let parts = both (form_test version s) _ h in
    let from22 = both _ _ parts.0 in
    let from23 = both _ _ from22.1 in
    let from24 = both _ _ from23.1 in
    let from25 = both _ _ from24.1 in
    let from26 = both _ _ from25.1 in
    let count : (((ltb (length s) 4 || eqb (row_count s) 0) ≡ false) × (ltb most_rows (row_count s) ≡ false)) = neither _ _ (unmet _ _ from22.0) in
    let low : ((ltb (length s) 4 ≡ false) × (eqb (row_count s) 0 ≡ false)) = neither _ _ count.0 in
    let some : (row_count s ≡ 0 → ⊥) = eqb-false _ _ low.1 in
    let exact : Exact s = no-differ _ _ _ from25.0 ∙ bodies-end (row_count s) s 4 (table_end s) in
    let full : Each (λ r. zero_in r.name 0 (length r.name) ≡ false) (rows_of s) =
    map_each _ (λ r. r.name) (rows_of s) (one-false _ (row_names (rows_of s)) (unmet _ _ from26.0)) in
    record {
      long = ltb-false _ _ low.0;
      some = omega arith;
      few = ltb-false _ _ count.1;
      table = not-less _ _ _ from23.0;
      rows = good-table version (row_count s) s 4 (unmet _ _ from24.0);
      exact = exact;
      full = λ i l. no_zero s (name_at s i) (name_size s (row_at i)) (sym (name-zero s exact i l) ∙ each_at _ (rows_of s) no_row full i (rw rows-count l));
      distinct = twins-distinct (row_names (rows_of s)) (unmet _ _ from26.1);
      numbers = unmet _ _ parts.1;
    }

pub accepts : (version : ℕ) (s : List ℕ) → Accepted version s → sheet_test version s ≡ 0
unfolding form_test sheet_test
accepts version s h =
    none_of _ _ (none_of _ _ (passed _ _ (neither-of (ltb (length s) 4 || eqb (row_count s) 0) _
    (neither-of (ltb (length s) 4) _ (le-ltb _ _ h.long) (ne_eqb (row_count s) 0 (λ e. omega arith))) (le-ltb _ _ h.few)))
    (none_of _ _ (less-no _ _ _ h.table)
    (none_of _ _ (passed _ _ (table-good version (row_count s) s 4 h.rows))
    (none_of _ _ (differ-no _ _ _ (h.exact ∙ sym (bodies-end (row_count s) s 4 (table_end s))))
    (none_of _ _ (passed _ _ (false-one _ (row_names (rows_of s)) (each_map _ (λ r. r.name) (rows_of s) (at_each _ (rows_of s) no_row full))))
    (passed _ _ (distinct-twins (row_names (rows_of s)) h.distinct)))))))
    (passed _ _ h.numbers)
  where
    full : (i : ℕ) → i < length (rows_of s) → zero_in (get_or (rows_of s) i no_row).name 0 (length (get_or (rows_of s) i no_row).name) ≡ false
    full i l = let m : i < row_count s = rw rows-count at l in name-zero s h.exact i m ∙ zero-out s (name_at s i) (name_size s (row_at i)) (h.full i m)

-- The rows of an accepted sheet

-- fit for an image of this version
pub record RowOk (version : ℕ) (r : Row) : Type 0 where
  pub named : Named r.name
  pub short : length r.name ≤ 255
  pub typed : known version r.kind ≡ true
  pub size : length r.body ≡ r.n * r.m * size_of r.kind
  pub fit_n : r.n < 2 ^ 64
  pub fit_m : r.m < 2 ^ 32
  pub fit_kind : r.kind < 256

abbrev pub RowsOk : ℕ → List Row → Type 0
RowsOk version rs = (i : ℕ) → i < length rs → RowOk version (get_or rs i no_row)

pub row_named : (version : ℕ) (s : List ℕ) → Accepted version s → (i : ℕ) → i < row_count s → Named (get_or (rows_of s) i no_row).name
row_named version s ok i l = rw (row-at s i l) (part-named s (name_at s i) (name_size s (row_at i)) (ok.rows i l).named (ok.full i l))

-- a sheet of bytes
pub rows_ok : (version : ℕ) (s : List ℕ) → Octets s → Accepted version s → RowsOk version (rows_of s)
rows_ok version s h ok i l =
    let m : i < row_count s = rw (rows-count s) at l in
    record {
      named = row_named version s ok i m;
      short = omega (arith, name-length s ok.exact i m, h (row_at i + 13));
      typed = rw (row-at s i m) (ok.rows i m).typed;
      size = body-size s ok.exact i m;
      fit_n = rw (row-at s i m) (le-bound 8 s (row_at i) h);
      fit_m = rw (row-at s i m) (le-bound 4 s (row_at i + 8) h);
      fit_kind = rw (row-at s i m) (h (row_at i + 12));
    }
