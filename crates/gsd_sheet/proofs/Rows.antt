-- Laws of the sheet's tests as the code makes them: row by row, and pair by pair.
use Prim.Native.Nat.{ℕ, zero, suc, ◌+◌, ◌*◌, ◌-◌, ◌/◌, ◌≤◌, ◌<◌}
use mathlib.Core.Path.{◌≡◌, refl, sym, ◌∙◌, ap}
use mathlib.Core.Bool.{Bool, true, false, not, ◌||◌}
use mathlib.Core.List.{List, []}
use native.Mathlib.Nat.{zero-add, mul_assoc, mul-le-mul, div-lt_iff_lt-mul, mul-div_cancel}
use native.Mathlib.Numerals.{add-one}
use native.Mathlib.Omega.{arith}
use lib.ListN.{length, get_or, length-map, get_or-map}
use native.Mathlib.Decide.{dec_lt}
use lib.Dec.{ltb, eqb}
use Rattle.std.specs.List.{list_any, range_with_len}
use borrow.Author.Tests.{ltb-true, ltb-false, lt-ltb, le-ltb, eq-eqb, ne_eqb}
use Rattle.gsd_format.specs.Bytes.{le, part, zero_in}
use Rattle.gsd_format.specs.Types.{size_of, known}
use Rattle.gsd_format.specs.Names.{index_of}
use Rattle.gsd_format.specs.Opening.{twins}
use Rattle.gsd_format.specs.Refusals.{◌⇒◌, ◌▹◌, one_of}
use Rattle.gsd_format.proofs.Refusals.{first_of, stays, ▹-assoc, differ-no, same_test}
use Rattle.gsd_format.proofs.Lists.{at_each, at-any, true-one, false-one}
use Rattle.gsd_format.proofs.Ids.{index_at, index-least, index_is, places-distinct, distinct-twins, twin-twins}
use Rattle.gsd_stores.specs.Sheet.{row_kind, name_size, body_size, bad_row, bad_table, bodies_end, row_count, table_end, rows_of, nan_row, form_test, sheet_test}
use Rattle.gsd_stores.specs.Demand3.{no_row}
use Rattle.gsd_stores.specs.Sheet.{row_at, name_at, body_at, Exact}
use Rattle.gsd_format.specs.Elements.{any_nan}
use Rattle.gsd_format.proofs.Elements.{nan_same}
use Rattle.gsd_stores.proofs.Sheet.{start_first, start-next, start-rises, bodies-end, rows-count, row-at, name-behind, name-inside, body-inside}
use Rattle.gsd_stores.proofs.Sheet.{name-length, name-zero, body-length, body-text, body-size}
use Rattle.gsd_sheet.specs.Columns.{name_from, data_from, Filled, Kept}
use Rattle.gsd_sheet.specs.Rows.{table_test, end_test, rows_test, sheet_names, name_of, repeats, Located}
use Rattle.gsd_sheet.proofs.Columns.{filled-kept}

-- the size of a row's type, and whether a version knows it, found in two steps
pub kind-size : (s : List ℕ) (t k z : ℕ) → k ≡ row_kind s t → z ≡ size_of k → z ≡ size_of (row_kind s t)
kind-size s t k z e f = rw e at f

pub kind-known : (version : ℕ) (s : List ℕ) (t k : ℕ) (r : Bool) → k ≡ row_kind s t → r ≡ known version k → known version (row_kind s t) ≡ r
kind-known version s t k r e f = ap (known version) (sym e) ∙ sym f

-- 24: a row's tests in their order
module _ (version : ℕ) (s : List ℕ) (t : ℕ) where
  pub bad_kind : known version (row_kind s t) ≡ false → bad_row version s t ≡ true
  bad_kind e = rw e

  pub bad-name : known version (row_kind s t) ≡ true → name_size s t ≡ 0 → bad_row version s t ≡ true
  bad-name e f = rw (e, f)

  pub bad-spare : known version (row_kind s t) ≡ true → (name_size s t ≡ 0 → ⊥) → bad_row version s t ≡ not (eqb (le 2 s (t + 14)) 0)
  bad-spare e f = rw (e, ne_eqb (name_size s t) 0 f)

-- Does a test hold of one of n numbers from a on? It does where one answer follows from such a number, and the other from none.
pub any-decides : (t : ℕ → Bool) (a n : ℕ) (r : Bool) → ((k : ℕ) → a ≤ k → k < a + n → t k ≡ true → r ≡ true)
    → (((k : ℕ) → a ≤ k → k < a + n → t k ≡ false) → r ≡ false) → list_any t (range_with_len a n) ≡ r
any-decides t a zero r one none = sym (none (λ k l m. absurd (omega arith)))
any-decides t a (suc n) r one none = go (t a) refl (any-decides t (a + 1) n r)
  where
    later : t a ≡ false → ((k : ℕ) → a + 1 ≤ k → k < a + 1 + n → t k ≡ false) → (k : ℕ) → a ≤ k → k < a + suc n → t k ≡ false
    later e f k l m = elim (dec_lt a k) [ yes h ↦ f k (omega arith) (omega arith) | no h ↦ (let q : k ≡ a = omega arith in ap t q) ∙ e ]

    go : (b : Bool) → t a ≡ b
        → (((k : ℕ) → a + 1 ≤ k → k < a + 1 + n → t k ≡ true → r ≡ true) → (((k : ℕ) → a + 1 ≤ k → k < a + 1 + n → t k ≡ false) → r ≡ false)
        → list_any t (range_with_len (a + 1) n) ≡ r)
        → (t a || list_any t (range_with_len (a + 1) n)) ≡ r
    go true e rest = rw e (sym (one a (omega arith) (omega arith) e))
    go false e rest = rw e (rest (λ k l m q. one k (omega arith) (omega arith) q) (λ f. none (later e f)))

-- the same of the rows of a list
pub any-one : {A : Type 0} (p : A → Bool) (l : List A) (d : A) (n : ℕ) → length l ≡ n → list_any (λ i. p (get_or l i d)) (range_with_len 0 n) ≡ one_of p l
any-one p l d n e =
    any-decides (λ i. p (get_or l i d)) 0 n (one_of p l) (λ k z m h. true-one p l (at-any (λ x. p x ≡ true) l d k (omega arith) h))
    (λ f. false-one p l (at_each (λ x. p x ≡ false) l d (λ k m. f k (omega arith) (omega arith))))

-- the table's rows from the a-th on
pub any-bad : (version : ℕ) (s : List ℕ) (a n : ℕ) → list_any (λ i. bad_row version s (row_at i)) (range_with_len a n) ≡ bad_table version s (row_at a) n
unfolding bad_table
any-bad version s a zero = refl
any-bad version s a (suc n) =
    let f : row_at (a + 1) ≡ row_at a + 16 = omega arith in
    ap (λ b. bad_row version s (row_at a) || b) (any-bad version s (a + 1) n ∙ ap (λ t. bad_table version s t n) f)

-- 22 to 24 in their order
module _ (version : ℕ) (s : List ℕ) where
  pub table-short : length s < 4 → table_test version s ≡ 22
  unfolding table_test ◌⇒◌ ◌▹◌
  table-short h = simp (lt-ltb (length s) 4 h)

  pub table_none : 4 ≤ length s → row_count s ≡ 0 → table_test version s ≡ 22
  unfolding table_test ◌⇒◌ ◌▹◌
  table_none h e = simp (le-ltb (length s) 4 h, eq-eqb (row_count s) 0 e)

  pub table-many : 4 ≤ length s → 64 < row_count s → table_test version s ≡ 22
  unfolding table_test ◌⇒◌ ◌▹◌
  table-many h l = simp (le-ltb (length s) 4 h, ne_eqb (row_count s) 0 (λ e. omega arith), lt-ltb 64 (row_count s) l)

  module _ (h : 4 ≤ length s) (some : 0 < row_count s) (few : row_count s ≤ 64) where
    pub table-cut : length s < table_end s → table_test version s ≡ 23
    unfolding table_test ◌⇒◌ ◌▹◌
    table-cut l = simp (le-ltb (length s) 4 h, ne_eqb (row_count s) 0 (λ e. omega arith), le-ltb 64 (row_count s) few, lt-ltb (length s) (table_end s) l)

    pub table-whole : table_end s ≤ length s → table_test version s ≡ (bad_table version s 4 (row_count s) ⇒ 24)
    unfolding table_test ◌⇒◌ ◌▹◌
    table-whole l = simp (le-ltb (length s) 4 h, ne_eqb (row_count s) 0 (λ e. omega arith), le-ltb 64 (row_count s) few, le-ltb (length s) (table_end s) l)

-- 25: a quotient tells whether a product is greater, and no product is made that could wrap
pub quotient-tells : (room n each : ℕ) → 0 < each → ltb (room / each) n ≡ ltb room (n * each)
quotient-tells room n each p = same_test _ _ _ _ (div-lt_iff_lt-mul p).0 (div-lt_iff_lt-mul p).1

pub product-fits : (n each : ℕ) → n < 268435456 → each < 34359738368 → n * each < 18446744073709551616
product-fits n each l m = let h : n * each ≤ 268435456 * 34359738368 = mul-le-mul {n₂ = 268435456} {m₂ = 34359738368} (omega arith) (omega arith) in omega arith

pub size-bound : (m size : ℕ) → m < 4294967296 → size ≤ 8 → m * size < 34359738368
size-bound m size l h = let e : m * size ≤ 4294967295 * 8 = mul-le-mul {n₂ = 4294967295} {m₂ = 8} (omega arith) h in omega arith

-- the bytes of a row's data as N times the rest
pub body-product : (s : List ℕ) (t : ℕ) → le 8 s t * (le 4 s (t + 8) * size_of (row_kind s t)) ≡ body_size s t
unfolding body_size
body-product s t = sym (mul_assoc (le 8 s t) (le 4 s (t + 8)) (size_of (row_kind s t)))

pub name-first : (s : List ℕ) → name_at s 0 ≡ table_end s
name-first s = start_first s 4 (table_end s)

-- the data end with the sheet, or 25
pub exact-end : (s : List ℕ) → Exact s → end_test s ≡ 0
unfolding end_test
exact-end s e = differ-no _ _ _ (e ∙ sym (bodies-end (row_count s) s 4 (table_end s)))

pub other-end : (s : List ℕ) → (Exact s → ⊥) → end_test s ≡ 25
unfolding end_test ◌⇒◌
other-end s f =
    let n : eqb (length s) (bodies_end s 4 (table_end s) (row_count s)) ≡ false =
    ne_eqb _ _ (λ e. f (e ∙ bodies-end (row_count s) s 4 (table_end s))) in
    rw n

-- a name begins where the row before it ends
pub name-next : (s : List ℕ) (i : ℕ) → name_at s (i + 1) ≡ body_at s i + body_size s (row_at i)
name-next s i = rw add-one (start-next s 4 (table_end s) i)

-- a row that ends behind the sheet's end
pub late-end : (s : List ℕ) (i : ℕ) → i ≤ row_count s → length s < name_at s i → end_test s ≡ 25
late-end s i l h = other-end s (λ e. omega (arith, start-rises (row_count s) s 4 (table_end s) i l))

-- the rows before the i-th are placed, and the i-th begins at p
pub record Placed (s : List ℕ) (i p : ℕ) (c : List ℕ) : Type 0 where
  pub next : p ≡ name_at s i
  pub inside : p ≤ length s
  pub name : Filled 0 (name_at s) c i
  pub body : Filled 65 (body_at s) c i

-- Rows that are located

pub names-count : (s : List ℕ) → length (sheet_names s) ≡ row_count s
names-count s = length-map (rows_of s) (λ r. r.name) ∙ rows-count s

name-row : (s : List ℕ) (i : ℕ) → name_of s i ≡ (get_or (rows_of s) i no_row).name
name-row s i = get_or-map (λ r. r.name) (rows_of s) i no_row

module _ {s c : List ℕ} (h : Located s c) (i : ℕ) (l : i < row_count s) where
  -- the name and the data, one behind the other
  pub located-room : (name_from c i ≤ data_from c i) × (data_from c i ≤ length s)
  located-room = omega (arith, h.name.at i (omega arith), h.body.at i l, name-inside s h.exact i l)

  pub located_end : (data_from c i ≤ name_from c (i + 1)) × (name_from c (i + 1) ≤ length s)
  located_end = omega (arith, h.name.at (i + 1) (omega arith), h.body.at i l, name-next s i, body-inside s h.exact i l)

  name-span : data_from c i - name_from c i ≡ name_size s (row_at i)
  name-span = omega (arith, h.name.at i (omega arith), h.body.at i l)

  body-span : name_from c (i + 1) - data_from c i ≡ body_size s (row_at i)
  body-span = omega (arith, h.name.at (i + 1) (omega arith), h.body.at i l, name-next s i)

  pub located-name : name_of s i ≡ part s (name_from c i) (data_from c i - name_from c i)
  located-name = name-row s i ∙ ap (λ r. r.name) (row-at s i l) ∙ rw (name-span, h.name.at i (omega arith))

  pub located-body : (get_or (rows_of s) i no_row).body ≡ part s (data_from c i) (name_from c (i + 1) - data_from c i)
  located-body = ap (λ r. r.body) (row-at s i l) ∙ rw (body-span, h.body.at i l)

  pub located-length : length (name_of s i) ≡ data_from c i - name_from c i
  located-length = ap length (name-row s i) ∙ name-length s h.exact i l ∙ sym name-span

  pub located-zero : zero_in (name_of s i) 0 (length (name_of s i)) ≡ zero_in s (name_from c i) (data_from c i - name_from c i)
  located-zero = rw name-row (name-zero s h.exact i l ∙ rw (name-span, h.name.at i (omega arith)))

  -- row i of the table
  pub located-row : row_at i + 16 ≤ length s
  located-row = omega (arith, name-behind s h.exact i l, name-inside s h.exact i l)

  pub located-kind : (get_or (rows_of s) i no_row).kind ≡ row_kind s (row_at i)
  located-kind = ap (λ r. r.kind) (row-at s i l)

  -- a row of a type of this size: how many elements its data are, and whether one of them, where they lie in the sheet, is a NaN
  module _ (kind size : ℕ) (typed : row_kind s (row_at i) ≡ kind) (sized : size_of kind ≡ size) where
    type-is : (get_or (rows_of s) i no_row).kind ≡ kind
    type-is = located-kind ∙ typed

    body_is : length (get_or (rows_of s) i no_row).body ≡ (get_or (rows_of s) i no_row).n * (get_or (rows_of s) i no_row).m * size
    body_is = body-size s h.exact i l ∙ ap (λ k. (get_or (rows_of s) i no_row).n * (get_or (rows_of s) i no_row).m * k) (ap size_of type-is ∙ sized)

    located-count : 0 < size → (name_from c (i + 1) - data_from c i) / size ≡ (get_or (rows_of s) i no_row).n * (get_or (rows_of s) i no_row).m
    located-count p = ap (λ k. k / size) (body-span ∙ sym (body-length s h.exact i l) ∙ body_is) ∙ mul-div_cancel ((get_or (rows_of s) i no_row).n * (get_or (rows_of s) i no_row).m) p

    pub located-nan : 0 < size → any_nan kind s (data_from c i) ((name_from c (i + 1) - data_from c i) / size) ≡ nan_row (get_or (rows_of s) i no_row)
    located-nan p =
        let r = get_or (rows_of s) i no_row in
        ap (any_nan kind s (data_from c i)) (located-count p) ∙ ap (λ q. any_nan kind s q (r.n * r.m)) (h.body.at i l)
        ∙ sym (nan_same (r.n * r.m) kind r.body 0 s (body_at s i) (λ k m. ap (λ j. get_or r.body j 0) (zero-add k) ∙ sym (body-text s h.exact i l k (rw (body_is, ← sized) m))))
        ∙ ap (λ k. any_nan k r.body 0 (r.n * r.m)) (sym type-is)

-- later columns may change
pub located-kept : {s c c' : List ℕ} → Located s c → Kept 129 c c' → Located s c'
located-kept h k = record {
  few = h.few;
  exact = h.exact;
  name = filled-kept k (omega (arith, h.few)) h.name;
  body = filled-kept k (omega (arith, h.few)) h.body;
}

-- Names

-- 27: a name is repeated when one before it is the same
pub repeats-yes : (ns : List (List ℕ)) (i j : ℕ) → j < i → i < length ns → get_or ns j [] ≡ get_or ns i [] → repeats ns i ≡ true
repeats-yes ns i j m l e = lt-ltb (index_of (get_or ns i []) ns) i (omega (arith, index-least (get_or ns i []) ns j (omega arith) e))

pub repeats-no : (ns : List (List ℕ)) (i : ℕ) → i < length ns → ((j : ℕ) → j < i → get_or ns j [] ≡ get_or ns i [] → ⊥) → repeats ns i ≡ false
repeats-no ns i l f = le-ltb (index_of (get_or ns i []) ns) i (omega (arith, index_is (get_or ns i []) ns i l refl f))

-- two names are the same when one is repeated
pub twins-yes : (ns : List (List ℕ)) (i : ℕ) → i < length ns → repeats ns i ≡ true → twins ns ≡ true
twins-yes ns i l h =
    let m : index_of (get_or ns i []) ns < i = ltb-true _ _ h in
    twin-twins ns (record { i = index_of (get_or ns i []) ns; j = i; before = m; inside = l; equal = index_at (get_or ns i []) ns (omega arith) })

pub twins-no : (ns : List (List ℕ)) → ((i : ℕ) → i < length ns → repeats ns i ≡ false) → twins ns ≡ false
twins-no ns f = distinct-twins ns (places-distinct ns (λ i j m l e.
    omega (arith, index-least (get_or ns j []) ns i (omega arith) e, ltb-false (index_of (get_or ns j []) ns) j (f j l))))

-- The whole test

-- the first part that refuses decides
module _ (version : ℕ) (s : List ℕ) where
  parts : sheet_test version s ≡ table_test version s ▹ end_test s ▹ rows_test s
  unfolding form_test sheet_test table_test end_test rows_test
  parts = simp ▹-assoc

  pub number-table : (table_test version s ≡ 0 → ⊥) → sheet_test version s ≡ table_test version s
  number-table f = parts ∙ stays _ _ f

  pub number-end : table_test version s ≡ 0 → (end_test s ≡ 0 → ⊥) → sheet_test version s ≡ end_test s
  number-end e f = parts ∙ first_of _ _ e ∙ stays _ _ f

  pub number-rows : table_test version s ≡ 0 → end_test s ≡ 0 → sheet_test version s ≡ rows_test s
  number-rows e f = parts ∙ first_of _ _ e ∙ first_of _ _ f
