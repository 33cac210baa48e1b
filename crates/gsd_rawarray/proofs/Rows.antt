-- Laws of a sheet of one row: what its row is, and that it passes 22 to 27 whatever the version.
use Prim.Native.Nat.{ℕ, ◌+◌, ◌*◌, ◌^◌, ◌≤◌, ◌<◌}
use mathlib.Core.Path.{◌≡◌, refl, sym, ◌∙◌, ap}
use mathlib.Core.Bool.{Bool, true, false, not, ◌||◌}
use mathlib.Core.List.{List, [], ◌∷◌, ◌++◌}
use native.Mathlib.Omega.{arith}
use lib.ListN.{length, take, length-append}
use lib.Seq.{take-append_seam, drop-append_seam, take_all, drop-drop}
use lib.Dec.{ltb, leb, eqb}
use borrow.Author.Tests.{lt-ltb, le-ltb, le-leb, ne_eqb}
use Rattle.gsd_format.specs.Bytes.{le, le_bytes, part, zero_in}
use Rattle.gsd_format.specs.Refusals.{one_of}
use Rattle.gsd_format.specs.Header.{version21}
use Rattle.gsd_format.specs.Types.{size_of, last_type, known}
use Rattle.gsd_format.specs.Names.{index_of}
use Rattle.gsd_format.specs.Opening.{twins}
use Rattle.gsd_format.proofs.Bytes.{le-back}
use Rattle.gsd_format.proofs.Refusals.{none_of, passed, neither-of, not-of, both_of, less-no, differ-no}
use Rattle.gsd_stores.specs.Sheet.{body_size, bad_table, bodies_end, rows_at, row_count, table_end, rows_of, row_names, any_zero, form_test}

-- a type below characters is known in every version
known-ever : (version kind : ℕ) → 0 < kind → kind ≤ 10 → known version kind ≡ true
unfolding last_type
known-ever version kind low high = both_of (ltb 0 kind) (leb kind (last_type version)) (lt-ltb 0 kind low) (by-test (eqb version version21))
  where
    by-test : (t : Bool) → leb kind (elim t [ true ↦ 11 | false ↦ 10 ]) ≡ true
    by-test true = le-leb kind 11 (omega arith)
    by-test false = le-leb kind 10 high

unfoldable pub one_row : ℕ → ℕ → ℕ → List ℕ → List ℕ → List ℕ
one_row n m kind name body = le_bytes 4 1 ++ le_bytes 8 n ++ le_bytes 4 m ++ (kind ∷ length name ∷ 0 ∷ 0 ∷ []) ++ name ++ body

module _ (n m kind : ℕ) (name body : List ℕ) (rows : n < 2 ^ 64) (columns : m < 2 ^ 32) (sized : length body ≡ n * m * size_of kind) where
  abbrev sheet : List ℕ
  sheet = one_row n m kind name body

  -- Its row

  row_n : le 8 sheet 4 ≡ n
  unfolding one_row le le_bytes
  row_n = le-back 8 n rows

  row-m : le 4 sheet 12 ≡ m
  unfolding one_row le le_bytes
  row-m = le-back 4 m columns

  row-size : body_size sheet 4 ≡ length body
  unfolding body_size one_row le_bytes
  row-size = (λ i. row_n i * row-m i * size_of kind) ∙ sym sized

  row-name : part sheet 20 (length name) ≡ name
  unfolding one_row le_bytes
  row-name = take-append_seam name body

  row-body : part sheet (20 + length name) (length body) ≡ body
  unfolding one_row le_bytes
  row-body =
      ap (take (length body)) (sym (drop-drop (length name) 20 sheet) ∙ drop-append_seam name body)
      ∙ take_all (length body) body (omega arith)

  pub one-row : rows_of sheet ≡ record { name = name; n = n; m = m; kind = kind; body = body } ∷ []
  unfolding rows_of rows_at one_row le le_bytes
  one-row = λ i.
      record { name = row-name i; n = row_n i; m = row-m i; kind = kind; body = (ap (part sheet (20 + length name)) row-size ∙ row-body) i } ∷ []

  -- Its form

  size : length sheet ≡ 20 + length name + length body
  unfolding one_row le_bytes
  size = omega (arith, length-append name body)

  count : row_count sheet ≡ 1
  unfolding one_row le le_bytes
  count = refl

  module _ (version : ℕ) (low : 0 < kind) (high : kind ≤ 10) (some : 0 < length name) (full : zero_in name 0 (length name) ≡ false) where
    t22 : (ltb (length sheet) 4 || eqb (row_count sheet) 0 || ltb 64 (row_count sheet)) ≡ false
    t22 =
        neither-of (ltb (length sheet) 4 || eqb (row_count sheet) 0) _
        (neither-of (ltb (length sheet) 4) _ (le-ltb (length sheet) 4 (omega (arith, size))) (ne_eqb (row_count sheet) 0 (λ z. omega (arith, count))))
        (le-ltb 64 (row_count sheet) (omega (arith, count)))

    t24 : bad_table version sheet 4 (row_count sheet) ≡ false
    unfolding bad_table one_row le le_bytes
    t24 =
        neither-of (not (known version kind) || eqb (length name) 0 || false) false
        (neither-of (not (known version kind) || eqb (length name) 0) false
        (neither-of (not (known version kind)) _ (not-of (known version kind) (known-ever version kind low high)) (ne_eqb (length name) 0 (λ z. omega (arith, some)))) refl)
        refl

    ends : bodies_end sheet 4 (table_end sheet) (row_count sheet) ≡ 20 + length name + length body
    unfolding bodies_end one_row le le_bytes
    ends = ap (λ k. 20 + length name + k) row-size

    t26 : any_zero (row_names (rows_of sheet)) ≡ false
    unfolding one_of
    t26 = ap (λ rs. any_zero (row_names rs)) one-row ∙ neither-of (zero_in name 0 (length name)) false full refl

    t27 : twins (row_names (rows_of sheet)) ≡ false
    unfolding twins
    t27 = ap (λ rs. twins (row_names rs)) one-row ∙ neither-of (ltb (index_of name []) 0) false (le-ltb (index_of name []) 0 (omega arith)) refl

    pub good-form : form_test version sheet ≡ 0
    unfolding form_test
    good-form =
        none_of _ _ (passed _ 22 t22)
        (none_of _ _ (less-no (length sheet) (table_end sheet) 23 (omega (arith, size, count)))
        (none_of _ _ (passed _ 24 t24)
        (none_of _ _ (differ-no (length sheet) _ 25 (size ∙ sym ends))
        (none_of _ _ (passed _ 26 t26) (passed _ 27 t27)))))
