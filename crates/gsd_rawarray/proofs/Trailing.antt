-- What follows a file's data is ignored: all that is read of it lies before.
use Prim.Native.Nat.{ℕ, ◌+◌, ◌*◌, ◌≤◌}
use mathlib.Core.Path.{◌≡◌, sym, ◌∙◌, ap}
use mathlib.Core.Bool.{true, not}
use mathlib.Core.List.{List, ◌∷◌, [], ◌++◌}
use native.Mathlib.Decide.{ℕ_discrete}
use native.Mathlib.Omega.{arith}
use lib.ListN.{length, take, length-append, get_or-append}
use lib.Dec.{eqb}
use borrow.Author.Tests.{le-leb, eq-eqb}
use Rattle.gsd_format.specs.Bytes.{le, le_bytes, part, same}
use Rattle.gsd_format.specs.Refusals.{◌⇒◌, ◌▹◌}
use Rattle.gsd_format.proofs.Bytes.{le_same, part_same}
use Rattle.gsd_format.proofs.Refusals.{both_of, first_of}
use Rattle.gsd_rawarray.specs.File.{raw_magic}
use Rattle.gsd_rawarray.specs.Said.{width, data_length, dimensions, data_start, raw_data, raw_n, raw_m, raw_kind, kind_of}
use Rattle.gsd_rawarray.specs.Requests.{dimensioned, filled, raw_test, bad_name, raw_table, raw_sheet, read_test}
use Rattle.gsd_rawarray.specs.Back.{Ignored}
use Rattle.gsd_rawarray.proofs.Said.{n-one, n-two, m-one, m-two, two, long, longer, dims-one, dims-two}
use Rattle.gsd_rawarray.proofs.Requests.{Passed, file-passed, gives-0}
use Rattle.gsd_rawarray.proofs.Sheets.{product, data-inside}

module _ (f more : List ℕ) (h : raw_test f ≡ 0) where
  abbrev longer-file : List ℕ
  longer-file = f ++ more

  passed : Passed f
  passed = file-passed f h

  grown : length longer-file ≡ length f + length more
  grown = length-append f more

  -- numbers
  word : (i : ℕ) → i + 8 ≤ length f → le 8 longer-file i ≡ le 8 f i
  word i l = le_same 8 longer-file i f i (λ k m. get_or-append f more 0 (i + k) (omega arith))

  front : take 8 longer-file ≡ take 8 f
  front = part_same longer-file 0 f 0 8 (omega (arith, grown, passed.long)) (omega (arith, passed.long)) (λ k m. get_or-append f more 0 (0 + k) (omega (arith, passed.long)))

  same-dims : dimensions longer-file ≡ dimensions f
  same-dims = word 40 passed.long

  same_size : data_length longer-file ≡ data_length f
  same_size = word 32 (omega (arith, passed.long))

  same_kind : raw_kind longer-file ≡ raw_kind f
  same_kind = λ i. kind_of (word 16 (omega (arith, passed.long)) i) (word 24 (omega (arith, passed.long)) i)

  -- N, M and the dimensions, one or two
  shape : (raw_n longer-file ≡ raw_n f) × ((raw_m longer-file ≡ raw_m f) × (dimensioned longer-file ≡ true))
  shape = go (ℕ_discrete (dimensions f) 1)
    where
      go : Dec (dimensions f ≡ 1) → (raw_n longer-file ≡ raw_n f) × ((raw_m longer-file ≡ raw_m f) × (dimensioned longer-file ≡ true))
      go (yes one) = (
        sym (n-one longer-file (same-dims ∙ one)) ∙ word 48 (long f passed.dims) ∙ n-one f one,
        (
          sym (m-one longer-file (same-dims ∙ one)) ∙ m-one f one,
          sym (dims-one longer-file (same-dims ∙ one)) ∙ le-leb 56 (length longer-file) (omega (arith, grown, long f passed.dims)),
        ),
      )
      go (no n) = (
        sym (n-two longer-file (λ e. n (sym same-dims ∙ e))) ∙ word 56 (longer f passed.dims n) ∙ n-two f n,
        (
          sym (m-two longer-file (λ e. n (sym same-dims ∙ e))) ∙ word 48 (long f passed.dims) ∙ m-two f n,
          sym (dims-two longer-file (same-dims ∙ two f passed.dims n)) ∙ le-leb 64 (length longer-file) (omega (arith, grown, longer f passed.dims n)),
        ),
      )

  whole : filled longer-file ≡ true
  whole =
      both_of (eqb (data_length longer-file) (raw_n longer-file * raw_m longer-file * width longer-file)) _
      (eq-eqb (data_length longer-file) (raw_n longer-file * raw_m longer-file * width longer-file)
      (same_size ∙ product f passed.whole ∙ sym (λ i. shape.0 i * shape.1.0 i * word 24 (omega (arith, passed.long)) i)))
      (le-leb (data_start longer-file + data_length longer-file) (length longer-file) (omega (arith, grown, same-dims, same_size, data-inside f passed.whole)))

  good : raw_test longer-file ≡ 0
  good =
      sym (gives-0 longer-file (omega (arith, grown, passed.long)) (ap (λ t. same t raw_magic) front ∙ passed.begins)
      (ap (λ w. eqb w 0) (word 8 (omega (arith, passed.long))) ∙ passed.unflagged) (λ e. passed.typed (sym same_kind ∙ e)) shape.1.1 whole
      (omega (arith, shape.1.0, passed.few)))

  same-data : raw_data longer-file ≡ raw_data f
  unfolding raw_data
  same-data =
      (λ i. part longer-file (48 + 8 * same-dims i) (same_size i))
      ∙ part_same longer-file (data_start f) f (data_start f) (data_length f) (omega (arith, grown, data-inside f passed.whole)) (data-inside f passed.whole)
      (λ k l. get_or-append f more 0 (data_start f + k) (omega (arith, data-inside f passed.whole)))

  pub ignored : Ignored f more
  unfolding read_test raw_sheet raw_table
  ignored = record {
    same_number = λ label room.
        first_of (raw_test longer-file) _ good ∙ ap (λ n. (bad_name label ⇒ 78) ▹ (not (eqb room (20 + length label + n)) ⇒ 79)) same_size
        ∙ sym (first_of (raw_test f) _ h);
    same_sheet = λ label i.
        le_bytes 4 1 ++ le_bytes 8 (shape.0 i) ++ le_bytes 4 (shape.1.0 i) ++ (same_kind i ∷ length label ∷ 0 ∷ 0 ∷ []) ++ label ++ same-data i;
  }
