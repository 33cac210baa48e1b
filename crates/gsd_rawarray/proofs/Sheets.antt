-- Laws of the sheet made of a file: its data, its table, its parts as their stores come, and its length.
use Prim.Native.Nat.{ℕ, ◌+◌, ◌*◌, ◌/◌, ◌%◌, ◌≤◌, ◌<◌}
use mathlib.Core.Path.{◌≡◌, refl, sym, ◌∙◌, ap}
use mathlib.Core.Bool.{true}
use mathlib.Core.List.{List, [], ◌∷◌, ◌++◌}
use native.Mathlib.Omega.{arith}
use lib.ListN.{length, length-append}
use lib.Dec.{eqb}
use borrow.Author.Tests.{eqb-true, leb-true}
use Rattle.gsd_format.specs.Bytes.{le_bytes, part, stored}
use Rattle.gsd_format.proofs.Bytes.{part_length, store-more, stored-whole}
use Rattle.gsd_format.proofs.Refusals.{both_true}
use Rattle.gsd_rawarray.specs.Said.{width, data_length, data_start, raw_data, raw_n, raw_m, raw_kind}
use Rattle.gsd_rawarray.specs.Requests.{filled, raw_table, raw_sheet, sheet_length}

-- The data

module _ (f : List ℕ) (h : filled f ≡ true) where
  pub product : data_length f ≡ raw_n f * raw_m f * width f
  product = eqb-true (data_length f) (raw_n f * raw_m f * width f) (both_true (eqb (data_length f) (raw_n f * raw_m f * width f)) _ h).0

  pub data-inside : data_start f + data_length f ≤ length f
  data-inside = leb-true (data_start f + data_length f) (length f) (both_true (eqb (data_length f) (raw_n f * raw_m f * width f)) _ h).1

  pub data-length : length (raw_data f) ≡ data_length f
  unfolding raw_data
  data-length = part_length f (data_start f) (data_length f) data-inside

-- as code keeps them
pub data-part : (f : List ℕ) (start size : ℕ) → start ≡ data_start f → size ≡ data_length f → part f start size ≡ raw_data f
unfolding raw_data
data-part f start size a n = λ i. part f (a i) (n i)

-- The table

-- type and name length with two spare bytes are one number
two_bytes : (a b : ℕ) → a < 256 → b < 256 → le_bytes 4 (a + 256 * b) ≡ a ∷ b ∷ 0 ∷ 0 ∷ []
unfolding le_bytes
two_bytes a b h g =
    let low : (a + 256 * b) % 256 ≡ a = omega arith in
    let rest : (a + 256 * b) / 256 ≡ b = omega arith in
    let high : b % 256 ≡ b = omega arith in
    let none : b / 256 ≡ 0 = omega arith in
    rw (low, rest, high, none)

-- the table as its stores come
pub table-stored : (f : List ℕ) (size : ℕ) (sheet a b c after : List ℕ) (n m kind : ℕ) → n ≡ raw_n f → m ≡ raw_m f → kind ≡ raw_kind f → kind < 256 → size < 256 →
    a ≡ stored sheet 0 (le_bytes 4 1) → b ≡ stored a 4 (le_bytes 8 n) → c ≡ stored b 12 (le_bytes 4 m) → after ≡ stored c 16 (le_bytes 4 (kind + 256 * size)) →
    after ≡ stored sheet 0 (raw_table f size)
unfolding raw_table le_bytes
table-stored f size sheet a b c after n m kind en em ek k l ha hb hc hd =
    store-more sheet c after 0 16 _ _ (store-more sheet b c 0 12 _ _ (store-more sheet a b 0 4 _ _ ha refl hb) refl hc) refl (hd ∙ ap (stored c 16) (two_bytes kind size k l))
    ∙ (λ i. stored sheet 0 (le_bytes 4 1 ++ le_bytes 8 (en i) ++ le_bytes 4 (em i) ++ (ek i ∷ size ∷ 0 ∷ 0 ∷ [])))

table-length : (f : List ℕ) (size : ℕ) → length (raw_table f size) ≡ 20
unfolding raw_table le_bytes
table-length f size = refl

-- The sheet

pub sheet-length : (f name : List ℕ) → filled f ≡ true → length (raw_sheet f name) ≡ sheet_length f name
unfolding raw_sheet
sheet-length f name h =
    omega (arith, length-append (raw_table f (length name) ++ name) (raw_data f), length-append (raw_table f (length name)) name, table-length f (length name), data-length f h)

-- table, name and data, stored in a slice of that length, are the sheet
pub sheet-written : (f name sheet a b after : List ℕ) → filled f ≡ true → length sheet ≡ sheet_length f name →
    a ≡ stored sheet 0 (raw_table f (length name)) → b ≡ stored a 20 name → after ≡ stored b (20 + length name) (raw_data f) → after ≡ raw_sheet f name
unfolding raw_sheet
sheet-written f name sheet a b after h n ha hb hc =
    store-more sheet b after 0 (20 + length name) (raw_table f (length name) ++ name) (raw_data f)
    (store-more sheet a b 0 20 (raw_table f (length name)) name ha (omega (arith, table-length f (length name))) hb)
    (omega (arith, length-append (raw_table f (length name)) name, table-length f (length name))) hc
    ∙ stored-whole sheet (raw_table f (length name) ++ name ++ raw_data f) (sheet-length f name h ∙ sym n)
