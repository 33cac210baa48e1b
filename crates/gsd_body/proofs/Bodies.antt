-- Laws of a body: its parts as their stores come, for one column and for three, and its length.
use Prim.Native.Nat.{ℕ, ◌+◌, ◌*◌}
use mathlib.Core.Path.{◌≡◌, sym, ◌∙◌, ap}
use mathlib.Core.Bool.{true, ◌||◌}
use mathlib.Core.List.{List, ◌++◌}
use native.Mathlib.Nat.{add-mul, mul-one, mul_assoc}
use native.Mathlib.Omega.{arith}
use lib.ListN.{length, length-append}
use lib.Dec.{eqb}
use lib.Ieee.{Float, to_bits}
use borrow.Author.Tests.{eqb-true, ne_eqb}
use Rattle.gsd_format.specs.Bytes.{stored}
use Rattle.gsd_format.specs.Types.{size_of}
use Rattle.gsd_format.proofs.Bytes.{stored-then}
use Rattle.gsd_format.proofs.Refusals.{right-decides}
use Rattle.gsd_columns.specs.Columns.{format_of, column, less, more}
use Rattle.gsd_columns.specs.Scans.{Extremes}
use Rattle.gsd_xdr.specs.Xdr.{be_bytes, be_row, numbers}
use Rattle.gsd_xdr.proofs.Xdr.{be_bytes-length, row-length}
use Rattle.gsd_body.specs.Body.{extreme_bits, body_of}

-- one of two that is not the first is the second
pub second-of : (x a b : ℕ) → (eqb x a || eqb x b) ≡ true → (x ≡ a → ⊥) → x ≡ b
second-of x a b h n = eqb-true x b (sym (right-decides (eqb x a) (eqb x b) (ne_eqb x a n)) ∙ h)

-- what is stored behind a text makes it longer
pub store-more : (s t u : List ℕ) (i j : ℕ) (a b : List ℕ) → t ≡ stored s i a → i + length a ≡ j → u ≡ stored t j b → u ≡ stored s i (a ++ b)
store-more s t u i j a b e n f = f ∙ ap (λ l. stored l j b) e ∙ stored-then s i a b j n

-- how long two numbers in a row are, three, and six
pub two-long : (k v w : ℕ) → length (be_bytes k v ++ be_bytes k w) ≡ 2 * k
two-long k v w = length-append (be_bytes k v) (be_bytes k w) ∙ omega (arith, be_bytes-length k v, be_bytes-length k w)

pub three-long : (k v w x : ℕ) → length (be_bytes k v ++ be_bytes k w ++ be_bytes k x) ≡ 3 * k
three-long k v w x = length-append (be_bytes k v ++ be_bytes k w) (be_bytes k x) ∙ omega (arith, two-long k v w, be_bytes-length k x)

pub six-long : (k v w x v' w' x' : ℕ) →
    length ((be_bytes k v ++ be_bytes k w ++ be_bytes k x) ++ (be_bytes k v' ++ be_bytes k w' ++ be_bytes k x')) ≡ 6 * k
six-long k v w x v' w' x' =
    length-append (be_bytes k v ++ be_bytes k w ++ be_bytes k x) (be_bytes k v' ++ be_bytes k w' ++ be_bytes k x')
    ∙ omega (arith, three-long k v w x, three-long k v' w' x')

-- of a type with this size
module _ (kind size : ℕ) (sized : size_of kind ≡ size) (img : List ℕ) (at n : ℕ) where
  abbrev bytes : Float → List ℕ
  bytes x = be_bytes size (to_bits (format_of kind) x)

  -- the body of one column
  pub body-one : (a b : Float) → Extremes (column kind img at 1 0) n a b →
      bytes a ++ bytes b ++ be_row size (numbers size img at) n ≡ body_of kind img at 1 n
  unfolding body_of be_row
  body-one a b x = rw (sized, mul-one, x.smallest, x.largest)

  -- the body of three
  pub body-three : (count : ℕ) → n * 3 ≡ count → (a b c d e f : Float) → Extremes (column kind img at 3 0) n a d → Extremes (column kind img at 3 1) n b e →
      Extremes (column kind img at 3 2) n c f →
      (bytes a ++ bytes b ++ bytes c) ++ (bytes d ++ bytes e ++ bytes f) ++ be_row size (numbers size img at) count ≡ body_of kind img at 3 n
  unfolding body_of be_row
  body-three count long a b c d e f x y z = rw (sized, ← long, x.smallest, y.smallest, z.smallest, x.largest, y.largest, z.largest)

pub body-length : (kind : ℕ) (img : List ℕ) (at m n : ℕ) → length (body_of kind img at m n) ≡ (2 + n) * m * size_of kind
unfolding body_of
body-length kind img at m n =
    let size = size_of kind in
    let least = extreme_bits less kind img at m n in
    let most = extreme_bits more kind img at m n in
    length-append (be_row size least m ++ be_row size most m) (be_row size (numbers size img at) (n * m))
    ∙ (λ i. length-append (be_row size least m) (be_row size most m) i + row-length size (numbers size img at) (n * m) i)
    ∙ (λ i. row-length size least m i + row-length size most m i + n * m * size)
    ∙ (let e : (2 + n) * m ≡ 2 * m + n * m = add-mul 2 n m in
    let f : (2 + n) * m * size ≡ 2 * m * size + n * m * size = ap (λ k. k * size) e ∙ add-mul (2 * m) (n * m) size in
    omega (arith, f, mul_assoc 2 m size))

-- the body by type and M as they turned out to be
pub body-as : (kind kind' m m' : ℕ) (img : List ℕ) (at n : ℕ) (file after : List ℕ) → kind ≡ kind' → m ≡ m' →
    after ≡ stored file 28 (body_of kind' img at m' n) → after ≡ stored file 28 (body_of kind img at m n)
body-as kind kind' m m' img at n file after k l h = h ∙ sym (λ i. stored file 28 (body_of (k i) img at (l i) n))
