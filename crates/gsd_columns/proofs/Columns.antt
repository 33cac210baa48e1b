-- Laws of a scan: neither a value that stands where no element is a NaN, nor an extreme of such values, is one.
use Prim.Native.Nat.{ℕ, ◌+◌, ◌*◌, ◌<◌}
use mathlib.Core.Path.{◌≡◌, refl, sym, ◌∙◌, ap, subst⁻¹}
use mathlib.Core.Bool.{Bool, false, true≢false, not}
use mathlib.Core.List.{List}
use native.Mathlib.Nat.{mul-le-mul_right, suc-mul}
use native.Mathlib.Omega.{arith}
use lib.Dec.{T}
use lib.Ieee.{Float, of_bits, is_nan}
use Rattle.gsd_format.specs.Bytes.{le}
use Rattle.gsd_format.specs.Types.{size_of}
use Rattle.gsd_format.specs.Elements.{nan_element, NanAt, any_nan}
use Rattle.gsd_format.proofs.Elements.{nan-in}
use Rattle.gsd_columns.specs.Columns.{format_of, column, less, more}
use Rattle.gsd_columns.specs.Scans.{nth, Extremes, Patterned}
use Rattle.gsd_columns.proofs.Extremes.{refuted, less-orders, more-orders, extreme-number}

-- where none of n elements of a type is a NaN, none of them is
pub numbers-at : (kind size : ℕ) → size_of kind ≡ size → (s : List ℕ) (at n : ℕ) → any_nan kind s at n ≡ false →
    (k : ℕ) → k < n → nan_element kind (le size s (at + k * size)) ≡ false
numbers-at kind size sized s at n none k l =
    refuted _ (λ h. let there : NanAt kind s at k = rw sized h in true≢false (sym (nan-in n kind s at k l there) ∙ none))

-- an element by its row and column is one of all
pub cell-within : (n m i c : ℕ) → c < m → i < n → i * m + c < n * m
cell-within n m i c l h = omega (arith, mul-le-mul_right m h, suc-mul i m)

pub no_nan : (x : Float) → is_nan x ≡ false → T (not (is_nan x))
no_nan x f = subst⁻¹ (λ (t : Bool). T (not t)) f tt

-- `said` is what a NaN of the type is
module _ (kind : ℕ) (said : (bits : ℕ) → nan_element kind bits ≡ is_nan (of_bits (format_of kind) bits)) (s : List ℕ) (at : ℕ) where
  -- so no value there is one, by its place or by its row and column
  pub nth-number : (n : ℕ) → any_nan kind s at n ≡ false → (k : ℕ) → k < n → is_nan (nth kind s at k) ≡ false
  nth-number n none k l = sym (said (le (size_of kind) s (at + k * size_of kind))) ∙ numbers-at kind (size_of kind) refl s at n none k l

  pub column-number : (m n c : ℕ) → c < m → any_nan kind s at (n * m) ≡ false → (i : ℕ) → i < n → is_nan (column kind s at m c i) ≡ false
  column-number m n c l none i h = nth-number (n * m) none (i * m + c) (cell-within n m i c l h)

-- so both extremes of such values have patterns of their own
pub patterned : (x : ℕ → Float) (n : ℕ) → 0 < n → ((i : ℕ) → i < n → is_nan (x i) ≡ false) → (a b : Float) → Extremes x n a b → Patterned a b
patterned x n h numbers a b e = record {
  smallest = no_nan a (ap is_nan e.smallest ∙ extreme-number less less-orders x n h numbers);
  largest = no_nan b (ap is_nan e.largest ∙ extreme-number more more-orders x n h numbers);
}
