-- Columns of floats or doubles, and their extremes: the smallest and the largest value, of equal values the first met.
use Rattle.std.specs.Prelude.{ℕ, zero, suc, ◌+◌, ◌*◌, ◌-◌, ◌<◌, ◌≡◌, List, Bool, true, false, cond, eqb, Float}
use Rattle.std.specs.Float.{Format, binary32, binary64}
use Rattle.std.specs.Float.Ieee.{of_bits, lt}
use Rattle.gsd_format.specs.Bytes.{le}
use Rattle.gsd_format.specs.Types.{size_of}

-- of the two types that hold floats, 9 has the format of 32 bits and 10 that of 64
abbrev pub format_of : ℕ → Format
format_of kind = elim (eqb kind 9) [ true ↦ binary32 | false ↦ binary64 ]

-- the i-th value in column c of the m columns that stand in s from a place on, row by row
abbrev pub column : ℕ → List ℕ → ℕ → ℕ → ℕ → ℕ → Float
column kind s at m c i = of_bits (format_of kind) (le (size_of kind) s (at + (i * m + c) * size_of kind))

-- which of two values comes before the other: where the smallest is sought, the less; where the largest, the more
abbrev pub less : Float → Float → Bool
less x y = lt x y

abbrev pub more : Float → Float → Bool
more x y = lt y x

-- the best so far, or a new value that comes before it: an equal one does not
abbrev pub kept : (Float → Float → Bool) → Float → Float → Float
kept before best new = cond (before new best) new best

-- the best of the values 0 to n, kept from one to the next
unfoldable pub foremost : (Float → Float → Bool) → (ℕ → Float) → ℕ → Float
foremost before x zero = x 0
foremost before x (suc n) = kept before (foremost before x n) (x (suc n))

-- the extreme of the first n values, of which there is one at least
abbrev pub extreme : (Float → Float → Bool) → (ℕ → Float) → ℕ → Float
extreme before x n = foremost before x (n - 1)

-- what an extreme v of the first n values is: one of them, that none comes before, and that comes before all that were met earlier
pub record Foremost (before : Float → Float → Bool) (x : ℕ → Float) (n : ℕ) (v : Float) : Type 0 where
  pub place : ℕ
  pub within : place < n
  pub there : v ≡ x place
  pub none : (i : ℕ) → i < n → before (x i) v ≡ false
  pub first : (i : ℕ) → i < place → before v (x i) ≡ true
