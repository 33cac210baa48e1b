-- Elements: the k-th of a chunk, read by the chunk's type, with its exact bits; 43 after the lookup's numbers; NaNs.
use Rattle.std.specs.Prelude.{ℕ, zero, suc, ◌+◌, ◌*◌, ◌-◌, ◌/◌, ◌^◌, ◌≡◌, List, Bool, true, false, ◌&&◌, ◌||◌, ltb, leb, eqb, ℤ, pos, negsuc, Result, Ok, Err}
use Rattle.std.specs.Float.Ieee as Ieee
use Rattle.gsd_format.specs.declared.Entry.{Entry}
use Rattle.gsd_format.specs.declared.element.Number.{Number}
use Rattle.gsd_format.specs.Bytes.{le}
use Rattle.gsd_format.specs.Types.{size_of}
use Rattle.gsd_format.specs.Lookup.{lookup}

-- the signed number of w bytes, two's complement
unfoldable pub signed : ℕ → ℕ → ℤ
signed w bits = elim (ltb bits (256 ^ w / 2)) [ true ↦ pos bits | false ↦ negsuc (256 ^ w - 1 - bits) ]

-- types 1 to 4 and a character are unsigned, 5 to 8 signed, 9 a float, 10 a double
unfoldable pub element_of : ℕ → ℕ → Number
element_of kind bits = elim (leb kind 4 || eqb kind 11) [
  | true ↦ Number.Unsigned bits
  | false ↦ elim (leb kind 8) [
    | true ↦ Number.Signed (signed (size_of kind) bits)
    | false ↦ elim (eqb kind 9) [
      | true ↦ Number.Single (Ieee.of_bits Ieee.binary32 bits) bits
      | false ↦ Number.Double (Ieee.of_bits Ieee.binary64 bits) bits
    ]
  ]
]

-- NaN: a float or double that is not a number, quiet or signalling, of either sign; infinities are numbers. No other type has one
unfoldable pub nan_element : ℕ → ℕ → Bool
nan_element kind bits = elim (eqb kind 9) [ true ↦ Ieee.nan_bits Ieee.binary32 bits | false ↦ eqb kind 10 && Ieee.nan_bits Ieee.binary64 bits ]

-- the k-th element from a place on is one
abbrev pub NanAt : ℕ → List ℕ → ℕ → ℕ → Type 0
NanAt kind s at k = nan_element kind (le (size_of kind) s (at + k * size_of kind)) ≡ true

-- is one of the n elements from a place on a NaN?
unfoldable pub any_nan : ℕ → List ℕ → ℕ → ℕ → Bool
any_nan kind s at zero = false
any_nan kind s at (suc n) = any_nan kind s at n || nan_element kind (le (size_of kind) s (at + n * size_of kind))

-- the k-th element of an entry's chunk
unfoldable pub element_in : List ℕ → Entry → ℕ → Result Number ℕ
element_in img e k = elim (ltb k (e.n * e.m)) [
  | true ↦ Ok (element_of e.kind (le (size_of e.kind) img (e.location + k * size_of e.kind)))
  | false ↦ Err 43
]

unfoldable pub element : List ℕ → ℕ → List ℕ → ℕ → Result Number ℕ
element img frame name k = elim (lookup img frame name) [ Ok e ↦ element_in img e k | Err n ↦ Err n ]
