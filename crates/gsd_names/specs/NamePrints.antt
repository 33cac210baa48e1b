-- Prints of names: numbers made of their bytes, so that names with two prints are two names.
use Rattle.std.specs.Prelude.{ℕ, zero, suc, ◌+◌, ◌*◌, ◌-◌, ◌%◌, ◌≤◌, ◌<◌, ◌≡◌, Bool, false, ◌||◌, List, length, get_or, eqb}
use Rattle.gsd_format.specs.Names.{bytes_of}
use Rattle.gsd_names.specs.NameLists.{part_at}

-- the size and the last byte
unfoldable pub small_print : List ℕ → ℕ
small_print b = 256 * (length b % 65536) + get_or b (length b - 1) 0

-- the first count prints are those of the names
pub record Printed (print : List ℕ → ℕ) (v : Bool) (img starts : List ℕ) (count : ℕ) (prints : List ℕ) : Type 0 where
  pub each : (i : ℕ) → i < count → get_or prints i 0 ≡ print (bytes_of img (part_at v starts i))

-- there is a print for each name, and equal names have equal prints
pub record Telling (v : Bool) (img starts : List ℕ) (count : ℕ) (prints : List ℕ) : Type 0 where
  pub room : count ≤ length prints
  pub tell : (i j : ℕ) → i < count → j < count → bytes_of img (part_at v starts i) ≡ bytes_of img (part_at v starts j) → get_or prints i 0 ≡ get_or prints j 0

-- the i-th and the j-th of count names have prints, equal ones where the names are equal
pub record Paired (v : Bool) (img starts : List ℕ) (count : ℕ) (prints : List ℕ) (i j : ℕ) : Type 0 where
  pub kept : (i < count) × (j < count)
  pub room : (i < length prints) × (j < length prints)
  pub tell : bytes_of img (part_at v starts i) ≡ bytes_of img (part_at v starts j) → get_or prints i 0 ≡ get_or prints j 0

-- is p one of the n prints from at on?
unfoldable pub among : ℕ → List ℕ → ℕ → ℕ → Bool
among p prints at zero = false
among p prints at (suc n) = eqb (get_or prints at 0) p || among p prints (at + 1) n
