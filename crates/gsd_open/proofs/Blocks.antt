-- Laws of the two blocks: when one lies between the header and the slice's end.
use Prim.Native.Nat.{ℕ, ◌+◌, ◌*◌, ◌-◌, ◌/◌, ◌≤◌, ◌<◌}
use mathlib.Core.Path.{◌≡◌}
use mathlib.Core.Bool.{false, ◌||◌}
use native.Mathlib.Nat.{div-lt_iff_lt-mul}
use native.Mathlib.Omega.{arith}
use lib.Dec.{ltb}
use borrow.Author.Tests.{ltb-false}
use Rattle.gsd_format.specs.Header.{header_size}
use Rattle.gsd_format.proofs.Refusals.{neither, same_test}

-- so many units end beyond len exactly when fewer fit behind their start
pub units-fit : (len start unit count : ℕ) → start ≤ len → 0 < unit → ltb ((len - start) / unit) count ≡ ltb len (start + unit * count)
units-fit len start unit count h u =
    same_test ((len - start) / unit) count len (start + unit * count) (λ l. omega (arith, (div-lt_iff_lt-mul u).0 l)) (λ l. (div-lt_iff_lt-mul u).1 (omega arith))

-- a block that is not outside
pub inside : (len start size : ℕ) → (ltb start header_size || ltb len (start + size)) ≡ false → (header_size ≤ start) × (start + size ≤ len)
inside len start size h =
    (ltb-false start header_size (neither _ _ h).0, ltb-false len (start + size) (neither (ltb start header_size) _ h).1)
