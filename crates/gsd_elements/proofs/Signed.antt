-- Two's complement: the number of a signed type's pattern is what the cast to that type reads.
use Rattle.std.specs.Prelude.{cond, ltb, pos, negsuc}
use Prim.Native.Nat.{ℕ, suc, ◌*◌, ◌-◌, ◌^◌, ◌<◌, ◌≤◌}
use mathlib.Core.Path.{◌≡◌, refl, sym, ◌∙◌, ap}
use native.Mathlib.Decide.{dec_lt}
use native.Mathlib.Omega.{arith}
use borrow.Author.Tests.{lt-ltb, le-ltb}
use mir.Syntax.{Width, w8, w16, w32, w64}
use mir.Val.{to_z, bits, hbits}
use mir.Facts.{to_z_pos, to_z-neg}
use Rattle.gsd_format.specs.declared.element.Number.{Number}
use Rattle.gsd_format.specs.Types.{size_of}
use Rattle.gsd_format.specs.Elements.{signed, element_of}
use Rattle.gsd_format.proofs.Elements.{signed_is, element-signed}

-- a width whose least number has the pattern half, and a type as wide
module _ (w : Width) (half : ℕ) (below : 2 ^ hbits w ≡ half) (all : 2 ^ bits w ≡ 2 * half) (kind : ℕ) (wide : 256 ^ size_of kind ≡ 2 * half)
    (low : 4 < kind) (high : kind ≤ 8) where
  signed_cast : (n : ℕ) → n < 2 * half → to_z w n ≡ signed (size_of kind) n
  signed_cast n fits = go (dec_lt n half) ∙ sym (signed_is (size_of kind) n half wide)
    where
      go : Dec (n < half) → to_z w n ≡ cond (ltb n half) (pos n) (negsuc (2 * half - 1 - n))
      go (yes l) = rw (lt-ltb n half l) (to_z_pos w (omega (arith, below)))
      go (no l) =
          let turned : n ≡ 2 ^ bits w - suc (2 * half - 1 - n) = omega (arith, all, fits) in
          rw (le-ltb n half (omega arith)) (ap (to_z w) turned ∙ to_z-neg w (2 * half - 1 - n) (omega (arith, below)))

  element_cast : (n : ℕ) → n < 256 ^ size_of kind → Number.Signed (to_z w n) ≡ element_of kind n
  element_cast n fits = ap Number.Signed (signed_cast n (omega (arith, wide, fits))) ∙ sym (element-signed kind n low high)

pub int8-cast : (kind n : ℕ) → kind ≡ 5 → n < 256 ^ size_of kind → Number.Signed (to_z w8 n) ≡ element_of kind n
unfolding size_of
int8-cast kind n e fits = rw e (element_cast w8 128 refl refl 5 refl (omega arith) (omega arith) n (rw e at fits))

pub int16-cast : (kind n : ℕ) → kind ≡ 6 → n < 256 ^ size_of kind → Number.Signed (to_z w16 n) ≡ element_of kind n
unfolding size_of
int16-cast kind n e fits = rw e (element_cast w16 32768 refl refl 6 refl (omega arith) (omega arith) n (rw e at fits))

pub int32-cast : (kind n : ℕ) → kind ≡ 7 → n < 256 ^ size_of kind → Number.Signed (to_z w32 n) ≡ element_of kind n
unfolding size_of
int32-cast kind n e fits = rw e (element_cast w32 2147483648 refl refl 7 refl (omega arith) (omega arith) n (rw e at fits))

pub int64-cast : (kind n : ℕ) → kind ≡ 8 → n < 256 ^ size_of kind → Number.Signed (to_z w64 n) ≡ element_of kind n
unfolding size_of
int64-cast kind n e fits = rw e (element_cast w64 9223372036854775808 refl refl 8 refl (omega arith) (omega arith) n (rw e at fits))
