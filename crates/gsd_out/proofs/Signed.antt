-- A signed number's bits are those that its cast has.
use mathlib.Core.Path.{◌≡◌, refl, ◌∙◌, ap}
use native.Mathlib.Omega.{arith}
use lib.IntN.{ℤ, pos, negsuc}
use mir.Syntax.{w64}
use mir.Val.{SFits, to_z, of_z}
use mir.Facts.{to_z-of_z}
use Rattle.gsd_format.specs.Answers.{bits64}

same : (z : ℤ) → of_z w64 z ≡ bits64 z
unfolding bits64
same (pos n) = refl
same (negsuc n) = omega arith

pub cast-bits : (z : ℤ) → SFits w64 z → of_z w64 (to_z w64 (of_z w64 z)) ≡ bits64 z
cast-bits z fits = ap (λ x. of_z w64 x) (to_z-of_z {w = w64} {z = z} fits) ∙ same z
