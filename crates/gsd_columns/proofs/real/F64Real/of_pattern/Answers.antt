-- A pattern that is no NaN's is read as its value.
use mathlib.Core.Path.{subst⁻¹}
use mathlib.Core.Bool.{Bool, not}
use lib.Dec.{T}
use Rattle.gsd_format.specs.Elements.{nan_element}
use Rattle.gsd_columns.proofs.real.F64Real.of_pattern.Goals as goal

pub float_from_bits-result : goal.float_from_bits-result
unfolding nan_element
float_from_bits-result c = subst⁻¹ (λ (b : Bool). T (not b)) c.requires tt
