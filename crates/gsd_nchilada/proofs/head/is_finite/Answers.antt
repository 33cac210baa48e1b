-- std's test is that of the bits, of a double as `x` is.
use mathlib.Core.Path.{◌∙◌, subst⁻¹}
use lib.Dec.{T}
use Rattle.gsd_nchilada.proofs.Finite.{finite_is}
use Rattle.gsd_nchilada.proofs.head.is_finite.Goals as goal

pub returns : goal.returns
returns c = c.is_finite.ensures.value ∙ finite_is c.args.x (subst⁻¹ T c.well_formed.0.1 tt)
