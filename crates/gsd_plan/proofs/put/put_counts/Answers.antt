-- `gsd_plan::put::put_counts` meets its contract.
use mathlib.Core.Path.{refl}
use Rattle.gsd_format.specs.Bytes.{stored}
use Rattle.gsd_plan.proofs.put.put_counts.Goals as goal

pub returns : goal.returns
unfolding stored
returns c = refl
