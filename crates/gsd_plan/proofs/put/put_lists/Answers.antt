-- `gsd_plan::put::put_lists` meets its contract.
use mathlib.Core.Path.{refl}
use Rattle.gsd_format.specs.Bytes.{stored}
use Rattle.gsd_plan.proofs.put.put_lists.Goals as goal

pub returns : goal.returns
unfolding stored
returns c = refl
