-- `gsd_names::twins::twins_by` meets its contract.
use native.Mathlib.Omega.{arith}
use Rattle.gsd_names.proofs.NamePrints.{printed-tell}
use Rattle.gsd_names.proofs.twins.twins_by.Goals as goal

pub has_twins-requires : goal.has_twins-requires
has_twins-requires g c = printed-tell _ _ _ _ _ _ (omega arith) c.name_prints.ensures
