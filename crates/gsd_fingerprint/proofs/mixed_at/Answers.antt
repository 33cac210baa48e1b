-- `gsd_fingerprint::mixed_at` meets its contract.
use mathlib.Core.Path.{◌∙◌, ap}
use Rattle.gsd_fingerprint.specs.Fingerprint.{mixed}
use Rattle.gsd_fingerprint.proofs.mixed_at.Goals as goal

pub returns : goal.returns
returns c = c.mixed.ensures ∙ ap (mixed _) c.u64_at.ensures
