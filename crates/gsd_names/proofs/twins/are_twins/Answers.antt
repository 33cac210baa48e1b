-- `gsd_names::twins::are_twins` meets its contract: names with two prints differ; else their bytes tell.
use mathlib.Core.Path.{sym}
use Rattle.gsd_format.proofs.Bytes.{ne_same}
use Rattle.gsd_names.proofs.twins.are_twins.Goals as goal

pub returns-then-prints-i : goal.returns-then-prints-i
returns-then-prints-i c = sym (ne_same _ _ (λ e. c.if-prints-i.true (c.requires.tell e)))
