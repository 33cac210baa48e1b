-- `gsd_extents::extent::Source::read_at` meets its contract.
use mathlib.Core.Path.{sym, ◌∙◌}
use Rattle.gsd_extents.proofs.Words.{source_name, source-other}
use Rattle.gsd_extents.proofs.extent.Source.read_at.Goals as goal

pub returns-in-Name : goal.returns-in-Name
returns-in-Name c = c.place.ensures ∙ sym (source_name c.args.self.now.extent.now c.args.w c.in-Name.is)

pub returns-in_default : goal.returns-in_default
returns-in_default c = sym (source-other c.args.self.now.extent.now c.args.w c.in_default.not-Name)
