-- By the version.
use mathlib.Core.Path.{sym, ◌∙◌}
use Rattle.gsd_reader.proofs.Queries.{behind-old, behind-new}
use Rattle.gsd_reader.proofs.newest.behind.Goals as goal

pub returns-then-is_10 : goal.returns-then-is_10
returns-then-is_10 c = sym (behind-old _ (sym c.is_10.ensures ∙ c.if-is_10.true))

pub returns : goal.returns
returns c = sym (behind-new _ (sym c.is_10.ensures ∙ c.if-is_10.false))
