-- By the version.
use mathlib.Core.Path.{sym, ◌∙◌}
use Rattle.gsd_format.proofs.Search.{first-10, first-recent}
use Rattle.gsd_search.proofs.halving.first_id.Goals as goal

pub returns-then-is_10 : goal.returns-then-is_10
returns-then-is_10 c = sym (first-10 _ (sym c.is_10.ensures ∙ c.if-is_10.true) _)

pub returns : goal.returns
returns c = sym (first-recent _ (sym c.is_10.ensures ∙ c.if-is_10.false) _)
