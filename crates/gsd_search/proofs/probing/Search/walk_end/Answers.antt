-- By the version: all slots, or one of them.
use mathlib.Core.Path.{sym, ◌∙◌}
use native.Mathlib.Omega.{arith}
use Rattle.gsd_search.specs.Queries.{walk_end}
use Rattle.gsd_search.proofs.probing.Search.walk_end.Goals as goal

pub returns-then-is_10 : goal.returns-then-is_10
unfolding walk_end
returns-then-is_10 c = rw (sym c.is_10.ensures ∙ c.if-is_10.true, walk_end)

pub returns : goal.returns
unfolding walk_end
returns c = rw (sym c.is_10.ensures ∙ c.if-is_10.false, walk_end) (omega arith)
