-- `gsd_turns::turn::whole` meets its contract: the words of the extents are summed extent by extent.
use mathlib.Core.Path.{◌≡◌}
use Rattle.gsd_turns.proofs.Count.{counted}
use Rattle.gsd_turns.proofs.turn.whole.Given as goal

abbrev pub invariant-loop-r : goal.invariant-loop-r
invariant-loop-r l = l.sum ≡ counted l.front.plan.now l.r
