-- `gsd_turns::turn::seek` meets its contract: extents are passed until fewer stores are left to pass than the next one has.
use Rattle.gsd_turns.proofs.Turns.{Sought}
use Rattle.gsd_turns.proofs.turn.seek.Given as goal

abbrev pub invariant-loop-extent : goal.invariant-loop-extent
invariant-loop-extent l = Sought l.extents.sheet.now l.extents.plan.now l.done l.extent l.left
