-- `gsd_turns::turn::turn` meets its contract: each turn of the loop makes the rest of an extent, or stops in it.
use Rattle.gsd_turns.proofs.Turns.{Turning}
use Rattle.gsd_turns.proofs.turn.turn.Given as goal

abbrev pub invariant-loop-extent : goal.invariant-loop-extent
invariant-loop-extent l = Turning l.extents.sheet.now l.initial.image l.extents.plan.now l.fn.from l.limit l.image l.extent l.word l.left
