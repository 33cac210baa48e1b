-- `gsd_turns::turn::seek` meets its contract: extents are passed until fewer stores are left to pass than the next one has.
use native.Mathlib.Omega.{arith}
use Rattle.gsd_turns.proofs.Turns.{sought-none, sought-more, sought-here, sought-end}
use Rattle.gsd_turns.proofs.turn.seek.Goals as goal

pub loop-extent-init : goal.loop-extent-init
loop-extent-init c = sought-none _ _ c.args.done

pub returns-then-left-words : goal.returns-then-left-words
returns-then-left-words c = sought-here c.loop-extent.invariant _ c.extent_at-words.ensures (omega (arith, c.loop-extent-test.true)) c.if-left-words.true

pub loop-extent-preserved : goal.loop-extent-preserved
loop-extent-preserved c = sought-more c.loop-extent.invariant _ c.extent_at-words.ensures (omega (arith, c.loop-extent-test.true)) c.if-left-words.false

pub returns : goal.returns
returns c = sought-end c.loop-extent.invariant _ c.count-all.ensures (omega (arith, c.loop-extent-test.false))
