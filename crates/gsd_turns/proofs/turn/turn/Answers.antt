-- `gsd_turns::turn::turn` meets its contract: each turn of the loop makes the rest of an extent, or stops in it.
use native.Mathlib.Omega.{arith}
use Rattle.gsd_turns.proofs.Turns.{turning-none, extent-made, extent-over, turn-stop, turn_end}
use Rattle.gsd_turns.proofs.turn.turn.Goals as goal

pub loop-extent-init : goal.loop-extent-init
loop-extent-init c = turning-none c.requires.cursor

pub returns-then-word-x : goal.returns-then-word-x
returns-then-word-x c =
    let told = c.loop-extent.invariant in
    let here = c.extent_at-x.ensures in
    let inside = c.loop-extent-test.true in
    rw c.some_stores-n.ensures.image (turn-stop (extent-made told here (omega (arith, inside)) _ c.some_stores-n.ensures.answer) (omega (arith, c.some_stores-n.ensures.answer, c.if-word-x.true)))

pub loop-extent-preserved : goal.loop-extent-preserved
loop-extent-preserved c =
    let told = c.loop-extent.invariant in
    let here = c.extent_at-x.ensures in
    let inside = c.loop-extent-test.true in
    rw c.some_stores-n.ensures.image (extent-over (extent-made told here (omega (arith, inside)) _ c.some_stores-n.ensures.answer) here (omega (arith, inside)) c.if-word-x.false)

pub returns : goal.returns
returns c = turn_end c.loop-extent.invariant _ c.count-count.ensures (omega (arith, c.loop-extent-test.false))
