-- `gsd_turns::turn::whole` meets its contract: the words of the extents are summed extent by extent.
use Prim.Native.Nat.{◌+◌}
use mathlib.Core.Path.{◌≡◌, sym, ◌∙◌, ap}
use native.Mathlib.Omega.{arith}
use Rattle.gsd_steps.specs.Steps.{front_count}
use Rattle.gsd_turns.proofs.Count.{counted, counted_none, counted-more, counted-within, counted-all}
use Rattle.gsd_turns.proofs.turn.whole.Goals as goal

pub loop-r-init : goal.loop-r-init
loop-r-init c = sym (counted_none c.args.front.plan.now)

pub overflow_add-sum : goal.overflow_add-sum
overflow_add-sum c =
    let p = c.args.front.plan.now in
    let more = counted-more p c.loop-r.r c.extent_at.result c.extent_at.ensures (omega (arith, c.loop-r-test.true)) in
    omega (arith, c.loop-r.invariant, more, counted-within p (c.loop-r.r + 1), c.requires)

pub loop-r-preserved : goal.loop-r-preserved
loop-r-preserved c =
    let more = counted-more c.args.front.plan.now c.loop-r.r c.extent_at.result c.extent_at.ensures (omega (arith, c.loop-r-test.true)) in
    omega (arith, c.loop-r.invariant, more)

pub returns : goal.returns
returns c =
    let p = c.args.front.plan.now in
    let done : c.loop-r.r ≡ front_count p = omega (arith, c.loop-r-test.false) in
    c.loop-r.invariant ∙ ap (counted p) done ∙ counted-all p
