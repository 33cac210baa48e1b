-- Each probe is the next; the entries passed are of the frame and have other ids.
use native.Mathlib.Omega.{arith}
use Rattle.gsd_search.proofs.Progress.{walking-next, walking-other, walking-found, walking_on, walking-end}
use Rattle.gsd_search.proofs.Progress.{place-high, ahead-end}
use Rattle.gsd_search.proofs.probing.Search.walk.Goals as goal

pub walk_end-end-requires : goal.walk_end-end-requires
walk_end-end-requires c = omega (arith, place-high c.args.self.now.image.now c.args.self.now.query, c.requires.there)

pub probe-e-requires : goal.probe-e-requires
probe-e-requires c =
    let ends = ahead-end _ c.args.self.now.query _ c.requires.there _ c.walk_end-end.ensures in
    walking-next _ _ _ _ _ _ c.loop-i.invariant (omega (arith, c.loop-i-test.true, ends))

pub returns-then-e-self : goal.returns-then-e-self
returns-then-e-self c =
    let ends = ahead-end _ c.args.self.now.query _ c.requires.there _ c.walk_end-end.ensures in
    let said = walking-other _ _ _ _ _ _ c.loop-i.invariant (omega (arith, c.loop-i-test.true, ends)) _ c.probe-e.ensures.value _ c.probe-e.ensures.counted c.if-e-self.true in
    record { value = said.0; counted = said.1 }

pub returns-then-e-self-2 : goal.returns-then-e-self-2
returns-then-e-self-2 c =
    let ends = ahead-end _ c.args.self.now.query _ c.requires.there _ c.walk_end-end.ensures in
    let said = walking-found _ _ _ _ _ _ c.loop-i.invariant (omega (arith, c.loop-i-test.true, ends)) _ c.probe-e.ensures.value _ c.probe-e.ensures.counted c.if-e-self.false c.if-e-self-2.true in
    record { value = said.0; counted = said.1 }

pub loop-i-preserved : goal.loop-i-preserved
loop-i-preserved c =
    let ends = ahead-end _ c.args.self.now.query _ c.requires.there _ c.walk_end-end.ensures in
    walking_on _ _ _ _ _ _ c.loop-i.invariant (omega (arith, c.loop-i-test.true, ends)) _ c.probe-e.ensures.value _ c.probe-e.ensures.counted c.if-e-self.false c.if-e-self-2.false

pub returns : goal.returns
returns c =
    let ends = ahead-end _ c.args.self.now.query _ c.requires.there _ c.walk_end-end.ensures in
    let said = walking-end _ _ _ _ _ _ c.loop-i.invariant (omega (arith, c.loop-i-test.false, ends)) in
    record { value = said.0; counted = said.1 }
