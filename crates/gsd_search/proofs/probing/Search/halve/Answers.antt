-- What is left of the slots, halved further, ends where they do, and each probe is the next.
use mathlib.Core.Path.{sym, ◌∙◌, ap}
use native.Mathlib.Omega.{arith}
use lib.Dec.{ltb}
use Rattle.gsd_format.specs.Entries.{key_of, key}
use Rattle.gsd_format.proofs.Entries.{slots_length}
use Rattle.gsd_format.proofs.Search.{first-low}
use Rattle.gsd_search.proofs.Progress.{halving-start, halving-next, halving-right, halving-left, halving-end, halving-high}
use Rattle.gsd_search.proofs.probing.Search.halve.Goals as goal

pub loop-n-init : goal.loop-n-init
loop-n-init c =
    let q = c.args.self.now.query in
    halving-start _ _ _ _ _ _ (sym (slots_length q.count _ q.index)) c.requires

pub overflow_add-mid : goal.overflow_add-mid
overflow_add-mid c = omega (arith, halving-high _ _ _ _ _ c.args.self.now.fits c.loop-n.invariant)

pub probe-e-requires : goal.probe-e-requires
probe-e-requires c = halving-next _ _ _ _ _ _ _ c.loop-n.invariant (omega arith)

pub below-requires : goal.below-requires
below-requires c =
    let q = c.args.self.now.query in
    omega (arith, c.first_id-id.ensures, first-low q.version q.id, c.args.self.now.fits.short)

pub overflow_add-lo : goal.overflow_add-lo
overflow_add-lo c = omega (arith, halving-high _ _ _ _ _ c.args.self.now.fits c.loop-n.invariant)

pub loop-n-preserved-then-below : goal.loop-n-preserved-then-below
loop-n-preserved-then-below c =
    let said = c.below.ensures ∙ ap (λ id. ltb (key c.probe-e.result) (key_of c.args.self.now.query.frame id)) c.first_id-id.ensures in
    halving-right _ _ _ _ _ _ _ c.loop-n.invariant (omega arith) _ c.probe-e.ensures.value _ said _ c.probe-e.ensures.counted c.if-below.true

pub loop-n-preserved : goal.loop-n-preserved
loop-n-preserved c =
    let said = c.below.ensures ∙ ap (λ id. ltb (key c.probe-e.result) (key_of c.args.self.now.query.frame id)) c.first_id-id.ensures in
    halving-left _ _ _ _ _ _ _ c.loop-n.invariant (omega arith) _ c.probe-e.ensures.value _ said _ c.probe-e.ensures.counted c.if-below.false

pub returns : goal.returns
returns c =
    let said = halving-end _ _ _ _ _ _ _ c.loop-n.invariant (omega arith) in
    record { value = said.0; counted = said.1 }
