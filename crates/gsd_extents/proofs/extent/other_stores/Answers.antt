-- `gsd_extents::extent::other_stores` meets its contract. Invariant of each loop: the stores of the words from where it
-- began up to the i-th are made, and the image is that after them.
use Prim.Native.Nat.{◌+◌}
use mathlib.Core.Path.{◌≡◌}
use native.Mathlib.Omega.{arith}
use Rattle.gsd_extents.proofs.Tasks.{made_none, made_one, made_more, made_all}
use Rattle.gsd_extents.proofs.extent.other_stores.Goals as goal

pub loop-i-init : goal.loop-i-init
loop-i-init c = made_none _ _ _ _

pub loop-i-preserved : goal.loop-i-preserved
loop-i-preserved c = rw c.next_store.ensures.next (made_more _ _ _ _ _ _ c.loop-i.invariant _ _ (made_one _ _ _ _))

pub loop-i-2-init : goal.loop-i-2-init
loop-i-2-init c = made_none _ _ _ _

pub loop-i-2-preserved : goal.loop-i-2-preserved
loop-i-2-preserved c = rw c.next_store-in-loop-i-2.ensures.next (made_more _ _ _ _ _ _ c.loop-i-2.invariant _ _ (made_one _ _ _ _))

pub returns : goal.returns
returns c =
    let x = c.args in
    let first : c.loop-i.i ≡ c.max-f.result = omega (arith, c.loop-i-test.false, c.max-f.ensures) in
    let both = made_more _ _ _ _ _ _ (rw first at c.loop-i.invariant) _ _ c.loop-i-2.invariant in
    let end : c.loop-i-2.i ≡ x.w + x.n = omega (arith, c.loop-i-2-test.false, c.max-f.ensures, c.near_count.ensures.bound) in
    made_all _ _ _ _ _ _ (rw end at both)
