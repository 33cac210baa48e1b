-- After so many pairs twice as many numbers are stored, and then the odd last one.
use Rattle.std.proofs.Common.{◌+◌, ◌-◌, ◌*◌, refl, arith}
use Rattle.gsd_format.specs.Bytes.{stored}
use Rattle.gsd_xdr.specs.Xdr.{be_row}
use Rattle.gsd_xdr.proofs.Xdr.{store-next, store-all}
use Rattle.gsd_xdr.proofs.put_all.Goals as goal

pub loop-pair-init : goal.loop-pair-init
unfolding stored be_row
loop-pair-init g c = refl

pub loop-pair-preserved : goal.loop-pair-preserved
loop-pair-preserved g c =
    let size = g.N.Pattern.SIZE in
    let i = c.loop-pair.pair * 2 in
    store-all size _ _ _ (i + 1 + 1) _ _ (omega arith)
    (store-next size _ _ _ (i + 1) _ _ _ _ (store-next size _ _ _ i _ _ _ _ c.loop-pair.invariant refl refl c.put_one.ensures)
    refl refl c.put_one-in-loop-pair.ensures)

pub returns-then-n-eq1 : goal.returns-then-n-eq1
returns-then-n-eq1 g c =
    let size = g.N.Pattern.SIZE in
    let i = c.args.n - 1 in
    store-all size _ _ _ (i + 1) _ _ (omega arith)
    (store-next size _ _ _ i _ _ _ _ (store-all size _ _ _ _ _ _ (omega arith) c.loop-pair.invariant) refl refl c.put_one-then-n-eq1.ensures)
