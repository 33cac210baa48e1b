-- The three stand one behind the other.
use Rattle.std.proofs.Common.{◌+◌, ◌*◌, sym, ap, ◌∙◌}
use Rattle.gsd_xdr.proofs.Xdr.{be_bytes-length}
use Rattle.gsd_body.proofs.Bodies.{store-more, two-long}
use Rattle.gsd_body.proofs.put_three.Goals as goal

pub returns : goal.returns
returns g c =
    let size = g.F.Bits.Pattern.SIZE in
    let at = c.args.at in
    store-more _ _ _ at _ _ _
    (store-more _ _ _ at _ _ _ c.put_value.ensures (ap (λ k. at + k) (be_bytes-length size _ ∙ sym c.SIZE-size.ensures)) c.put_value-2.ensures)
    (ap (λ k. at + k) (two-long size _ _) ∙ ap (λ k. at + 2 * k) (sym c.SIZE-size.ensures)) c.put_value-3.ensures
