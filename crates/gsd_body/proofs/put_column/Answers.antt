-- The two extremes are numbers as all elements are, and stand before the data.
use Rattle.std.proofs.Common.{◌+◌, ◌*◌, sym, ap, ◌∙◌}
use Rattle.gsd_format.specs.Bytes.{stored}
use Rattle.gsd_xdr.proofs.Xdr.{be_bytes-length}
use Rattle.gsd_body.proofs.Bodies.{store-more, two-long, body-one}
use Rattle.gsd_body.proofs.put_column.Goals as goal

pub returns : goal.returns
returns g c =
    let p = g.F.Bits.Pattern in
    store-more _ _ _ 28 _ _ _
    (store-more _ _ _ 28 _ _ _ c.put_value.ensures (ap (λ k. 28 + k) (be_bytes-length p.SIZE _ ∙ sym c.SIZE-size.ensures)) c.put_value-2.ensures)
    (ap (λ k. 28 + k) (two-long p.SIZE _ _) ∙ ap (λ k. 28 + 2 * k) (sym c.SIZE-size.ensures)) c.put_all.ensures
    ∙ ap (stored _ 28) (body-one p.kind p.SIZE g.met.F.Bits.Pattern.sized _ _ _ _ _ c.one_column-e.ensures.extremes)
