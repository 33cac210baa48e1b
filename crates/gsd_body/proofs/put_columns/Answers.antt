-- The extremes are numbers as all elements are, and stand before the data, all smallest first.
use Rattle.std.proofs.Common.{rules, ◌+◌, ◌*◌, sym, ap, ◌∙◌}
use Rattle.gsd_format.specs.Bytes.{stored}
use Rattle.gsd_body.proofs.Bodies.{store-more, three-long, six-long, body-three}
use Rattle.gsd_body.proofs.put_columns.Goals as goal

pub put_all-requires-clause-to : goal.put_all-requires-clause-to
put_all-requires-clause-to g c = rw (← c.requires.rows) (search rules)

pub returns : goal.returns
returns g c =
    let p = g.F.Bits.Pattern in
    let said = c.three_columns-x.ensures in
    store-more _ _ _ 28 _ _ _
    (store-more _ _ _ 28 _ _ _ c.put_three.ensures
    (ap (λ k. 28 + k) (three-long p.SIZE _ _ _) ∙ ap (λ k. 28 + 3 * k) (sym c.SIZE-size.ensures)) c.put_three-2.ensures)
    (ap (λ k. 28 + k) (six-long p.SIZE _ _ _ _ _ _) ∙ ap (λ k. 28 + 6 * k) (sym c.SIZE-size.ensures)) c.put_all.ensures
    ∙ ap (stored _ 28) (body-three p.kind p.SIZE g.met.F.Bits.Pattern.sized _ _ _ _ c.requires.rows _ _ _ _ _ _ said.extremes.x said.extremes.y said.extremes.z)
