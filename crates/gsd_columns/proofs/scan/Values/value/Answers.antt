-- It is none of the NaNs, and is read as its value.
use Rattle.std.proofs.Common.{◌+◌, ◌*◌, ap, ◌∙◌}
use Rattle.gsd_format.specs.Bytes.{le}
use Rattle.gsd_format.specs.Elements.{nan_element}
use Rattle.gsd_columns.proofs.Columns.{numbers-at}
use Rattle.gsd_columns.proofs.scan.Values.value.Goals as goal

pub of_pattern-requires : goal.of_pattern-requires
of_pattern-requires g c =
    let p = g.F.Bits.Pattern in
    let v = c.args.self.now in
    ap (λ z. nan_element p.kind z) (c.at.ensures ∙ (λ t. le p.SIZE v.s.now (v.at + c.args.k * c.SIZE.ensures t)))
    ∙ numbers-at p.kind p.SIZE g.met.F.Bits.Pattern.sized v.s.now v.at v.n v.numbers c.args.k c.requires
