-- A column of one row has that row's value.
use Rattle.std.proofs.Common.{ap, ◌∙◌, arith}
use Rattle.gsd_columns.specs.Scans.{nth}
use Rattle.gsd_columns.proofs.Extremes.{extremes-one}
use Rattle.gsd_columns.proofs.scan.Values.row.Goals as goal

pub returns : goal.returns
returns g c =
    let v = c.args.self.now in
    let at = nth g.F.Bits.Pattern.kind v.s.now v.at in
    record {
      x = extremes-one _ _ _ _ (c.value.ensures ∙ ap at (omega arith)) c.of.ensures.smallest c.of.ensures.largest;
      y = extremes-one _ _ _ _ (c.value-2.ensures ∙ ap at (omega arith)) c.of-2.ensures.smallest c.of-2.ensures.largest;
      z = extremes-one _ _ _ _ (c.value-3.ensures ∙ ap at (omega arith)) c.of-3.ensures.smallest c.of-3.ensures.largest;
    }
