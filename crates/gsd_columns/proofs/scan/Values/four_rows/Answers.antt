-- Of a column the values of four rows are three apart.
use Rattle.std.proofs.Common.{refl, ap, arith}
use Rattle.gsd_columns.specs.Scans.{nth}
use Rattle.gsd_columns.proofs.Extremes.{extremes-same}
use Rattle.gsd_columns.proofs.scan.Values.four_rows.Goals as goal

pub returns : goal.returns
returns g c =
    let v = c.args.self.now in
    let at = nth g.F.Bits.Pattern.kind v.s.now v.at in
    record {
      x = extremes-same _ _ _ _ _ _ (λ j. ap at (omega arith)) refl c.four.ensures;
      y = extremes-same _ _ _ _ _ _ (λ j. ap at (omega arith)) refl c.four-2.ensures;
      z = extremes-same _ _ _ _ _ _ (λ j. ap at (omega arith)) refl c.four-3.ensures;
    }
