-- The values are those of the one column, of which none is a NaN.
use Rattle.std.proofs.Common.{refl, ap, arith}
use Rattle.gsd_columns.specs.Scans.{nth}
use Rattle.gsd_columns.proofs.Extremes.{extremes-same}
use Rattle.gsd_columns.proofs.Columns.{nth-number, patterned}
use Rattle.gsd_columns.proofs.scan.Values.one_column.Goals as goal

pub returns : goal.returns
returns g c =
    let kind = g.F.Bits.Pattern.kind in
    let v = c.args.self.now in
    record {
      extremes = extremes-same _ _ _ _ _ _ (λ j. ap (nth kind v.s.now v.at) (omega arith)) refl c.with_rest.ensures;
      numbers = patterned _ _ v.some (nth-number kind g.met.F.Real.said v.s.now v.at v.n v.numbers) _ _ c.with_rest.ensures;
    }
