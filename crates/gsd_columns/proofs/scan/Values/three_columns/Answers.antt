-- Of none of the three columns an element is a NaN.
use Rattle.std.proofs.Common.{◌+◌, ◌*◌, ◌<◌, arith}
use Rattle.gsd_columns.specs.Columns.{column}
use Rattle.gsd_columns.proofs.Columns.{nth-number, patterned}
use Rattle.gsd_columns.proofs.scan.Values.three_columns.Goals as goal

pub returns : goal.returns
returns g c =
    let kind = g.F.Bits.Pattern.kind in
    let v = c.args.self.now in
    let at = column kind v.s.now v.at 3 in
    let number = nth-number kind g.met.F.Real.said v.s.now v.at v.n v.numbers in
    let rows = c.with_rows.ensures in
    let some : 0 < c.args.rows = omega (arith, v.some, c.requires) in
    record {
      extremes = rows;
      numbers = record {
        x = patterned (at 0) _ some (λ i l. number (i * 3 + 0) (omega (arith, c.requires))) _ _ rows.x;
        y = patterned (at 1) _ some (λ i l. number (i * 3 + 1) (omega (arith, c.requires))) _ _ rows.y;
        z = patterned (at 2) _ some (λ i l. number (i * 3 + 2) (omega (arith, c.requires))) _ _ rows.z;
      };
    }
