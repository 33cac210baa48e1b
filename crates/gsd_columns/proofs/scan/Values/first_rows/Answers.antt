-- After i fours of rows the extremes are those of as many rows and of the first.
use Rattle.std.proofs.Common.{◌+◌, ◌*◌, refl, ap, arith}
use Rattle.gsd_columns.specs.Columns.{column}
use Rattle.gsd_columns.specs.Scans.{nth}
use Rattle.gsd_columns.proofs.Extremes.{rows-join, rows-same}
use Rattle.gsd_columns.proofs.Columns.{nth-number}
use Rattle.gsd_columns.proofs.scan.Values.first_rows.Goals as goal

pub loop-i-init : goal.loop-i-init
loop-i-init g c =
    let v = c.args.self.now in
    rows-same _ _ _ _ _ _ (λ k j. ap (nth g.F.Bits.Pattern.kind v.s.now v.at) (omega arith)) refl c.row-t.ensures

pub loop-i-preserved : goal.loop-i-preserved
loop-i-preserved g c =
    let kind = g.F.Bits.Pattern.kind in
    let v = c.args.self.now in
    rows-same _ _ _ _ _ _ (λ k j. refl) (omega arith)
    (rows-join g.F.Real.value (column kind v.s.now v.at 3) (1 + c.loop-i.i * 4) 4 _ _ _ (omega arith) (omega arith)
    (λ k j l h. nth-number kind g.met.F.Real.said v.s.now v.at v.n v.numbers (j * 3 + k) (omega arith))
    c.loop-i.invariant c.four_rows.ensures c.joined-t.ensures)
