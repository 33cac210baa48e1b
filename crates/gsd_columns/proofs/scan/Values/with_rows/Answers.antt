-- After each row the extremes are those of the rows so far.
use Rattle.std.proofs.Common.{◌+◌, ◌*◌, arith}
use Rattle.gsd_columns.specs.Columns.{column}
use Rattle.gsd_columns.proofs.Extremes.{rows-join}
use Rattle.gsd_columns.proofs.Columns.{nth-number}
use Rattle.gsd_columns.proofs.scan.Values.with_rows.Goals as goal

pub loop-i-preserved : goal.loop-i-preserved
loop-i-preserved g c =
    let kind = g.F.Bits.Pattern.kind in
    let v = c.args.self.now in (
      omega arith,
      rows-join g.F.Real.value (column kind v.s.now v.at 3) c.loop-i.i 1 _ _ _ c.loop-i.invariant.0 (omega arith)
          (λ k j l h. nth-number kind g.met.F.Real.said v.s.now v.at v.n v.numbers (j * 3 + k) (omega arith))
          c.loop-i.invariant.1 c.row.ensures c.joined-t.ensures,
    )
