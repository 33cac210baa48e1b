-- After each row the extremes are those of the rows so far.
use Rattle.std.proofs.Common.{◌<◌}
use Rattle.gsd_columns.specs.Columns.{column}
use Rattle.gsd_columns.specs.Scans.{Rows}
use Rattle.gsd_columns.proofs.scan.Values.with_rows.Given as goal

abbrev pub invariant-loop-i : goal.invariant-loop-i
invariant-loop-i g l = (0 < l.i) × Rows g.F.Real.value (column g.F.Bits.Pattern.kind l.self.s.now l.self.at 3) l.i l.t
