-- After i fours of rows the extremes are those of as many rows and of the first.
use Rattle.std.proofs.Common.{◌+◌, ◌*◌}
use Rattle.gsd_columns.specs.Columns.{column}
use Rattle.gsd_columns.specs.Scans.{Rows}
use Rattle.gsd_columns.proofs.scan.Values.first_rows.Given as goal

abbrev pub invariant-loop-i : goal.invariant-loop-i
invariant-loop-i g l = Rows g.F.Real.value (column g.F.Bits.Pattern.kind l.self.s.now l.self.at 3) (1 + l.i * 4) l.t
