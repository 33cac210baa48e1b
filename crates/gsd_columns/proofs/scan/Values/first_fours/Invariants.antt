-- After i fours the extremes are those of as many values and of the first.
use Rattle.std.proofs.Common.{◌+◌, ◌*◌}
use Rattle.gsd_columns.specs.Scans.{nth, Extremes}
use Rattle.gsd_columns.proofs.scan.Values.first_fours.Given as goal

abbrev pub invariant-loop-i : goal.invariant-loop-i
invariant-loop-i g l =
    let value = g.F.Real.value in
    Extremes (nth g.F.Bits.Pattern.kind l.self.s.now l.self.at) (1 + l.i * 4) (value l.e.smallest) (value l.e.largest)
