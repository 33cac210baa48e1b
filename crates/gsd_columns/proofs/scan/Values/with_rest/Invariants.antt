-- After each value the extremes are those of the values so far.
use Rattle.std.proofs.Common.{◌<◌}
use Rattle.gsd_columns.specs.Scans.{nth, Extremes}
use Rattle.gsd_columns.proofs.scan.Values.with_rest.Given as goal

abbrev pub invariant-loop-i : goal.invariant-loop-i
invariant-loop-i g l =
    let value = g.F.Real.value in
    (0 < l.i) × Extremes (nth g.F.Bits.Pattern.kind l.self.s.now l.self.at) l.i (value l.e.smallest) (value l.e.largest)
