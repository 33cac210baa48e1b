-- The first zero of the segment ends the name; where it has none the segment does.
use native.Mathlib.Omega.{arith}
use Rattle.gsd_reader.proofs.NextNames.{segment-short, segment-end, segment-name}
use Rattle.gsd_reader.proofs.names.segment_name.Goals as goal

pub returns-then-stop-start-lt-SEGMENT : goal.returns-then-stop-start-lt-SEGMENT
returns-then-stop-start-lt-SEGMENT c = segment-short _ _ _ c.if-stop-start-lt-SEGMENT.true

pub returns-then-end-start : goal.returns-then-end-start
returns-then-end-start c = segment-end _ _ _ _ c.first_zero-end.ensures (omega (arith, c.if-stop-start-lt-SEGMENT.false)) c.if-end-start.true

pub returns : goal.returns
returns c = segment-name _ _ _ _ c.first_zero-end.ensures (omega (arith, c.if-stop-start-lt-SEGMENT.false)) c.if-end-start.false
