-- Invariant: so many names are passed, and the test took none of them.
use Rattle.gsd_format.specs.Readers.{parts_by}
use Rattle.gsd_reader.specs.Names.{NoneTaken}
use Rattle.gsd_reader.proofs.NextNames.{Passing}
use Rattle.gsd_reader.proofs.fit.Fitting.first.Given as goal

abbrev pub invariant-loop-id : goal.invariant-loop-id
invariant-loop-id g l =
    let s = l.self in
    Passing s.reader.now s.image.now l.start l.id
    × NoneTaken (goal.F-post g l.test) (parts_by s.reader.now s.image.now) l.id
