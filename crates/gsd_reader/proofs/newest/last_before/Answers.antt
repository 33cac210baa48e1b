-- Invariant: what is found before the place is what is found before the i-th entry.
use mathlib.Core.Path.{sym, ◌∙◌, ap}
use native.Mathlib.Omega.{arith}
use Rattle.gsd_format.specs.Readers.{last_before}
use Rattle.gsd_format.proofs.Newest.{last_none}
use Rattle.gsd_reader.proofs.Queries.{slot-here, slot-on}
use Rattle.gsd_reader.proofs.newest.last_before.Goals as goal

pub returns-then-e-s : goal.returns-then-e-s
returns-then-e-s c =
    sym (c.loop-i.invariant ∙ slot-here c.args.s.now.query c.args.s.now.image.now _ _ (omega arith) c.entry_at-e.ensures _ (omega arith) c.if-e-s.true)

pub loop-i-preserved : goal.loop-i-preserved
loop-i-preserved c =
    c.loop-i.invariant ∙ slot-on c.args.s.now.query c.args.s.now.image.now _ _ (omega arith) c.entry_at-e.ensures _ (omega arith) c.if-e-s.false

pub returns : goal.returns
returns c = sym (c.loop-i.invariant ∙ ap (last_before _ _) (omega (arith, c.loop-i-test.false)) ∙ last_none _ _)
