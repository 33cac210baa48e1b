-- The number is that of the test.
use mathlib.Core.Path.{sym}
use Rattle.gsd_format.proofs.Refusals.{met, passed}
use Rattle.gsd_open.proofs.refusal.refuse.Goals as goal

pub returns-then-test : goal.returns-then-test
returns-then-test c = sym (met _ _ c.if-test.true)

pub returns : goal.returns
returns c = sym (passed _ _ c.if-test.false)
