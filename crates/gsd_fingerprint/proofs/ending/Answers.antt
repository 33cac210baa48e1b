-- `gsd_fingerprint::ending` meets its contract, case by case.
use mathlib.Core.Path.{sym, ◌∙◌}
use native.Mathlib.Omega.{arith}
use Rattle.gsd_fingerprint.proofs.Lanes.{ending-eight, ending-four, ending-few, ending-none}
use Rattle.gsd_fingerprint.proofs.ending.Goals as goal

pub returns-then-n-ge8 : goal.returns-then-n-ge8
returns-then-n-ge8 c = c.u64_at.ensures ∙ sym (ending-eight _ (omega arith))

pub returns-then-n-ge4 : goal.returns-then-n-ge4
returns-then-n-ge4 c =
    let s = c.args.s.now in
    rw (c.u32_at.ensures.answer, c.u32_at-then-n-ge4.ensures.answer) (sym (ending-four s (omega arith) (omega arith)))

pub returns-then-n-eq0 : goal.returns-then-n-eq0
returns-then-n-eq0 c = ending-none _ (omega arith)

pub returns : goal.returns
returns c = c.from.ensures ∙ c.from_le_bytes.ensures ∙ sym (ending-few c.args.s.now (omega arith) ∙ omega arith)
