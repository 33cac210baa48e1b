-- `gsd_bytes::put_text` meets its contract: the bytes passed are stored.
use Rattle.std.proofs.Common.{arith, length-set, rules}
use Rattle.gsd_format.specs.Bytes.{stored}
use Rattle.gsd_format.proofs.Bytes.{stored_next}
use Rattle.gsd_bytes.proofs.put_text.Goals as goal

pub loop-i-init : goal.loop-i-init
unfolding stored
loop-i-init c = (search rules, search rules)

pub loop-i-preserved : goal.loop-i-preserved
loop-i-preserved c =
    let x = c.args in
    (simp length-set (search rules), rw c.loop-i.invariant.1 (stored_next x.s.now x.at x.t.now c.loop-i.i (omega arith)))
