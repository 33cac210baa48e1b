-- `gsd_out::put` meets its contract: the values go out, or the out array stays.
use native.Mathlib.Omega.{arith}
use Rattle.gsd_format.proofs.Refusals.{refusal-some}
use Rattle.gsd_out.specs.Out.{answered}
use Rattle.gsd_out.proofs.Refusals.{left}
use Rattle.gsd_out.proofs.put.Goals as goal

pub returns-in-Ok-clause-out : goal.returns-in-Ok-clause-out
unfolding answered
returns-in-Ok-clause-out g c = rw c.in-Ok.is c.words.ensures

pub returns-in-Err-clause-out : goal.returns-in-Err-clause-out
returns-in-Err-clause-out g c =
    let why = c.in-Err.why in
    rw c.in-Err.is (left _ _ _ (λ z. omega (arith, refusal-some why, z)))
