-- What passes the tests is written, and a refusal writes nothing.
use mathlib.Core.Path.{◌∙◌}
use native.Mathlib.Omega.{arith}
use Rattle.gsd_format.proofs.Refusals.{not-accepted, was-accepted, refusal-some}
use Rattle.gsd_format.proofs.Refusals.{kept}
use Rattle.gsd_rawarray.proofs.rawarray_read.Goals as goal

pub returns-in_err-head : goal.returns-in_err-head
returns-in_err-head c =
    let number = c.in_err-head.ensures.number in
    record {
      number = kept c.from_residual.result _ c.from_residual.ensures.1 ∙ number;
      sheet = not-accepted _ _ _ _ number (λ z. omega (arith, refusal-some c.in_err-head.field-0.0, z));
    }

pub returns : goal.returns
returns c = record { number = c.in_ok-head.ensures.number; sheet = was-accepted _ _ _ _ c.in_ok-head.ensures.number c.put_sheet.ensures }
