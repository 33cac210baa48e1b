-- Each way out is the first test that applies; a difference tells of the sheet's length.
use mathlib.Core.Path.{sym, ◌∙◌}
use native.Mathlib.Omega.{arith}
use Rattle.gsd_format.proofs.Refusals.{refusal-some}
use Rattle.gsd_format.proofs.Refusals.{kept}
use Rattle.gsd_rawarray.proofs.Requests.{gives-file, gives-78, gives-79, gives_none}
use Rattle.gsd_rawarray.proofs.refused.check_reading.Goals as goal
use Rattle.gsd_rawarray.proofs.refused.check_reading.Goals.{then-room-front-via-then-room-front, then-room-front-via-else-room-front+then-room-front-2}

pub returns-in_err-head-clause-number : goal.returns-in_err-head-clause-number
returns-in_err-head-clause-number c =
    kept c.from_residual.result _ c.from_residual.ensures.1
    ∙ gives-file _ _ _ _ c.in_err-head.ensures.number (λ z. omega (arith, refusal-some c.in_err-head.field-0.0, z))

pub returns-then-is_bad_name-clause-number : goal.returns-then-is_bad_name-clause-number
returns-then-is_bad_name-clause-number c = gives-78 _ _ _ c.in_ok-head.ensures.head.readable (sym c.is_bad_name.ensures ∙ c.if-is_bad_name.true)

pub returns-then-room-front-clause-number : goal.returns-then-room-front-clause-number
returns-then-room-front-clause-number c =
    let said = c.in_ok-head.ensures.head in
    gives-79 _ _ _ said.readable (sym c.is_bad_name.ensures ∙ c.if-is_bad_name.false) (λ e. elim c.then-room-front.branch [
      | then-room-front-via-then-room-front w ↦ omega (arith, said.size, e)
      | then-room-front-via-else-room-front+then-room-front-2 w ↦ omega (arith, said.size, e)
    ])

pub returns-clause-number : goal.returns-clause-number
returns-clause-number c =
    let said = c.in_ok-head.ensures.head in
    gives_none _ _ _ said.readable (sym c.is_bad_name.ensures ∙ c.if-is_bad_name.false) (omega (arith, said.size))
