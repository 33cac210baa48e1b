-- `gsd_append::append` meets its contract.
use mathlib.Core.Path.{sym}
use native.Mathlib.Omega.{arith}
use Rattle.std.proofs.lemmas.Result.{err_from_is_err_and}
use Rattle.gsd_format.proofs.Refusals.{refusal-some}
use Rattle.gsd_states.proofs.Appends.{refused-append}
use Rattle.gsd_states.proofs.Begins.{begins-ready, begins-append}
use Rattle.gsd_append.proofs.append.Goals as goal

pub returns-in_err-counts : goal.returns-in_err-counts
returns-in_err-counts c =
    let why = c.in_err-counts.field-0.0 in
    let p = err_from_is_err_and c.from_residual.result c.from_residual.ensures.1 in
    let said = refused-append _ _ c.args.limit _ c.in_err-counts.ensures.number (λ z. omega (arith, refusal-some why, z)) in
    record { answer = rw (p.1, p.2) said.0; image = said.1 }

pub carry_on-done-requires : goal.carry_on-done-requires
carry_on-done-requires c =
    let ready = begins-ready (sym c.in_ok-counts.ensures.number) c.in_ok-counts.ensures.begun in
    record { header = ready.0; ready = ready.1 }

pub returns : goal.returns
returns c =
    let said = begins-append (sym c.in_ok-counts.ensures.number) c.in_ok-counts.ensures.begun c.args.limit _ _ c.carry_on-done.ensures.made
    c.carry_on-done.ensures.image in
    record { answer = said.0; image = said.1 }
