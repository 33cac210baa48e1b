-- `gsd_create::create` meets its contract: a refusal changes nothing, and a request that passes has room in the image.
use mathlib.Core.Path.{◌≡◌, sym, ◌∙◌}
use native.Mathlib.Omega.{arith}
use lib.ListN.{length}
use Rattle.gsd_format.specs.Answers.{refusal_number}
use Rattle.gsd_format.specs.Create.{create_number}
use Rattle.gsd_format.proofs.Create.{takes, created-kept, created-made}
use Rattle.gsd_format.proofs.Refusals.{refusal-some}
use Rattle.gsd_format.proofs.Refusals.{kept}
use Rattle.gsd_create.proofs.create.Goals as goal

pub returns-in_err-request-clause-number : goal.returns-in_err-request-clause-number
unfolding create_number
returns-in_err-request-clause-number c =
    kept c.from_residual.result _ c.from_residual.ensures.1 ∙ c.in_err-request.ensures.number ∙ rw (c.or_default-m.ensures, c.or_default-k.ensures)

pub returns-in_err-request-clause-image : goal.returns-in_err-request-clause-image
unfolding create_number
returns-in_err-request-clause-image c =
    let x = c.args in
    let number : refusal_number c.in_err-request.field-0.0 ≡ create_number x.image.now x.application.now x.schema.now x.slots x.segments = c.in_err-request.ensures.number ∙ rw (c.or_default-m.ensures, c.or_default-k.ensures) in
    sym (created-kept _ _ _ _ _ _ (λ e. omega (arith, refusal-some c.in_err-request.field-0.0, number, e)))

pub lay_out-requires : goal.lay_out-requires
lay_out-requires c =
    let x = c.args in
    let asked = c.in_ok-request.ensures.request in
    let t = takes (length x.image.now) x.application.now x.schema.now c.or_default-m.result c.or_default-k.result (sym c.in_ok-request.ensures.number) in
    rw (asked.same_slots, asked.same_segments) t.room

pub returns : goal.returns
unfolding create_number
returns c =
    let x = c.args in
    let r = c.in_ok-request.ensures.request in
    let number : 0 ≡ create_number x.image.now x.application.now x.schema.now x.slots x.segments =
    c.in_ok-request.ensures.number ∙ rw (c.or_default-m.ensures, c.or_default-k.ensures) in
    record {
      number = number;
      image = c.lay_out.ensures
          ∙ rw (r.same_application, r.same_schema, r.same_version, r.same_slots, r.same_segments, c.or_default-m.ensures, c.or_default-k.ensures)
          (sym (created-made x.image.now x.application.now x.schema.now x.schema_version x.slots x.segments (sym number)));
    }
