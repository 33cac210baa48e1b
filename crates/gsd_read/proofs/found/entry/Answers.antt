-- The survey's number is passed on; the n-th entry is read from its slot.
use Rattle.std.specs.Prelude.{Ok, Err}
use mathlib.Core.Path.{sym, ◌∙◌, ap}
use native.Mathlib.Omega.{arith}
use Rattle.std.proofs.lemmas.Result.{err_from_is_err_and}
use Rattle.gsd_format.proofs.Lookup.{refused-entry}
use Rattle.gsd_format.proofs.Calls.{entry-says}
use Rattle.gsd_open.proofs.Surveys.{refused_on, entry-within}
use Rattle.gsd_read.proofs.Answers.{entry-there, no-entry}
use Rattle.gsd_read.proofs.found.entry.Goals as goal

pub returns-in_err-s : goal.returns-in_err-s
returns-in_err-s c =
    let p = err_from_is_err_and c.from_residual.result c.from_residual.ensures.1 in
    let said = entry-says _ _ _ (refused_on _ Err _ (λ k r. refused-entry _ k r _) _ c.in_err-s.ensures.number) in
    rw (p.1, p.2) (record { value = said.0; number = said.1.0; values = said.1.1 })

pub returns-then-s-n : goal.returns-then-s-n
returns-then-s-n c =
    let said = entry-says _ _ _ (sym (no-entry _ _ _ c.in_ok-s.ensures.found _ c.if-s-n.true)) in
    record { value = said.0; number = said.1.0; values = said.1.1 }

pub overflow_mul-n : goal.overflow_mul-n
overflow_mul-n c = omega (arith, entry-within _ _ _ c.in_ok-s.ensures.found _ c.if-s-n.false)

pub overflow_add-s : goal.overflow_add-s
overflow_add-s c = omega (arith, entry-within _ _ _ c.in_ok-s.ensures.found _ c.if-s-n.false)

pub entry_at-requires : goal.entry_at-requires
entry_at-requires c = entry-within _ _ _ c.in_ok-s.ensures.found _ c.if-s-n.false

pub returns : goal.returns
returns c =
    let there = entry-there _ _ _ c.in_ok-s.ensures.found _ c.if-s-n.false in
    let said = entry-says _ _ _ (ap Ok c.entry_at.ensures ∙ sym there) in
    record { value = said.0; number = said.1.0; values = said.1.1 }
