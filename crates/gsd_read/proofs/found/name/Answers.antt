-- The survey's number is passed on; the n-th name lies where the name list says.
use Rattle.std.specs.Prelude.{Ok, Err}
use mathlib.Core.Path.{sym, ◌∙◌, ap}
use native.Mathlib.Omega.{arith}
use Rattle.std.proofs.lemmas.Result.{err_from_is_err_and}
use Rattle.gsd_format.proofs.Lookup.{refused-name}
use Rattle.gsd_format.proofs.Calls.{name-says}
use Rattle.gsd_open.proofs.Surveys.{refused_on}
use Rattle.gsd_read.proofs.Answers.{name-there, no_name}
use Rattle.gsd_read.proofs.found.name.Goals as goal

pub returns-in_err-s : goal.returns-in_err-s
returns-in_err-s c =
    let p = err_from_is_err_and c.from_residual.result c.from_residual.ensures.1 in
    let said = name-says _ _ _ (refused_on _ Err _ (λ k r. refused-name _ k r _) _ c.in_err-s.ensures.number) in
    rw (p.1, p.2) (record { value = said.0; number = said.1.0; values = said.1.1 })

pub returns-then-s-n : goal.returns-then-s-n
returns-then-s-n c =
    let said = name-says _ _ _ (sym (no_name _ _ _ c.in_ok-s.ensures.found _ c.if-s-n.true)) in
    record { value = said.0; number = said.1.0; values = said.1.1 }

pub returns : goal.returns
returns c =
    let there = name-there _ _ _ c.in_ok-s.ensures.found _ _ _ c.listed.ensures.parts _ (omega (arith, c.listed.ensures.count)) in
    let said = name-says _ _ _ (ap Ok c.part.ensures ∙ sym there) in
    record { value = said.0; number = said.1.0; values = said.1.1 }
