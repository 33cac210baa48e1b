-- An entry that is found has its chunk in the image; a refusal is passed on.
use mathlib.Core.Path.{sym, ◌∙◌, ap}
use Rattle.gsd_format.specs.Answers.{numbered, answer_of}
use Rattle.gsd_format.proofs.Calls.{element-says}
use Rattle.gsd_read.proofs.Answers.{refused_number}
use Rattle.gsd_read.proofs.Lookups.{found-held, element-found, element-refused}
use Rattle.gsd_read.proofs.found.element.Goals as goal

pub invariant_of-element : goal.invariant_of-element
invariant_of-element c = record { held = found-held _ _ _ _ (sym c.in-Ok.ensures.value) }

pub returns-in-Ok : goal.returns-in-Ok
returns-in-Ok c =
    let here = ap numbered c.from.ensures ∙ c.element.ensures.answer in
    let said = element-says _ _ _ _ _ (here ∙ sym (element-found _ _ _ _ _ (sym c.in-Ok.ensures.value))) in
    record { value = said.0; number = refused_number (answer_of c.from.result) ∙ said.1.0; values = said.1.1 }

pub returns-in-Err : goal.returns-in-Err
returns-in-Err c =
    let said = element-says _ _ _ _ _ (sym (element-refused _ _ _ _ _ (sym c.in-Err.ensures.value))) in
    record { value = said.0; number = said.1.0; values = said.1.1 }
