-- An entry that holds can be read.
use mathlib.Core.Path.{refl, sym, ◌∙◌}
use Rattle.gsd_format.proofs.Readers.{element-held, element-33}
use Rattle.gsd_reader.proofs.Fitting.{holding}
use Rattle.gsd_reader.proofs.found.element_of.Goals as goal

pub invariant_of-element : goal.invariant_of-element
invariant_of-element c =
    let said = holding _ _ _ (sym c.holds.ensures ∙ c.if-holds.true) c.requires in
    record { held = said }

pub returns-then-holds : goal.returns-then-holds
returns-then-holds c = c.element.ensures.answer ∙ sym (element-held _ _ _ _ refl (sym c.holds.ensures ∙ c.if-holds.true) _)

pub returns : goal.returns
returns c = sym (element-33 _ _ _ _ refl (sym c.holds.ensures ∙ c.if-holds.false) _)
