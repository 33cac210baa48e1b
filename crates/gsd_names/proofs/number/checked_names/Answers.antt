-- `gsd_names::number::checked_names` meets its contract: each number by what is found.
use mathlib.Core.Path.{sym, ◌∙◌}
use mathlib.Core.Bool.{true, false}
use Rattle.gsd_format.specs.Refusals.{◌⇒◌}
use Rattle.gsd_names.proofs.NameLists.{number-open, number-many, number-twins}
use Rattle.gsd_names.proofs.number.checked_names.Goals as goal

pub returns-then-list-clause-number : goal.returns-then-list-clause-number
returns-then-list-clause-number c = sym (number-open _ _ _ _ c.name_list-list.ensures c.if-list.true)

pub returns-then-list-gt-MOST_NAMES-clause-number : goal.returns-then-list-gt-MOST_NAMES-clause-number
returns-then-list-gt-MOST_NAMES-clause-number c = sym (number-many _ _ _ _ c.name_list-list.ensures c.if-list.false c.if-list-gt-MOST_NAMES.true)

pub returns-then-any_twins-clause-number : goal.returns-then-any_twins-clause-number
unfolding ◌⇒◌
returns-then-any_twins-clause-number c =
    let told = sym (rw c.is_10.ensures at c.any_twins.ensures) ∙ c.if-any_twins.true in
    sym (number-twins _ _ _ _ c.name_list-list.ensures true c.if-list.false c.if-list-gt-MOST_NAMES.false told)

pub returns-clause-number : goal.returns-clause-number
unfolding ◌⇒◌
returns-clause-number c =
    let told = sym (rw c.is_10.ensures at c.any_twins.ensures) ∙ c.if-any_twins.false in
    sym (number-twins _ _ _ _ c.name_list-list.ensures false c.if-list.false c.if-list-gt-MOST_NAMES.false told)
