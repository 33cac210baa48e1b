-- The search's answer, by its number and its values.
use mathlib.Core.Path.{◌∙◌}
use Rattle.gsd_format.proofs.Calls.{lookup-says}
use Rattle.gsd_read.proofs.Answers.{refused_number}
use Rattle.gsd_read.proofs.found.lookup.Goals as goal

pub returns : goal.returns
returns c =
    let said = lookup-says _ _ _ _ c.search.ensures.answer in
    record { value = said.0; number = refused_number c.search.result.answer ∙ said.1.0; values = said.1.1 }
