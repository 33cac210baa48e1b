-- The search's answer is the definition's.
use mathlib.Core.Path.{sym, ◌∙◌}
use Rattle.gsd_format.proofs.Readers.{find-fits, counted-both}
use Rattle.gsd_search.specs.Queries.{answer_for}
use Rattle.gsd_reader.proofs.found.find_by.Goals as goal

pub returns : goal.returns
returns c =
    let said = c.in_ok-search_by.ensures in
    let asked = said.2 in
    c.find_entry.ensures.answer ∙ (λ i. answer_for (said.1 i) (said.0 i))
    ∙ sym (find-fits _ _ asked.fitting _ _ ∙ counted-both _ _ _ _ _ asked.of_frame asked.of_id)
