-- `gsd_places::find_sites` meets its contract.
use mathlib.Core.Path.{ap, ◌∙◌}
use Rattle.gsd_format.specs.Header.{aligned}
use Rattle.gsd_places.specs.Sites.{behind_units}
use Rattle.gsd_places.proofs.find_sites.Goals as goal

pub returns : goal.returns
returns c =
    let x = c.args in
    let segments = c.new_count-segments.ensures.answer in
    let slots = c.new_count-slots.ensures.answer in
    let names_stand = c.rounded-names_at.ensures in
    let names = c.behind_units-names_done.ensures.answer ∙ (λ j. behind_units (segments j) (names_stand j) 64 x.position) in
    let index_stands = c.rounded-index_at.ensures ∙ ap aligned names in
    λ i. record {
      names_at = names_stand i;
      segments = segments i;
      names_done = names i;
      index_at = index_stands i;
      slots = slots i;
      last = (c.behind_units-last.ensures.answer ∙ (λ j. behind_units (slots j) (index_stands j) 32 (names j))) i;
    }
