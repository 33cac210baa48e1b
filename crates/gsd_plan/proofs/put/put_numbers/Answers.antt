-- `gsd_plan::put::put_numbers` meets its contract.
use Prim.Native.Nat.{◌+◌, ◌*◌}
use mathlib.Core.Path.{◌∙◌, ap}
use mathlib.Core.List.{[], ◌∷◌}
use Rattle.gsd_format.specs.Bytes.{stored}
use Rattle.gsd_plan.specs.Planning.{list_numbers}
use Rattle.gsd_plan.proofs.PlanMatch.{put-more}
use Rattle.gsd_plan.proofs.put.put_numbers.Goals as goal

pub returns : goal.returns
returns c =
    let x = c.args in
    let l = x.plan.now in
    let counts = c.put_counts.ensures ∙ ap (λ b. stored l 385 (x.rows ∷ x.fresh ∷ x.survey.frames ∷ (b + 32 * x.survey.entries) ∷ [])) c.block_at.ensures in
    let lists = list_numbers x.survey.layout x.survey.entries x.survey.names.list_end in
    let sites = x.s.names_at ∷ x.s.segments ∷ x.s.index_at ∷ x.s.slots ∷ [] in
    c.put_sites.ensures
    ∙ ap (λ m. stored m 395 sites) (c.put_lists.ensures ∙ ap (λ m. stored m 389 lists) counts ∙ put-more l 385 _ lists)
    ∙ put-more l 385 _ sites
