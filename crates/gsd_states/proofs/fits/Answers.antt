-- `gsd_states::fits` meets its contract.
use borrow.Author.Rules.{rules}
use mathlib.Core.Path.{sym, ◌∙◌}
use mathlib.Core.Bool.{true≢false}
use Rattle.gsd_feasible.proofs.Plans.{feasible-long}
use Rattle.gsd_states.proofs.States.{feasible-of, Told, fits_not, fits-header}
use Rattle.gsd_states.proofs.fits.Goals.{then-words-image, else-words-image, then-words-sheet, else-words-sheet}
use Rattle.gsd_states.proofs.fits.Goals as goal

pub same_header-requires : goal.same_header-requires
same_header-requires c =
    elim c.if-words-sheet.branch [
      | then-words-sheet w ↦ feasible-long _ _ _ (sym w.is_feasible.ensures ∙ sym w.value-is ∙ c.if-is_feasible.true)
      | else-words-sheet w ↦ absurd (true≢false (sym c.if-is_feasible.true ∙ w.value-is ∙ w.if-words-sheet.false))
    ]

pub returns-then-is_feasible : goal.returns-then-is_feasible
returns-then-is_feasible c =
    let x = c.args in
    elim c.if-words-sheet.branch [
      | then-words-sheet w ↦
          elim c.if-words-image.branch [
            | then-words-image v ↦
                let plan = feasible-of _ _ (sym w.plan_of.ensures) (sym w.is_feasible.ensures ∙ sym w.value-is ∙ c.if-is_feasible.true) in
                let told : Told x.words.now x.image.now x.sheet.now = record { image = v.if-words-image.true; rows = search rules; plan = plan } in
                c.same_header.ensures ∙ sym (fits-header x.words.now x.image.now x.sheet.now told)
            | else-words-image v ↦ absurd (v.if-words-image.false (search rules))
          ]
      | else-words-sheet w ↦ absurd (true≢false (sym c.if-is_feasible.true ∙ w.value-is ∙ w.if-words-sheet.false))
    ]

pub returns-else-is_feasible : goal.returns-else-is_feasible
returns-else-is_feasible c =
    let x = c.args in
    let stops = c.if-is_feasible.false in
    stops ∙ fits_not x.words.now x.image.now x.sheet.now (λ t.
    elim c.if-words-sheet.branch [
      | then-words-sheet w ↦ true≢false (sym (feasible-of _ _ w.plan_of.ensures t.plan) ∙ sym w.is_feasible.ensures ∙ sym w.value-is ∙ stops)
      | else-words-sheet w ↦
          elim c.if-words-image.branch [
            | then-words-image v ↦ let rows = t.rows in search rules
            | else-words-image v ↦ v.if-words-image.false t.image
          ]
    ])
