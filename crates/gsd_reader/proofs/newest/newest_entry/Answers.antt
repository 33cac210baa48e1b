-- The halving of the query behind ends at the place behind.
use mathlib.Core.Path.{◌∙◌, ap}
use native.Mathlib.Omega.{arith}
use Rattle.gsd_format.specs.Readers.{last_before}
use Rattle.gsd_search.specs.Queries.{slots_for, halved_for}
use Rattle.gsd_reader.proofs.Queries.{behind-fits, behind-place, behind-high}
use Rattle.gsd_reader.proofs.newest.newest_entry.Goals as goal

pub invariant_of-behind : goal.invariant_of-behind
invariant_of-behind c = record { fits = rw c.behind.ensures (behind-fits _ _ c.args.s.now.fits c.requires.id) }

pub last_before-requires : goal.last_before-requires
last_before-requires c =
    let s = c.args.s.now in
    let at = c.halve-place.ensures.value ∙ ap (λ b. (halved_for s.image.now b).place) c.behind.ensures ∙ behind-place s.query s.image.now in
    omega (arith, at, behind-high s.query s.image.now)

pub returns : goal.returns
returns c =
    let s = c.args.s.now in
    let at = c.halve-place.ensures.value ∙ ap (λ b. (halved_for s.image.now b).place) c.behind.ensures ∙ behind-place s.query s.image.now in
    c.last_before.ensures ∙ ap (last_before s.query.id (slots_for s.image.now s.query)) at
