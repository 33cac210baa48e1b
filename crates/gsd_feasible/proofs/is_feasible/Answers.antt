-- `gsd_feasible::is_feasible` meets its contract: the first test that fails decides, and those before the last make the front sound.
use mathlib.Core.Path.{sym, ◌∙◌}
use Rattle.gsd_feasible.specs.Feasible.{feasible}
use Rattle.gsd_feasible.proofs.Plans.{front-sound}
use Rattle.gsd_feasible.proofs.is_feasible.Goals as goal

pub returns-then-not-counts_fit : goal.returns-then-not-counts_fit
unfolding feasible
returns-then-not-counts_fit c = simp (sym c.counts_fit.ensures ∙ c.if-not-counts_fit.true)

pub returns-then-not-numbers_fit : goal.returns-then-not-numbers_fit
unfolding feasible
returns-then-not-numbers_fit c =
    let counts = sym c.counts_fit.ensures ∙ c.if-not-counts_fit.false in
    simp (counts, sym c.numbers_fit.ensures ∙ c.if-not-numbers_fit.true)

pub invariant_of-front_keeps : goal.invariant_of-front_keeps
invariant_of-front_keeps c =
    let counts = sym c.counts_fit.ensures ∙ c.if-not-counts_fit.false in
    record { sound = front-sound c.args.n c.args.m _ c.told-plan counts (sym c.numbers_fit.ensures ∙ c.if-not-numbers_fit.false) }

pub returns : goal.returns
unfolding feasible
returns c =
    let counts = sym c.counts_fit.ensures ∙ c.if-not-counts_fit.false in
    c.front_keeps.ensures ∙ simp (counts, sym c.numbers_fit.ensures ∙ c.if-not-numbers_fit.false)
