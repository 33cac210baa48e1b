-- `gsd_states::begin` meets its contract.
use mathlib.Core.Path.{sym, ◌∙◌, ap}
use Rattle.gsd_steps.specs.Steps.{copied_in}
use Rattle.gsd_turns.specs.Turns.{whole_of}
use Rattle.gsd_states.proofs.Begins.{began-front, began-count, accepted-begins}
use Rattle.gsd_states.proofs.begin.Goals as goal

pub invariant_of-front : goal.invariant_of-front
invariant_of-front c =
    record { sound = rw c.plan_of-plan.ensures (began-front (sym c.in_ok-start.ensures.number) c.in_ok-start.ensures.state) }

pub whole-requires : goal.whole-requires
whole-requires c = rw c.plan_of-plan.ensures (began-count (sym c.in_ok-start.ensures.number) c.in_ok-start.ensures.state)

pub returns-clause-begun : goal.returns-clause-begun
returns-clause-begun c =
    let front = c.plan_of-plan.ensures in
    accepted-begins (sym c.in_ok-start.ensures.number) c.in_ok-start.ensures.state _ _ (c.whole.ensures ∙ ap whole_of front) (c.copied.ensures ∙ ap copied_in front)
