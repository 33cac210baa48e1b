-- `gsd_states::start` meets its contract.
use mathlib.Core.Path.{sym}
use native.Mathlib.Omega.{arith}
use Rattle.gsd_states.proofs.States.{accepted-long}
use Rattle.gsd_states.proofs.Begins.{began-put}
use Rattle.gsd_states.proofs.start.Goals as goal

pub put_marks-requires : goal.put_marks-requires
put_marks-requires c = accepted-long _ _ (sym c.in_ok-plan_append.ensures.number)

pub returns-clause-state : goal.returns-clause-state
returns-clause-state c =
    let plan = c.in_ok-plan_append.ensures.plan (sym c.in_ok-plan_append.ensures.number) in
    began-put _ _ c.plan_append.new.plan _ _ (λ i. omega (arith, c.type_inv.image i)) (λ i. omega (arith, c.type_inv.sheet i)) plan c.put_marks.ensures
