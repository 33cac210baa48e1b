-- `gsd_states::plan_of` meets its contract.
use borrow.Author.Rules.{rules}
use Rattle.gsd_states.specs.States.{plan_in}
use Rattle.gsd_states.proofs.plan_of.Goals as goal

pub returns : goal.returns
unfolding plan_in
returns c = search rules
