-- `gsd_append::state::State::refused` meets its contract.
use mathlib.Core.Path.{refl}
use Rattle.gsd_append.specs.Turns.{refused_state}
use Rattle.gsd_append.proofs.state.State.refused.Goals as goal

pub returns : goal.returns
unfolding refused_state
returns c = refl
