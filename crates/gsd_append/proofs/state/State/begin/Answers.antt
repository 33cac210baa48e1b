-- `gsd_append::state::State::begin` meets its contract.
use Rattle.gsd_append.proofs.Turns.{refused-begun}
use Rattle.gsd_append.proofs.state.State.begin.Goals as goal

pub returns-in_err-counts : goal.returns-in_err-counts
returns-in_err-counts c = refused-begun _ _ c.in_err-counts.ensures.number c.from_residual.ensures.1
