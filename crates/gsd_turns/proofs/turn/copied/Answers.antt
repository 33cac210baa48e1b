-- `gsd_turns::turn::copied` meets its contract: step 5 begins behind the clears, the rows, the name block's move and the new names.
use Prim.Native.Nat.{◌/◌}
use mathlib.Core.Path.{◌∙◌, ap}
use native.Mathlib.Omega.{arith}
use Rattle.gsd_steps.specs.Steps.{index_move, move_extent}
use Rattle.gsd_steps.proofs.Steps.{at_slots}
use Rattle.gsd_turns.proofs.turn.copied.Goals as goal

pub returns : goal.returns
returns c =
    let p = c.args.front.plan.now in
    ap (λ e. e.words / 4)
    (c.extent_at-x.ensures ∙ at_slots p _ (omega arith) (omega arith) (omega arith) (omega arith) (omega arith)
    ∙ ap (move_extent (index_move p)) (omega arith))
