-- `gsd_places::new_count` meets its contract.
use mathlib.Core.Path.{◌∙◌}
use native.Mathlib.Omega.{arith}
use Rattle.gsd_places.proofs.new_count.Goals as goal

pub returns-then-moves : goal.returns-then-moves
returns-then-moves c = record { answer = c.grown_count.ensures.answer ∙ rw c.if-moves.true; bound = c.grown_count.ensures.bound }

pub returns-else-moves : goal.returns-else-moves
returns-else-moves c = record { answer = rw c.if-moves.false; bound = omega arith }
