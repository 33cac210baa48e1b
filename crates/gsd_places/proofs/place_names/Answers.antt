-- `gsd_places::place_names` meets its contract. Invariant: the new names before the j-th have their places.
use native.Mathlib.Omega.{arith}
use Rattle.gsd_places.proofs.Places.{naming-none, naming-room, naming-more}
use Rattle.gsd_places.proofs.place_names.Goals as goal

pub loop-j-init : goal.loop-j-init
loop-j-init c = naming-none _ _ _

pub overflow_add-next : goal.overflow_add-next
overflow_add-next c = omega (arith, c.requires.first, naming-room c.loop-j.invariant c.requires.laid (omega arith))

pub overflow_add-next-in-loop-j : goal.overflow_add-next-in-loop-j
overflow_add-next-in-loop-j c = omega (arith, c.requires.first, naming-room c.loop-j.invariant c.requires.laid (omega arith))

pub loop-j-preserved : goal.loop-j-preserved
loop-j-preserved c = naming-more c.loop-j.invariant c.requires.laid (omega arith) c.told-plan
