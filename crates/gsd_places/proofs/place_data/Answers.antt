-- `gsd_places::place_data` meets its contract. Invariant: the rows before the i-th have their places.
use native.Mathlib.Omega.{arith}
use Rattle.gsd_places.proofs.Places.{placing-none, placing-room, placing-more}
use Rattle.gsd_places.proofs.place_data.Goals as goal

pub loop-i-init : goal.loop-i-init
loop-i-init c = placing-none _ _ _

pub rounded-to-requires : goal.rounded-to-requires
rounded-to-requires c = omega (arith, c.requires.start, (placing-room c.loop-i.invariant c.requires.laid.few (omega arith) c.requires.laid).1.1.0)

pub overflow_add-position-in-loop-i : goal.overflow_add-position-in-loop-i
overflow_add-position-in-loop-i c = omega (arith, c.rounded-to.ensures, c.requires.start, (placing-room c.loop-i.invariant c.requires.laid.few (omega arith) c.requires.laid).1.1.1)

pub loop-i-preserved : goal.loop-i-preserved
loop-i-preserved c = placing-more c.loop-i.invariant c.requires.laid.few (omega arith) c.told-plan _ c.rounded-to.ensures
