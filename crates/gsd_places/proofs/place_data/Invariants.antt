-- `gsd_places::place_data` meets its contract. Invariant: the rows before the i-th have their places.
use Rattle.gsd_places.proofs.Places.{Placing}
use Rattle.gsd_places.proofs.place_data.Given as goal

abbrev pub invariant-loop-i : goal.invariant-loop-i
invariant-loop-i l = Placing l.initial.plan l.count l.start l.plan l.position l.i
