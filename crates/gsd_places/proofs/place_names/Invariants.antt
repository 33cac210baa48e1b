-- `gsd_places::place_names` meets its contract. Invariant: the new names before the j-th have their places.
use Rattle.gsd_places.proofs.Places.{Naming}
use Rattle.gsd_places.proofs.place_names.Given as goal

abbrev pub invariant-loop-j : goal.invariant-loop-j
invariant-loop-j l = Naming l.initial.plan l.fresh l.first l.plan l.next l.j
