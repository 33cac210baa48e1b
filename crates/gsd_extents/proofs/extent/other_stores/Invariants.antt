-- `gsd_extents::extent::other_stores` meets its contract. Invariant of each loop: the stores of the words from where it
-- began up to the i-th are made, and the image is that after them.
use Rattle.gsd_extents.proofs.Tasks.{Made}
use Rattle.gsd_extents.proofs.extent.other_stores.Given as goal

abbrev pub invariant-loop-i : goal.invariant-loop-i
invariant-loop-i l = Made l.sheet l.initial.image l.extent l.w l.i l.image

abbrev pub invariant-loop-i-2 : goal.invariant-loop-i-2
invariant-loop-i-2 l = Made l.sheet l.initial.image l.extent l.f l.i l.image
