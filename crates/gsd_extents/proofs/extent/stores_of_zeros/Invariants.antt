-- `gsd_extents::extent::stores_of_zeros` meets its contract. Invariant: the stores of the words from w up to the i-th are made,
-- and the image is that after them.
use Rattle.gsd_extents.proofs.Tasks.{Made}
use Rattle.gsd_extents.proofs.extent.stores_of_zeros.Given as goal

abbrev pub invariant-loop-i : goal.invariant-loop-i
invariant-loop-i l = Made l.sheet l.initial.image l.extent l.w l.i l.image
