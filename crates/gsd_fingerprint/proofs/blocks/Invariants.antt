-- `gsd_fingerprint::blocks` meets its contract: each lane goes along its words.
use Rattle.gsd_fingerprint.proofs.Lanes.{Lanes}
use Rattle.gsd_fingerprint.proofs.blocks.Given as goal

abbrev pub invariant-loop-i : goal.invariant-loop-i
invariant-loop-i l = Lanes l.s l.n l.i l.a l.b l.c l.d
