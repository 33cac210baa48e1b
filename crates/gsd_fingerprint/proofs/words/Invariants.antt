-- `gsd_fingerprint::words` meets its contract: the words left lead from the state so far to the lane's end.
use Rattle.gsd_fingerprint.proofs.Lanes.{Along}
use Rattle.gsd_fingerprint.proofs.words.Given as goal

abbrev pub invariant-loop-i : goal.invariant-loop-i
invariant-loop-i l = Along 8 l.s l.at l.n l.start l.i l.h
