-- `gsd_fingerprint::words` meets its contract: the words left lead from the state so far to the lane's end.
use native.Mathlib.Omega.{arith}
use Rattle.gsd_fingerprint.proofs.Lanes.{along-more, along-all}
use Rattle.gsd_fingerprint.proofs.words.Goals as goal

pub loop-i-preserved : goal.loop-i-preserved
loop-i-preserved c = along-more 8 _ _ _ _ _ _ _ _ (omega arith) (omega arith) c.mixed_at-h.ensures c.loop-i.invariant

pub returns : goal.returns
returns c = along-all 8 _ _ _ _ _ _ (omega arith) c.loop-i.invariant
