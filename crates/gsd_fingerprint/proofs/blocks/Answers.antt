-- `gsd_fingerprint::blocks` meets its contract: each lane goes along its words.
use native.Mathlib.Omega.{arith}
use Rattle.gsd_fingerprint.proofs.Lanes.{along-more, blocks-none, blocks-all}
use Rattle.gsd_fingerprint.proofs.blocks.Goals as goal

pub returns-then-n-eq0 : goal.returns-then-n-eq0
returns-then-n-eq0 c = blocks-none _ _ c.if-n-eq0.true

pub loop-i-preserved : goal.loop-i-preserved
loop-i-preserved c =
    let lanes = c.loop-i.invariant in
    record {
      first = along-more 32 _ _ _ _ _ _ _ _ (omega arith) (omega arith) c.mixed_at-a.ensures lanes.first;
      second = along-more 32 _ _ _ _ _ _ _ _ (omega arith) (omega arith) c.mixed_at-b.ensures lanes.second;
      third = along-more 32 _ _ _ _ _ _ _ _ (omega arith) (omega arith) c.mixed_at-c.ensures lanes.third;
      fourth = along-more 32 _ _ _ _ _ _ _ _ (omega arith) (omega arith) c.mixed_at-d.ensures lanes.fourth;
    }

pub returns : goal.returns
returns c =
    blocks-all _ _ _ _ _ _ _ _ _ _ _ c.loop-i.invariant (omega arith)
    c.mixed.ensures c.mixed-2.ensures c.mixed-3.ensures c.mixed-4.ensures
