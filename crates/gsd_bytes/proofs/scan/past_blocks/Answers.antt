-- `gsd_bytes::scan::past_blocks` meets its contract: each block passed holds no zero.
use Rattle.std.proofs.Common.{arith}
use Rattle.gsd_bytes.proofs.Zeros.{block-more}
use Rattle.gsd_bytes.proofs.scan.past_blocks.Goals as goal

pub loop-k-preserved : goal.loop-k-preserved
loop-k-preserved c = block-more _ _ _ _ c.loop-k.invariant (omega arith) c.zero_in_block.ensures c.if-zero_in_block.false
