-- `gsd_bytes::scan::zero_in_block` meets its contract: what is found is what the bytes passed hold.
use Rattle.std.proofs.Common.{refl}
use Rattle.gsd_format.specs.Bytes.{zero_in}
use Rattle.gsd_bytes.proofs.Zeros.{zero_more}
use Rattle.gsd_bytes.proofs.scan.zero_in_block.Goals as goal

pub loop-k-init : goal.loop-k-init
unfolding zero_in
loop-k-init c = refl

pub loop-k-preserved : goal.loop-k-preserved
loop-k-preserved c = zero_more _ _ _ _ c.loop-k.invariant
