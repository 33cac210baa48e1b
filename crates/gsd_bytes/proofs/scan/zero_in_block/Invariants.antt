-- `gsd_bytes::scan::zero_in_block` meets its contract: what is found is what the bytes passed hold.
use Rattle.std.proofs.Common.{◌≡◌}
use Rattle.gsd_format.specs.Bytes.{zero_in}
use Rattle.gsd_bytes.proofs.scan.zero_in_block.Given as goal

abbrev pub invariant-loop-k : goal.invariant-loop-k
invariant-loop-k l = l.found ≡ zero_in l.s l.at l.k
