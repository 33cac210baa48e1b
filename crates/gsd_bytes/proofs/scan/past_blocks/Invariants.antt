-- `gsd_bytes::scan::past_blocks` meets its contract: each block passed holds no zero.
use Rattle.std.proofs.Common.{◌+◌, ◌*◌}
use Rattle.gsd_bytes.specs.Zeros.{Clear}
use Rattle.gsd_bytes.proofs.scan.past_blocks.Given as goal

abbrev pub invariant-loop-k : goal.invariant-loop-k
invariant-loop-k l = Clear l.s l.from l.to (l.from + 32 * l.k)
