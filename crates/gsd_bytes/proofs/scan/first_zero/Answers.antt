-- `gsd_bytes::scan::first_zero` meets its contract: the first zero is near, or behind the bytes that are clear.
use Rattle.std.proofs.Common.{arith}
use Rattle.gsd_bytes.proofs.Zeros.{first-near, first-far}
use Rattle.gsd_bytes.proofs.scan.first_zero.Goals as goal

pub returns-then-r-near : goal.returns-then-r-near
returns-then-r-near c = first-near _ _ _ _ _ (omega arith) c.near_zero-r.ensures (omega arith)

pub returns : goal.returns
returns c = first-far _ _ _ _ _ _ _ c.near_zero-r.ensures (omega arith) c.past_blocks.ensures c.near_zero-2.ensures
