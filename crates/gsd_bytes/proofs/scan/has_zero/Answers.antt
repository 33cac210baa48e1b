-- `gsd_bytes::scan::has_zero` meets its contract.
use Rattle.std.proofs.Common.{◌∙◌, arith}
use Rattle.gsd_bytes.proofs.Methods.{zero-any}
use Rattle.gsd_bytes.proofs.scan.has_zero.Goals as goal

pub returns : goal.returns
returns c = c.contains.ensures.value ∙ zero-any _ _ _ (omega arith)
