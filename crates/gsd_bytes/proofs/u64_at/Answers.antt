-- `gsd_bytes::u64_at` meets its contract.
use Rattle.std.proofs.Common.{◌∙◌}
use Rattle.gsd_bytes.proofs.Methods.{read-part, read-eight}
use Rattle.gsd_bytes.proofs.u64_at.Goals as goal

pub returns : goal.returns
returns c = read-part 8 _ _ _ _ c.array_at.ensures (c.from_le_bytes.ensures ∙ read-eight _)
