-- `gsd_bytes::u32_at` meets its contract.
use Rattle.std.proofs.Common.{◌∙◌}
use Rattle.gsd_bytes.proofs.Methods.{read-part, read-four}
use Rattle.gsd_bytes.proofs.u32_at.Goals as goal

pub returns-clause-answer : goal.returns-clause-answer
returns-clause-answer c = read-part 4 _ _ _ _ c.array_at.ensures (c.from.ensures ∙ c.from_le_bytes.ensures ∙ read-four _)
