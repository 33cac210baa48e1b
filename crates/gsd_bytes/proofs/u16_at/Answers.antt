-- `gsd_bytes::u16_at` meets its contract.
use Rattle.std.proofs.Common.{◌∙◌}
use Rattle.gsd_bytes.proofs.Methods.{read-part, read-two}
use Rattle.gsd_bytes.proofs.u16_at.Goals as goal

pub returns-clause-answer : goal.returns-clause-answer
returns-clause-answer c = read-part 2 _ _ _ _ c.array_at.ensures (c.from.ensures ∙ c.from_le_bytes.ensures ∙ read-two _)
