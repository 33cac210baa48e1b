-- By the version.
use mathlib.Core.Path.{sym, ◌∙◌}
use Rattle.gsd_reader.proofs.Opening.{size-old, size-new}
use Rattle.gsd_reader.proofs.found.list_size.Goals as goal

pub returns-then-is_10 : goal.returns-then-is_10
returns-then-is_10 c = sym (size-old _ (sym c.is_10.ensures ∙ c.if-is_10.true))

pub returns : goal.returns
returns c = sym (size-new _ (sym c.is_10.ensures ∙ c.if-is_10.false))
