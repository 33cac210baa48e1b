-- `gsd_plan::check_image` meets its contract.
use mathlib.Core.Path.{sym, ◌∙◌}
use Rattle.gsd_plan.proofs.Tests.{image-10, odd_index, odd-names, frames-full, image-good}
use Rattle.gsd_plan.proofs.check_image.Goals as goal

pub returns-then-is_10 : goal.returns-then-is_10
returns-then-is_10 c = image-10 _ _ (sym c.is_10.ensures ∙ c.if-is_10.true)

pub returns-then-l-ne0 : goal.returns-then-l-ne0
returns-then-l-ne0 c = odd_index _ _ (sym c.is_10.ensures ∙ c.if-is_10.false) c.if-l-ne0.true

pub returns-then-l-ne0-2 : goal.returns-then-l-ne0-2
returns-then-l-ne0-2 c = odd-names _ _ (sym c.is_10.ensures ∙ c.if-is_10.false) c.if-l-ne0.false c.if-l-ne0-2.true

pub returns-then-frames : goal.returns-then-frames
returns-then-frames c = frames-full _ _ (sym c.is_10.ensures ∙ c.if-is_10.false) c.if-l-ne0.false c.if-l-ne0-2.false c.if-frames.true

pub returns : goal.returns
returns c = image-good _ _ (sym c.is_10.ensures ∙ c.if-is_10.false) c.if-l-ne0.false c.if-l-ne0-2.false c.if-frames.false
