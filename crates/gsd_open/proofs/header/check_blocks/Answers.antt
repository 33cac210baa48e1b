-- The three tests in their order; a block that passes its own ends within the slice, so no sum wraps.
use mathlib.Core.Path.{sym, ◌∙◌, ap}
use Rattle.gsd_format.specs.Refusals.{◌⇒◌}
use Rattle.gsd_format.specs.Opening.{blocks_test}
use Rattle.gsd_format.proofs.Refusals.{decides, goes_on}
use Rattle.gsd_open.proofs.header.check_blocks.Goals as goal

pub returns-then-outside : goal.returns-then-outside
unfolding blocks_test
returns-then-outside c = sym (decides _ 5 _ (sym c.outside.ensures ∙ c.if-outside.true))

pub returns-then-outside-2 : goal.returns-then-outside-2
unfolding blocks_test
returns-then-outside-2 c = sym (goes_on _ 6 _ (sym c.outside.ensures ∙ c.if-outside.false) ∙ decides _ 6 _ (sym c.outside-2.ensures ∙ c.if-outside-2.true))

pub returns : goal.returns
unfolding blocks_test
returns c =
    let index = sym c.outside.ensures ∙ c.if-outside.false in
    let namelist = sym c.outside-2.ensures ∙ c.if-outside-2.false in
    sym (goes_on _ 6 _ index ∙ goes_on _ 7 _ namelist ∙ ap (λ t. t ⇒ 8) (sym c.share-meet.ensures) ∙ sym c.refuse.ensures)
