-- The chunk's end is tested first, so the sums behind it fit.
use mathlib.Core.Path.{sym, ◌∙◌, ap}
use borrow.Author.Tests.{lt-ltb, le-ltb}
use Rattle.gsd_format.specs.Refusals.{◌⇒◌}
use Rattle.gsd_format.proofs.Refusals.{decides, goes_on, met, left-holds, right-decides}
use Rattle.gsd_open.specs.Index.{room_test}
use Rattle.gsd_open.proofs.index.Placed.check_room.Goals as goal

pub returns-then-l-a : goal.returns-then-l-a
unfolding room_test
returns-then-l-a c = sym (decides _ 15 _ (lt-ltb _ _ c.if-l-a.true))

pub returns-then-share : goal.returns-then-share
unfolding room_test
returns-then-share c = sym (goes_on _ 16 _ (le-ltb _ _ c.if-l-a.false) ∙ met _ 17 (left-holds _ _ (sym c.share.ensures ∙ c.if-share.true)))

pub returns : goal.returns
unfolding room_test
returns c =
    let ends = le-ltb _ _ c.if-l-a.false in
    let index = sym c.share.ensures ∙ c.if-share.false in
    c.refuse.ensures ∙ ap (λ t. t ⇒ 17) (c.share-2.ensures ∙ sym (right-decides _ _ index)) ∙ sym (goes_on _ 16 _ ends)
