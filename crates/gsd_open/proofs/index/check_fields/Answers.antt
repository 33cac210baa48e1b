-- Tests 12 to 14 in their order.
use mathlib.Core.Path.{sym, ◌∙◌, ap}
use mathlib.Core.Bool.{not}
use borrow.Author.Tests.{lt-ltb, le-ltb, lt-leb, le-leb}
use Rattle.gsd_format.proofs.Refusals.{decides, goes_on, left-holds, right-decides, neither-of}
use Rattle.gsd_open.specs.Index.{fields_test}
use Rattle.gsd_open.proofs.index.check_fields.Goals as goal

pub returns-then-e-lt-HEADER_SIZE : goal.returns-then-e-lt-HEADER_SIZE
unfolding fields_test
returns-then-e-lt-HEADER_SIZE c = sym (decides _ 11 _ (left-holds _ _ (lt-ltb _ _ c.if-e-lt-HEADER_SIZE.true)))

pub returns-then-e-ge-NEGATIVE : goal.returns-then-e-ge-NEGATIVE
unfolding fields_test
returns-then-e-ge-NEGATIVE c = sym (decides _ 11 _ (right-decides _ _ (le-ltb _ _ c.if-e-lt-HEADER_SIZE.false) ∙ le-leb _ _ c.if-e-ge-NEGATIVE.true))

pub returns-then-not-known : goal.returns-then-not-known
unfolding fields_test
returns-then-not-known c =
    let place = neither-of _ _ (le-ltb _ _ c.if-e-lt-HEADER_SIZE.false) (lt-leb _ _ c.if-e-ge-NEGATIVE.false) in
    let unknown = ap not (sym c.known.ensures ∙ c.if-not-known.true) in
    sym (goes_on _ 12 _ place ∙ decides _ 12 _ unknown)

pub returns : goal.returns
unfolding fields_test
returns c =
    let place = neither-of _ _ (le-ltb _ _ c.if-e-lt-HEADER_SIZE.false) (lt-leb _ _ c.if-e-ge-NEGATIVE.false) in
    let known = ap not (sym c.known.ensures ∙ c.if-not-known.false) in
    sym (goes_on _ 12 _ place ∙ goes_on _ 13 _ known ∙ sym c.refuse.ensures)
