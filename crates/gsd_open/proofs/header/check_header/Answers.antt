-- The tests in their order.
use mathlib.Core.Path.{sym, ◌∙◌, ap}
use mathlib.Core.Bool.{not}
use borrow.Author.Tests.{lt-ltb, le-ltb}
use Rattle.gsd_format.specs.Refusals.{◌⇒◌}
use Rattle.gsd_format.specs.Header.{supported}
use Rattle.gsd_format.specs.Opening.{header_test}
use Rattle.gsd_format.proofs.Refusals.{decides, goes_on}
use Rattle.gsd_open.proofs.header.check_header.Goals as goal

pub returns-then-image : goal.returns-then-image
unfolding header_test
returns-then-image c = sym (decides _ 0 _ (lt-ltb _ _ c.if-image.true))

pub returns-then-image-gt-GREATEST_LENGTH : goal.returns-then-image-gt-GREATEST_LENGTH
unfolding header_test
returns-then-image-gt-GREATEST_LENGTH c = sym (goes_on _ 1 _ (le-ltb _ _ c.if-image.false) ∙ decides _ 1 _ (lt-ltb _ _ c.if-image-gt-GREATEST_LENGTH.true))

pub returns-then-not-has_magic : goal.returns-then-not-has_magic
unfolding header_test
returns-then-not-has_magic c =
    let long = le-ltb _ _ c.if-image.false in
    let short = le-ltb _ _ c.if-image-gt-GREATEST_LENGTH.false in
    sym (goes_on _ 1 _ long ∙ goes_on _ 2 _ short ∙ decides _ 2 _ (ap not (sym c.has_magic.ensures ∙ c.if-not-has_magic.true)))

pub returns-then-not-supported : goal.returns-then-not-supported
unfolding header_test
returns-then-not-supported c =
    let long = le-ltb _ _ c.if-image.false in
    let short = le-ltb _ _ c.if-image-gt-GREATEST_LENGTH.false in
    let magic = ap not (sym c.has_magic.ensures ∙ c.if-not-has_magic.false) in
    let version = ap not (sym (c.supported.ensures ∙ ap (λ v. supported v) c.u32_at.ensures.answer) ∙ c.if-not-supported.true) in
    sym (goes_on _ 1 _ long ∙ goes_on _ 2 _ short ∙ goes_on _ 3 _ magic ∙ decides _ 3 _ version)

pub returns : goal.returns
unfolding header_test
returns c =
    let long = le-ltb _ _ c.if-image.false in
    let short = le-ltb _ _ c.if-image-gt-GREATEST_LENGTH.false in
    let magic = ap not (sym c.has_magic.ensures ∙ c.if-not-has_magic.false) in
    let version = ap not (sym (c.supported.ensures ∙ ap (λ v. supported v) c.u32_at.ensures.answer) ∙ c.if-not-supported.false) in
    let texts = ap (λ t. t ⇒ 5) (sym c.text_open.ensures) in
    sym (goes_on _ 1 _ long ∙ goes_on _ 2 _ short ∙ goes_on _ 3 _ magic ∙ goes_on _ 4 _ version ∙ texts ∙ sym c.refuse.ensures)
