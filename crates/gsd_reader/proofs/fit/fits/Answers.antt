-- The tests come in the order of the definition, and the last one decides.
use mathlib.Core.Path.{sym, ◌∙◌}
use native.Mathlib.Omega.{arith}
use Rattle.gsd_reader.proofs.Fitting.{not_short, not_known, not-few, not-slots, not-list, fits_last}
use Rattle.gsd_reader.proofs.fit.fits.Goals as goal

pub returns-then-image-gt-GREATEST_LENGTH : goal.returns-then-image-gt-GREATEST_LENGTH
returns-then-image-gt-GREATEST_LENGTH c = sym (not_short _ _ c.if-image-gt-GREATEST_LENGTH.true)

pub returns-then-not-supported : goal.returns-then-not-supported
returns-then-not-supported c = sym (not_known _ _ (sym c.supported.ensures ∙ c.if-not-supported.true))

pub returns-then-r : goal.returns-then-r
returns-then-r c = sym (not-few _ _ c.if-r.true)

pub returns-then-len-r : goal.returns-then-len-r
returns-then-len-r c = sym (not-slots _ _ (omega (arith, c.if-len-r.true)))

pub returns-then-len-r-2 : goal.returns-then-len-r-2
returns-then-len-r-2 c = sym (not-slots _ _ (omega (arith, c.if-len-r-2.true)))

pub returns-then-len-r-3 : goal.returns-then-len-r-3
returns-then-len-r-3 c = sym (not-list _ _ (omega (arith, c.if-len-r-3.true)))

pub returns : goal.returns
returns c =
    fits_last _ _ (omega (arith, c.if-image-gt-GREATEST_LENGTH.false)) (sym c.supported.ensures ∙ c.if-not-supported.false) (omega (arith, c.if-r.false))
    (omega (arith, c.if-len-r-2.false, c.if-len-r.false)) (omega (arith, c.if-len-r-3.false))
