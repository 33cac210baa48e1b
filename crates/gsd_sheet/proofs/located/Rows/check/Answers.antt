-- `gsd_sheet::located::Rows::check` meets its contract.
use mathlib.Core.Path.{sym, ◌∙◌}
use Rattle.gsd_format.proofs.Refusals.{decides, goes_on, met, passed}
use Rattle.gsd_sheet.specs.Rows.{rows_test}
use Rattle.gsd_sheet.proofs.located.Rows.check.Goals as goal

pub returns-then-zero_named : goal.returns-then-zero_named
unfolding rows_test
returns-then-zero_named c = sym (decides _ _ _ (sym c.zero_named.ensures ∙ c.if-zero_named.true))

pub returns-then-twin_named : goal.returns-then-twin_named
unfolding rows_test
returns-then-twin_named c =
    sym (goes_on _ _ _ (sym c.zero_named.ensures ∙ c.if-zero_named.false)
    ∙ decides _ _ _ (sym c.twin_named.ensures ∙ c.if-twin_named.true))

pub returns-then-any_nan_row : goal.returns-then-any_nan_row
unfolding rows_test
returns-then-any_nan_row c =
    sym (goes_on _ _ _ (sym c.zero_named.ensures ∙ c.if-zero_named.false)
    ∙ goes_on _ _ _ (sym c.twin_named.ensures ∙ c.if-twin_named.false)
    ∙ met _ _ (sym c.any_nan_row.ensures ∙ c.if-any_nan_row.true))

pub returns : goal.returns
unfolding rows_test
returns c =
    sym (goes_on _ _ _ (sym c.zero_named.ensures ∙ c.if-zero_named.false)
    ∙ goes_on _ _ _ (sym c.twin_named.ensures ∙ c.if-twin_named.false)
    ∙ passed _ _ (sym c.any_nan_row.ensures ∙ c.if-any_nan_row.false))
