-- `gsd_plan::plan_append` meets its contract.
use mathlib.Core.Path.{sym}
use Rattle.std.proofs.lemmas.Result.{err_from_is_err_and}
use Rattle.gsd_plan.proofs.Tests.{not_opened, image-recent, bad-image, bad-sheet, good-sheet, plans-same}
use Rattle.gsd_plan.proofs.plan_append.Goals as goal

pub returns-in_err-survey : goal.returns-in_err-survey
returns-in_err-survey c =
    let p = err_from_is_err_and c.from_residual.result c.from_residual.ensures.1 in
    rw (p.1, p.2) (not_opened _ _ _ _ c.in_err-survey.ensures.number)

pub returns-in_err-check_image : goal.returns-in_err-check_image
returns-in_err-check_image c =
    let p = err_from_is_err_and c.from_residual-in_err-check_image.result c.from_residual-in_err-check_image.ensures.1 in
    rw (p.1, p.2) (bad-image _ _ _ _ c.in_ok-survey.ensures.found _ _ c.in_err-check_image.ensures)

pub returns-in_err-sheet_rows : goal.returns-in_err-sheet_rows
returns-in_err-sheet_rows c =
    let p = err_from_is_err_and c.from_residual-in_err-sheet_rows.result c.from_residual-in_err-sheet_rows.ensures.1 in
    rw (p.1, p.2) (bad-sheet _ _ _ _ c.in_ok-survey.ensures.found (sym c.in_ok-check_image.ensures) _ _ c.in_err-sheet_rows.ensures.answer)

pub plan_names-requires-clause-recent : goal.plan_names-requires-clause-recent
plan_names-requires-clause-recent c = image-recent _ _ (sym c.in_ok-check_image.ensures)

pub returns : goal.returns
returns c = plans-same _ _ _ _ _ _ (good-sheet _ _ _ _ c.in_ok-survey.ensures.found (sym c.in_ok-check_image.ensures) (sym c.in_ok-sheet_rows.ensures.answer)) c.plan_names.ensures
