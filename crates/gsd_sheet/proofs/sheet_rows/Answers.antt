-- `gsd_sheet::sheet_rows` meets its contract.
use mathlib.Core.Path.{◌≡◌, sym, ◌∙◌}
use native.Mathlib.Omega.{arith}
use Rattle.std.proofs.lemmas.Result.{err_from_is_err_and}
use Rattle.gsd_format.specs.Answers.{refusal_number}
use Rattle.gsd_format.proofs.Refusals.{refusal-some}
use Rattle.gsd_sheet.specs.Rows.{end_test}
use Rattle.gsd_sheet.proofs.Rows.{number-table, number-end, number-rows}
use Rattle.gsd_sheet.proofs.sheet_rows.Goals as goal

pub returns-in_err-table-clause-answer : goal.returns-in_err-table-clause-answer
returns-in_err-table-clause-answer c =
    let s = c.args.sheet.now in
    let p = err_from_is_err_and c.from_residual.result c.from_residual.ensures.1 in
    rw (p.1, p.2) (c.in_err-table.ensures.answer ∙ sym (number-table _ s (λ z. omega (arith, refusal-some c.in_err-table.field-0.0, c.in_err-table.ensures.answer, z))))

pub returns-in_err-place_rows-clause-answer : goal.returns-in_err-place_rows-clause-answer
returns-in_err-place_rows-clause-answer c =
    let s = c.args.sheet.now in
    let p = err_from_is_err_and c.from_residual-in_err-place_rows.result c.from_residual-in_err-place_rows.ensures.1 in
    let ended : refusal_number c.in_err-place_rows.field-0.0 ≡ end_test s = rw c.in_ok-table.ensures.table at c.in_err-place_rows.ensures.answer in
    rw (p.1, p.2) (ended
    ∙ sym (number-end _ s (sym c.in_ok-table.ensures.answer) (λ z. omega (arith, refusal-some c.in_err-place_rows.field-0.0, ended, z))))

pub returns-clause-answer : goal.returns-clause-answer
returns-clause-answer c = c.check.ensures ∙ sym (number-rows _ c.args.sheet.now (sym c.in_ok-table.ensures.answer) (sym (rw c.in_ok-table.ensures.table at c.in_ok-place_rows.ensures.answer)))
