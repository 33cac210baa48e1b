-- The first part that refuses, or what the lists say.
use mathlib.Core.Path.{sym}
use native.Mathlib.Omega.{arith}
use Rattle.std.proofs.lemmas.Result.{err_from_is_err_and}
use Rattle.gsd_format.proofs.Verdict.{header-zero}
use Rattle.gsd_open.proofs.Surveys.{layout-length, bad-header, bad-blocks}
use Rattle.gsd_open.proofs.survey.survey_of.Goals as goal

pub returns-in_err-check_header-clause-number : goal.returns-in_err-check_header-clause-number
returns-in_err-check_header-clause-number c =
    let p = err_from_is_err_and c.from_residual.result c.from_residual.ensures.1 in
    rw (p.1, p.2) (bad-header _ _ c.in_err-check_header.ensures)

pub layout_of-layout-requires : goal.layout_of-layout-requires
layout_of-layout-requires c = ((header-zero _).0 (sym c.in_ok-check_header.ensures)).low

pub check_blocks-requires : goal.check_blocks-requires
check_blocks-requires c =
    let front = (header-zero _).0 (sym c.in_ok-check_header.ensures) in
    omega (arith, layout-length _ _ c.layout_of-layout.ensures, front.high)

pub returns-in_err-check_blocks-clause-number : goal.returns-in_err-check_blocks-clause-number
returns-in_err-check_blocks-clause-number c =
    let p = err_from_is_err_and c.from_residual-in_err-check_blocks.result c.from_residual-in_err-check_blocks.ensures.1 in
    rw (p.1, p.2) (bad-blocks _ _ _ (sym c.in_ok-check_header.ensures) c.layout_of-layout.ensures c.in_err-check_blocks.ensures)
