-- The survey's number is passed on, or its counts are answered.
use Rattle.std.specs.Prelude.{Err}
use mathlib.Core.Path.{sym}
use Rattle.std.proofs.lemmas.Result.{err_from_is_err_and}
use Rattle.gsd_format.proofs.Verdict.{opening-refused}
use Rattle.gsd_format.proofs.Calls.{opening-says}
use Rattle.gsd_open.proofs.Surveys.{refused_on}
use Rattle.gsd_read.proofs.Answers.{opened}
use Rattle.gsd_read.proofs.found.open.Goals as goal

pub returns-in_err-s : goal.returns-in_err-s
returns-in_err-s c =
    let p = err_from_is_err_and c.from_residual.result c.from_residual.ensures.1 in
    let said = opening-says _ _ (refused_on _ Err _ (opening-refused _) _ c.in_err-s.ensures.number) in
    rw (p.1, p.2) (record { value = said.0; number = said.1.0; values = said.1.1 })

pub returns : goal.returns
returns c =
    let said = opening-says _ _ (sym (opened _ _ _ c.in_ok-s.ensures.found)) in
    record { value = said.0; number = said.1.0; values = said.1.1 }
