-- Names that are refused, or what the walk says.
use mathlib.Core.Path.{sym}
use native.Mathlib.Omega.{arith}
use Rattle.std.proofs.lemmas.Result.{err_from_is_err_and}
use Rattle.gsd_open.proofs.Surveys.{laid-length, laid-short, laid-blocks, bad-names, few-found, walked-verdict, walked}
use Rattle.gsd_open.proofs.survey.survey_lists.Goals as goal

pub checked_names-requires : goal.checked_names-requires
checked_names-requires c =
    let laid = c.requires in
    record { inside = omega (arith, laid-length _ _ laid, laid-blocks _ _ laid); short = laid-short _ _ laid }

pub returns-in_err-names-clause-number : goal.returns-in_err-names-clause-number
returns-in_err-names-clause-number c =
    let p = err_from_is_err_and c.from_residual.result c.from_residual.ensures.1 in
    rw (p.1, p.2) (bad-names _ _ c.requires _ c.in_err-names.ensures.number)

pub invariant_of-placed : goal.invariant_of-placed
invariant_of-placed c =
    let laid = c.requires in
    let few = few-found _ _ laid _ _ (sym c.in_ok-names.ensures.number) c.in_ok-names.ensures.found in
    record { good = laid-blocks _ _ laid; short = omega (arith, laid-length _ _ laid, laid-short _ _ laid); few = few }

pub walk-requires : goal.walk-requires
walk-requires c = sym (laid-length _ _ c.requires)

pub returns-in_err-walk-clause-number : goal.returns-in_err-walk-clause-number
returns-in_err-walk-clause-number c =
    let names = c.in_ok-names.ensures in
    let p = err_from_is_err_and c.from_residual-in_err-walk.result c.from_residual-in_err-walk.ensures.1 in
    rw (p.1, p.2) (walked-verdict _ _ c.requires _ _ (sym names.number) names.found _ c.in_err-walk.ensures.number)

pub returns : goal.returns
returns c =
    let names = c.in_ok-names.ensures in
    let walk = c.in_ok-walk.ensures in
    let found = walked _ _ c.requires _ _ (sym names.number) names.found _ walk.number walk.walk _ c.frames_to.ensures in
    record { number = sym found.opens; found = found }
