-- The survey tells all that the reader has.
use Rattle.std.proofs.lemmas.Result.{err_from_is_err_and}
use Rattle.gsd_reader.proofs.Opening.{refused-reading, few-names, list-above, ready-reading}
use Rattle.gsd_reader.proofs.found.open_reader.Goals as goal

pub returns-in_err-s : goal.returns-in_err-s
returns-in_err-s c =
    let p = err_from_is_err_and c.from_residual.result c.from_residual.ensures.1 in
    rw (p.1, p.2) (refused-reading _ _ c.in_err-s.ensures.number)

pub list_size-requires : goal.list_size-requires
list_size-requires c = record { counted = few-names _ _ _ c.in_ok-s.ensures.found; above = list-above _ _ _ c.in_ok-s.ensures.found }

pub returns : goal.returns
returns c = ready-reading _ _ _ c.in_ok-s.ensures.found _ c.list_size.ensures
