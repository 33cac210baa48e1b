-- Each test's number is that of both calls; what passes the tests is asked of the reader.
use native.Mathlib.Omega.{arith}
use Rattle.std.proofs.lemmas.Result.{err_from_is_err_and}
use Rattle.gsd_reader.proofs.Queries.{both-33, both-40, both-41}
use Rattle.gsd_reader.proofs.searching.search_by.Goals as goal

pub returns-in_err-here : goal.returns-in_err-here
returns-in_err-here c =
    let p = err_from_is_err_and c.from_residual.result c.from_residual.ensures.1 in
    rw (p.1, p.2, c.in_err-here.ensures.0) (both-33 _ _ _ _ c.in_err-here.ensures.1)

pub returns-then-here-frame : goal.returns-then-here-frame
returns-then-here-frame c =
    let said = c.in_ok-here.ensures in
    rw (← said.0, ← said.1) (both-40 _ _ _ _ c.in_ok-here.here.fits c.if-here-frame.true)

pub returns-then-here-id : goal.returns-then-here-id
returns-then-here-id c =
    let said = c.in_ok-here.ensures in
    rw (← said.0, ← said.1) (both-41 _ _ _ _ c.in_ok-here.here.fits (omega (arith, c.if-here-frame.false)) c.if-here-id.true)
