-- An id that is found is below the number of names, so the query fits.
use mathlib.Core.Path.{sym, ◌∙◌, ap}
use native.Mathlib.Omega.{arith}
use Rattle.std.specs.Prelude.{Err}
use Rattle.std.proofs.lemmas.Result.{err_from_is_err_and}
use Rattle.gsd_format.specs.Answers.{refusal_number}
use Rattle.gsd_format.specs.Readers.{lookup_by}
use Rattle.gsd_format.proofs.Readers.{look-33, look-behind, look-for, found-is, found-not}
use Rattle.gsd_search.specs.Queries.{answer_for}
use Rattle.gsd_reader.proofs.NextNames.{ident-low}
use Rattle.gsd_reader.proofs.found.lookup_by.Goals as goal

pub returns-in_err-here : goal.returns-in_err-here
returns-in_err-here c =
    let p = err_from_is_err_and c.from_residual.result c.from_residual.ensures.1 in
    rw (p.1, p.2) (ap (λ w. Err (refusal_number w)) c.in_err-here.ensures.0 ∙ sym (look-33 _ _ c.in_err-here.ensures.1 _ _))

pub returns-then-here-frame : goal.returns-then-here-frame
returns-then-here-frame c =
    let said = c.in_ok-here.ensures in
    sym (look-behind _ _ c.in_ok-here.here.fits _ _ c.if-here-frame.true)
    ∙ (λ i. lookup_by (said.0 i) (said.1 i) c.args.frame c.args.name.now)

pub returns-in_err-id : goal.returns-in_err-id
returns-in_err-id c =
    let said = c.in_ok-here.ensures in
    let p = err_from_is_err_and c.from_residual-in_err-id.result c.from_residual-in_err-id.ensures.1 in
    rw (p.1, p.2) (sym (look-for _ _ c.in_ok-here.here.fits _ _ (omega (arith, c.if-here-frame.false)) ∙ found-not _ _ _ _ _ (sym c.in_err-id.ensures))
    ∙ (λ i. lookup_by (said.0 i) (said.1 i) c.args.frame c.args.name.now))

pub search-requires : goal.search-requires
search-requires c =
    let here = c.in_ok-here.here in ident-low here.reader.now here.image.now c.args.name.now _ (sym c.in_ok-id.ensures)

pub returns : goal.returns
returns c =
    let said = c.in_ok-here.ensures in
    c.find_entry.ensures.answer ∙ (λ i. answer_for (c.search.ensures.image i) (c.search.ensures.query i))
    ∙ sym (look-for _ _ c.in_ok-here.here.fits _ _ (omega (arith, c.if-here-frame.false)) ∙ found-is _ _ _ _ _ (sym c.in_ok-id.ensures))
    ∙ (λ i. lookup_by (said.0 i) (said.1 i) c.args.frame c.args.name.now)
