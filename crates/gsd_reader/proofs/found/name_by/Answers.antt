-- The answer is that of the walk over the names.
use mathlib.Core.Path.{sym, ◌∙◌, ap}
use Rattle.std.specs.Prelude.{Err}
use Rattle.std.proofs.lemmas.Result.{err_from_is_err_and}
use Rattle.gsd_format.specs.Answers.{refusal_number}
use Rattle.gsd_format.specs.Readers.{name_by}
use Rattle.gsd_format.proofs.Readers.{name-33, name-fits}
use Rattle.gsd_reader.proofs.found.name_by.Goals as goal

pub returns-in_err-of : goal.returns-in_err-of
returns-in_err-of c =
    let p = err_from_is_err_and c.from_residual.result c.from_residual.ensures.1 in
    rw (p.1, p.2) (ap (λ w. Err (refusal_number w)) c.in_err-of.ensures.0 ∙ sym (name-33 _ _ c.in_err-of.ensures.1 _))

pub returns : goal.returns
returns c =
    let here = c.in_ok-of in
    c.part.ensures ∙ sym (name-fits _ _ here.field-0.fits _) ∙ (λ i. name_by (here.ensures.0 i) (here.ensures.1 i) c.args.n)
