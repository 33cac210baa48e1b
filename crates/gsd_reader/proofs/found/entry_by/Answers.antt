-- The slot lies in the image, for the reader fits.
use mathlib.Core.Path.{sym, ◌∙◌, ap}
use native.Mathlib.Omega.{arith}
use Rattle.std.specs.Prelude.{Ok, Err}
use Rattle.std.proofs.lemmas.Result.{err_from_is_err_and}
use Rattle.gsd_format.specs.Answers.{refusal_number}
use Rattle.gsd_format.specs.Readers.{entry_by}
use Rattle.gsd_format.proofs.Readers.{entry-there, entry-behind, entry-33}
use Rattle.gsd_reader.proofs.Fitting.{fitting}
use Rattle.gsd_reader.proofs.found.entry_by.Goals as goal

pub returns-in_err-here : goal.returns-in_err-here
returns-in_err-here c =
    let p = err_from_is_err_and c.from_residual.result c.from_residual.ensures.1 in
    rw (p.1, p.2) (ap (λ w. Err (refusal_number w)) c.in_err-here.ensures.0 ∙ sym (entry-33 _ _ c.in_err-here.ensures.1 _))

pub returns-then-here-n : goal.returns-then-here-n
returns-then-here-n c =
    let said = c.in_ok-here.ensures in
    sym (entry-behind _ _ c.in_ok-here.here.fits _ c.if-here-n.true) ∙ (λ i. entry_by (said.0 i) (said.1 i) c.args.n)

pub overflow_mul-n : goal.overflow_mul-n
overflow_mul-n c =
    let f = fitting _ _ c.in_ok-here.here.fits in omega (arith, f.slots, f.short, c.if-here-n.false)

pub overflow_add-here : goal.overflow_add-here
overflow_add-here c =
    let f = fitting _ _ c.in_ok-here.here.fits in omega (arith, f.slots, f.short, c.if-here-n.false)

pub entry_at-requires : goal.entry_at-requires
entry_at-requires c =
    let f = fitting _ _ c.in_ok-here.here.fits in omega (arith, f.slots, c.if-here-n.false)

pub returns : goal.returns
returns c =
    let said = c.in_ok-here.ensures in
    ap Ok c.entry_at.ensures ∙ sym (entry-there _ _ c.in_ok-here.here.fits _ (omega (arith, c.if-here-n.false)))
    ∙ (λ i. entry_by (said.0 i) (said.1 i) c.args.n)
