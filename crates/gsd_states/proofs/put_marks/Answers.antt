-- `gsd_states::put_marks` meets its contract.
use mathlib.Core.Path.{◌∙◌, ap, refl}
use native.Mathlib.Omega.{arith}
use lib.ListN.{set, length-set}
use Rattle.gsd_format.specs.Bytes.{stored}
use Rattle.gsd_format.specs.Header.{header_words}
use Rattle.gsd_bytes.proofs.Methods.{stored-mid}
use Rattle.gsd_states.specs.States.{marks}
use Rattle.gsd_states.proofs.States.{marks-put}
use Rattle.gsd_states.proofs.put_marks.Goals as goal

pub returns : goal.returns
unfolding stored
returns c =
    let w = c.args.words.now in
    let x = c.args.image.now in
    ap (λ l. set l 405 c.args.done)
    (stored-mid _ (header_words x) _ 401 4 (c.copy_from_slice.ensures.after ∙ c.header_words.ensures) refl (simp length-set (omega (arith, c.told-words))))
    ∙ marks-put w (marks x c.args.sheet.now c.args.done) (omega (arith, c.told-words))
