-- The place lies in the image; a refusal has no bytes.
use mathlib.Core.Path.{sym, ◌∙◌, ap}
use native.Mathlib.Omega.{arith}
use Rattle.gsd_format.specs.Answers.{numbered}
use Rattle.gsd_parts.proofs.Parts.{inside-at, bytes-at, bytes-none, lies_at, lies-anywhere}
use Rattle.gsd_parts.proofs.part_at.Goals as goal

pub overflow_add-p : goal.overflow_add-p
overflow_add-p c = omega (arith, inside-at _ _ _ (ap numbered c.in-Ok.is) c.requires)

pub stretch-requires : goal.stretch-requires
stretch-requires c =
    let inside = inside-at _ _ _ (ap numbered c.in-Ok.is) c.requires in
    record { ordered = omega arith; inside = omega (arith, inside) }

pub returns-in-Ok : goal.returns-in-Ok
returns-in-Ok c =
    let at = ap numbered c.in-Ok.is in
    record { result_value = c.stretch.ensures.result_value ∙ sym (bytes-at _ _ _ at); itself = lies_at _ _ _ _ at (c.stretch.ensures.base, c.stretch.ensures.offset) }

pub returns-in-Err : goal.returns-in-Err
returns-in-Err c =
    let no = ap numbered c.in-Err.is in
    record { result_value = sym (bytes-none _ _ _ no); itself = lies-anywhere _ _ _ _ no }
