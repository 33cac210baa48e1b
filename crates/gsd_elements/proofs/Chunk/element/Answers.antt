-- The chunk lies in the slice, so neither N times M nor an element's place wraps.
use Rattle.std.specs.Prelude.{Ok}
use mathlib.Core.Path.{sym, ◌∙◌, ap}
use Rattle.gsd_format.proofs.Types.{size-kind}
use Rattle.gsd_format.proofs.Elements.{element-behind}
use Rattle.gsd_elements.proofs.Elements.{element-here}
use Rattle.gsd_elements.proofs.Chunk.element.Goals as goal

pub returns-then-e-k : goal.returns-then-e-k
returns-then-e-k c =
    let said = sym (element-behind _ _ _ c.if-e-k.true) in
    record { answer = said }

pub element_of-requires : goal.element_of-requires
element_of-requires c =
    let kind = size-kind _ c.args.self.now.held.sized in
    record { low = kind.0; high = kind.1; bits = c.bits_at.ensures.bound }

pub returns : goal.returns
returns c =
    let held = c.args.self.now.held in
    let said = ap Ok c.element_of.ensures.answer ∙ element-here _ _ held _ _ _ c.if-e-k.false c.size_of.ensures.answer c.bits_at.ensures.answer in
    record { answer = said }
