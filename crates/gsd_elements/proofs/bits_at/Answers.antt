-- A read for each size; a size that is none of 1, 2 and 4 is 8.
use mathlib.Core.Path.{sym, ◌∙◌}
use native.Mathlib.Omega.{arith}
use borrow.Author.Rules.{rules}
use Rattle.gsd_format.proofs.Types.{size-eight}
use Rattle.gsd_elements.proofs.Elements.{bits_are, one_byte}
use Rattle.gsd_elements.proofs.bits_at.Goals as goal

pub returns-in-1 : goal.returns-in-1
returns-in-1 c =
    let said = bits_are _ _ _ 1 _ (sym c.size_of.ensures.answer ∙ c.in-1.is) (c.from.ensures ∙ one_byte _ _) (search rules) in
    record { answer = said.0; bound = said.1 }

pub u64_at-requires : goal.u64_at-requires
u64_at-requires c = omega (arith, c.requires.inside, size-eight _ _ c.size_of.ensures.answer c.requires.sized (omega arith) (omega arith) (omega arith))

pub returns-in_default : goal.returns-in_default
returns-in_default c =
    let eight = size-eight _ _ c.size_of.ensures.answer c.requires.sized (omega arith) (omega arith) (omega arith) in
    let said = bits_are _ _ _ 8 _ eight c.u64_at.ensures (search rules) in
    record { answer = said.0; bound = said.1 }
