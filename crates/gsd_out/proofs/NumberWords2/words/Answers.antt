-- The words of a number: its kind and its bits.
use borrow.Author.Rules.{rules}
use mathlib.Core.Path.{◌∙◌, ap}
use mathlib.Core.List.{[], ◌∷◌}
use Rattle.gsd_format.specs.Answers.{number_values}
use Rattle.gsd_out.proofs.Signed.{cast-bits}
use Rattle.gsd_out.proofs.NumberWords2.words.Goals as goal

pub returns-in-Unsigned : goal.returns-in-Unsigned
unfolding number_values
returns-in-Unsigned c = search rules

pub returns-in-Signed : goal.returns-in-Signed
unfolding number_values
returns-in-Signed c =
    let read = cast-bits c.in-Signed.number (record { sfits = c.in-Signed.known_told-in-Signed-1-own.given.0.1 }) in
    rw c.in-Signed.is (ap (λ b. 2 ∷ b ∷ []) (c.cast_unsigned.ensures ∙ read))

pub returns-in-Single : goal.returns-in-Single
unfolding number_values
returns-in-Single c = search rules

pub returns-in-Double : goal.returns-in-Double
unfolding number_values
returns-in-Double c = search rules
