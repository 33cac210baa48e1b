-- The out array after a call: the answer's values where its number is 0, and what it held before where the call is refused.
use Rattle.std.specs.Prelude.{ℕ, zero, suc, List, [], ◌∷◌, Result}
use Rattle.gsd_format.specs.declared.Part.{Part}
use Rattle.gsd_format.specs.declared.Reader.{Reader}
use Rattle.gsd_format.specs.declared.Counts.{Counts}
use Rattle.gsd_format.specs.declared.Entry.{Entry}
use Rattle.gsd_format.specs.declared.element.Number.{Number}
use Rattle.gsd_format.specs.Answers.{number_of, values_of, counts_values, entry_values, part_values, number_values, reader_words}

unfoldable pub answered : ℕ → List ℕ → List ℕ → List ℕ
answered zero values before = values
answered (suc n) values before = before

-- by the values of an answer's kind
abbrev pub answer_out : {A : Type 0} → (A → List ℕ) → Result A ℕ → List ℕ → List ℕ
answer_out values a = answered (number_of a) (values_of values a)

abbrev pub opening_out : Result Counts ℕ → List ℕ → List ℕ
opening_out = answer_out counts_values

abbrev pub listed_out : Result Entry ℕ → List ℕ → List ℕ
listed_out = answer_out entry_values

abbrev pub place_out : Result Part ℕ → List ℕ → List ℕ
place_out = answer_out part_values

abbrev pub element_out : Result Number ℕ → List ℕ → List ℕ
element_out = answer_out number_values

abbrev pub reading_out : Result Reader ℕ → List ℕ → List ℕ
reading_out = answer_out reader_words

abbrev pub ident_out : Result ℕ ℕ → List ℕ → List ℕ
ident_out = answer_out (λ i. i ∷ [])
