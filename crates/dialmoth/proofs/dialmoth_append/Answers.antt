-- `dialmoth::dialmoth_append` meets its contract: the four numbers of the library's answer.
use mathlib.Core.Path.{sym, ◌∙◌, ap}
use mathlib.Core.List.{[], ◌∷◌}
use Rattle.gsd_stores.specs.Append.{answered, append_answer}
use Rattle.dialmoth.proofs.dialmoth_append.Goals as goal

pub returns-in-Ok : goal.returns-in-Ok
unfolding append_answer
returns-in-Ok c =
    let said = ap answered (sym c.in-Ok.is) ∙ c.append.ensures.answer in
    record { number = ap (λ a. a.number) said; image = c.append.ensures.image; out = λ i. (said i).done ∷ (said i).whole ∷ (said i).copied ∷ [] }

pub returns-in-Err : goal.returns-in-Err
unfolding append_answer
returns-in-Err c =
    let said = ap answered (sym c.in-Err.is) ∙ c.append.ensures.answer in
    record {
      number = c.number.ensures ∙ ap (λ a. a.number) said;
      image = c.append.ensures.image;
      out = λ i. (said i).done ∷ (said i).whole ∷ (said i).copied ∷ [];
    }
