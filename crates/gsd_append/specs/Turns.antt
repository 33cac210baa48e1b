-- An append in turns: what a beginning answers, and what a turn answers and leaves, for any state, image, sheet and limit.
use Rattle.std.specs.Prelude.{ℕ, ◌+◌, min, ◌≡◌, true, false, List, length, take, Result, Ok, Err}
use Rattle.gsd_format.specs.declared.refusal.Refusal.{Refusal}
use Rattle.gsd_format.specs.Answers.{refusal_number}
use Rattle.gsd_format.specs.Bytes.{zeros}
use Rattle.gsd_stores.specs.Append.{append_test, stores_for, copied_entries}
use Rattle.gsd_extents.specs.Exec.{exec}
use Rattle.gsd_states.specs.States.{state_words, plan_in, done_in, state_of, fits, left, Began}
use Rattle.gsd_append.specs.declared.state.State.{State}
use Rattle.gsd_append.specs.declared.state.Begun.{Begun}

unfoldable pub refused_state : State
refused_state = record { words = zeros state_words }

-- what a beginning answers: its number, how many stores and copied entries the whole append has, and the state for its turns
pub record Beginning : Type 0 where
  pub number : ℕ
  pub whole : ℕ
  pub copied : ℕ
  pub state : State

-- what the code answers: a refused beginning counts nothing, and its state is the refused one
abbrev pub beginning : Result Begun Refusal → Beginning
beginning (Ok b) = record { number = 0; whole = b.whole; copied = b.copied; state = b.state }
beginning (Err r) = record { number = refusal_number r; whole = 0; copied = 0; state = refused_state }

-- It is the append's number, and the counts are the whole append's, 0 where it is refused
pub record Begins (x sheet : List ℕ) (b : Beginning) : Type 0 where
  pub number : b.number ≡ append_test x sheet
  pub whole : b.whole ≡ length (stores_for x sheet)
  pub copied : b.copied ≡ copied_entries x sheet
  pub refused : (b.number ≡ 0 → ⊥) → b.state ≡ refused_state
  pub accepted : b.number ≡ 0 → Began x sheet b.state.words

-- A turn makes as many of the tasks left as its limit lets it; none where it is refused
unfoldable pub turn_made : State → List ℕ → List ℕ → ℕ → ℕ
turn_made s x sheet limit = elim (fits s.words x sheet) [ true ↦ min limit (length (left s.words sheet)) | false ↦ 0 ]

unfoldable pub turn_image : State → List ℕ → List ℕ → ℕ → List ℕ
turn_image s x sheet limit = exec sheet x (take (turn_made s x sheet limit) (left s.words sheet))

-- the state then expects what its stores have left
abbrev pub moved_on : State → List ℕ → List ℕ → ℕ → State
moved_on s x sheet limit = record {
  words = state_of (plan_in s.words) (turn_image s x sheet limit) sheet (done_in s.words + turn_made s x sheet limit);
}

-- what a turn answers: its number, 0 or 32, how many stores it made, and the state for the next
pub record Turned : Type 0 where
  pub number : ℕ
  pub made : ℕ
  pub state : State

-- what the code answers, with the state afterwards
abbrev pub turned : Result ℕ Refusal → State → Turned
turned (Ok made) s = record { number = 0; made = made; state = s }
turned (Err r) s = record { number = refusal_number r; made = 0; state = s }

unfoldable pub turn_answer : State → List ℕ → List ℕ → ℕ → Turned
turn_answer s x sheet limit =
    elim (fits s.words x sheet)
    [ true ↦ record { number = 0; made = turn_made s x sheet limit; state = moved_on s x sheet limit } | false ↦ record { number = 32; made = 0; state = s } ]
