-- The words of a reader, and the arrays that are set at every call: the entries that a lookup probes, 0 without a search; the stores that an append has done, the
-- whole and the listed entries that it copies, three zeros where it is refused; of a beginning the last two; and the state.
use Rattle.std.specs.Prelude.{ℕ, ◌≡◌, List, [], ◌∷◌, length, get_or}
use Rattle.gsd_format.specs.declared.Reader.{Reader}
use Rattle.gsd_format.specs.Calls.{probes_of}
use Rattle.gsd_stores.specs.Append.{Answer, append_test, stores_for, copied_entries, append_answer}
use Rattle.gsd_states.specs.States.{Began}
use Rattle.gsd_append.specs.Turns.{Turned, refused_state, turn_answer}

abbrev pub probes_out : List ℕ → ℕ → List ℕ → List ℕ
probes_out img frame name = length (probes_of img frame name) ∷ []

-- the reader in a caller's eight words, the last of which is spare
abbrev pub reader_in : List ℕ → Reader
reader_in words = record {
  frames = get_or words 0 0;
  names = get_or words 1 0;
  entries = get_or words 2 0;
  index = get_or words 3 0;
  namelist = get_or words 4 0;
  size = get_or words 5 0;
  version = get_or words 6 0;
}

abbrev pub append_out : List ℕ → List ℕ → ℕ → List ℕ
append_out img sheet limit =
    let answer : Answer = append_answer img sheet limit in
    answer.done ∷ answer.whole ∷ answer.copied ∷ []

abbrev pub begin_out : List ℕ → List ℕ → List ℕ
begin_out img sheet = length (stores_for img sheet) ∷ copied_entries img sheet ∷ []

-- the state that a beginning leaves in the caller's words
pub record BeginState (img sheet s : List ℕ) : Type 0 where
  pub refused : (append_test img sheet ≡ 0 → ⊥) → s ≡ refused_state.words
  pub accepted : append_test img sheet ≡ 0 → Began img sheet s

-- a turn of the state in the caller's words
abbrev pub turn_of : List ℕ → List ℕ → List ℕ → ℕ → Turned
turn_of s img sheet limit = turn_answer (record { words = s }) img sheet limit
