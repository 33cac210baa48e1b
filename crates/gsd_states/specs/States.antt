-- The state of an append in turns, as words: its plan, and behind that the marks by which a turn knows the image and the sheet
-- again, and how many stores are made.
use Rattle.std.specs.Prelude.{ℕ, ◌+◌, ◌≡◌, Bool, ◌&&◌, List, [], ◌∷◌, ◌++◌, get_or, length, take, drop, eqb}
use Rattle.gsd_format.specs.Bytes.{le}
use Rattle.gsd_format.specs.Header.{index_place, slots_place, namelist_place, segments_place, header_words}
use Rattle.gsd_stores.specs.View.{view_of}
use Rattle.gsd_stores.specs.Append.{stores_for, copied_entries}
use Rattle.gsd_stores.specs.Runs.{Bytes}
use Rattle.gsd_sheet.specs.Columns.{plan_words}
use Rattle.gsd_extents.specs.Exec.{Task, tasks}
use Rattle.gsd_steps.specs.Steps.{extents_of}
use Rattle.gsd_feasible.specs.Feasible.{feasible}
use Rattle.gsd_matched.specs.Matches.{Matches}
use Rattle.gsd_plan.specs.Planning.{planned}
use Rattle.gsd_states.specs.declared.Counts.{Counts}

abbrev pub state_words : ℕ
state_words = 406

-- the image x and the sheet, with k stores made
abbrev pub marks : List ℕ → List ℕ → ℕ → List ℕ
marks x sheet k = length x ∷ length sheet ∷ (header_words x ++ k ∷ [])

abbrev pub state_of : List ℕ → List ℕ → List ℕ → ℕ → List ℕ
state_of p x sheet k = p ++ marks x sheet k

-- the plan of a state, which may be any words, and its marks
unfoldable pub plan_in : List ℕ → List ℕ
plan_in s = take plan_words s

abbrev pub length_in : List ℕ → ℕ
length_in s = get_or s 399 0

abbrev pub sheet_in : List ℕ → ℕ
sheet_in s = get_or s 400 0

abbrev pub header_in : List ℕ → ℕ → ℕ
header_in s i = get_or s (401 + i) 0

abbrev pub done_in : List ℕ → ℕ
done_in s = get_or s 405 0

-- What a turn expects: the lengths and header words 8 to 32 of its marks
abbrev pub same_header : List ℕ → List ℕ → Bool
same_header s x =
    eqb (header_in s 0) (le 8 x index_place) && eqb (header_in s 1) (le 8 x slots_place)
    && eqb (header_in s 2) (le 8 x namelist_place) && eqb (header_in s 3) (le 8 x segments_place)

abbrev pub same_lengths : List ℕ → List ℕ → List ℕ → Bool
same_lengths s x sheet = eqb (length_in s) (length x) && eqb (sheet_in s) (length sheet)

unfoldable pub expects : List ℕ → List ℕ → List ℕ → Bool
expects s x sheet = same_lengths s x sheet && same_header s x

-- Is it a state to go on with? A refused beginning's has no rows, and words that no append gave count as one where their plan
-- cannot be carried out on such lengths
abbrev pub goes_on : List ℕ → Bool
goes_on s = feasible (length_in s) (sheet_in s) (plan_in s)

-- a turn is refused where this does not hold
unfoldable pub fits : List ℕ → List ℕ → List ℕ → Bool
fits s x sheet = goes_on s && expects s x sheet

-- the tasks that are left
abbrev pub left : List ℕ → List ℕ → List Task
left s sheet = drop (done_in s) (tasks (extents_of sheet (plan_in s)))

-- The state s of a beginning: a plan of the append with no store made. Words of a plan's columns that no row of the sheet and no new
-- name has are free
pub record Began (x sheet s : List ℕ) : Type 0 where
  pub image : Bytes x
  pub rows : Bytes sheet
  pub plan : List ℕ
  pub matches : Matches (view_of x) sheet (planned x sheet) plan
  pub words : s ≡ state_of plan x sheet 0

-- what a beginning counts that nothing refuses, and its state
pub record Counted (x sheet : List ℕ) (b : Counts) (s : List ℕ) : Type 0 where
  pub whole : b.whole ≡ length (stores_for x sheet)
  pub copied : b.copied ≡ copied_entries x sheet
  pub state : Began x sheet s
