-- A turn makes the next stores of a plan, as many as its limit lets it, from a cursor on: an extent and a word of it. p is the
-- plan's words.
use Rattle.std.specs.Prelude.{ℕ, ◌+◌, ◌*◌, ◌≤◌, min, ◌≡◌, List, get_or, length, take, drop}
use Rattle.gsd_extents.specs.Exec.{Task, tasks, rest, exec}
use Rattle.gsd_extents.specs.Extents.{none}
use Rattle.gsd_steps.specs.Numbers.{rows_in}
use Rattle.gsd_steps.specs.Steps.{front_of, extents_of}
use Rattle.gsd_turns.specs.declared.turn.Cursor.{Cursor}
use Rattle.gsd_turns.specs.declared.turn.Turned.{Turned}

-- the tasks that are still to be done at a cursor
abbrev pub ahead : List ℕ → List ℕ → Cursor → List Task
ahead sheet p c = rest (drop c.extent (extents_of sheet p)) c.word

-- the cursor stands at an extent and within it, or behind all extents
pub record IsCursor (sheet p : List ℕ) (c : Cursor) : Type 0 where
  pub extent : c.extent ≤ length (extents_of sheet p)
  pub word : c.word ≤ (get_or (extents_of sheet p) c.extent none).words

-- k tasks are done, and those behind them are left at the cursor
pub record Stands (sheet p : List ℕ) (k : ℕ) (c : Cursor) : Type 0 where
  pub cursor : IsCursor sheet p c
  pub left : ahead sheet p c ≡ drop k (tasks (extents_of sheet p))

-- how many tasks a plan has, whatever the sheet: the words of steps 1 to 5, and four for each entry
abbrev pub whole_of : List ℕ → ℕ
whole_of p = 4 * rows_in p + length (tasks (front_of p))

-- the first k of all tasks are done, and those that are left are here
pub record Walked (sheet img₀ : List ℕ) (all : List Task) (k : ℕ) (img : List ℕ) (here : List Task) : Type 0 where
  pub image : img ≡ exec sheet img₀ (take k all)
  pub left : here ≡ drop k all
  pub within : k ≤ length all

-- a turn from the cursor c
pub record TurnSays (sheet img p : List ℕ) (c : Cursor) (limit : ℕ) (t : Turned) (img' : List ℕ) : Type 0 where
  pub walked : Walked sheet img (ahead sheet p c) t.made img' (ahead sheet p t.cursor)
  pub made : t.made ≡ min limit (length (ahead sheet p c))
  pub cursor : IsCursor sheet p t.cursor
