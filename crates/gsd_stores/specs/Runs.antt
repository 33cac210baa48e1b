-- A run of appends: calls one after the other, each on the slice as the call before left it, and nothing else writes it.
use Rattle.std.specs.Prelude.{ℕ, ◌≤◌, ◌<◌, min, List, [], ◌∷◌, Bool, true, false, ◌&&◌, get_or, length, take, eqb, leb}
use Rattle.gsd_format.specs.Entries.{entries_of, frames_of}
use Rattle.gsd_stores.specs.Sheet.{Row, rows_of}
use Rattle.gsd_stores.specs.Stores.{after}
use Rattle.gsd_stores.specs.Append.{append_test, stores_for, appended}

abbrev pub Bytes : List ℕ → Type 0
Bytes s = (i : ℕ) → get_or s i 0 < 256

-- any sheet of bytes and any limit
pub record Call : Type 0 where
  pub sheet : List ℕ
  pub bytes : Bytes sheet
  pub limit : ℕ

-- the image after a call, and after a run. A stop splits no store: a call stopped after k stores leaves what the same
-- call with limit k leaves, so the limit stands for the stop
abbrev pub after_call : List ℕ → Call → List ℕ
after_call x c = appended x c.sheet c.limit

unfoldable pub after_run : List ℕ → List Call → List ℕ
after_run x [] = x
after_run x (c ∷ cs) = after_run (after_call x c) cs

-- how many stores a call makes, and the image after k of them
abbrev pub stores_made : List ℕ → Call → ℕ
stores_made x c = min c.limit (length (stores_for x c.sheet))

abbrev pub after_stores : List ℕ → Call → ℕ → List ℕ
after_stores x c k = after x (take k (stores_for x c.sheet))

-- The moments of a run are its start and the points after each store: `Moment x cs m` says that m is the image at a
-- moment of the run cs from x
pub data Moment : List ℕ → List Call → List ℕ → Type 0 where
  start : {x : List ℕ} {cs : List Call} → Moment x cs x
  during : {x : List ℕ} {c : Call} {cs : List Call} (k : ℕ) → k ≤ stores_made x c → Moment x (c ∷ cs) (after_stores x c k)
  later : {x : List ℕ} {c : Call} {cs : List Call} {m : List ℕ} → Moment (after_call x c) cs m → Moment x (c ∷ cs) m

-- Two moments in their order: `Follows x cs m n` says that m is the image at a moment of the run cs from x, and n at the
-- same moment or a later one. The first is the start; or both lie in the first call; or the first does and the other lies
-- behind that call; or both lie behind it
pub data Follows : List ℕ → List Call → List ℕ → List ℕ → Type 0 where
  from_start : {x : List ℕ} {cs : List Call} {n : List ℕ} → Moment x cs n → Follows x cs x n
  in_call : {x : List ℕ} {c : Call} {cs : List Call} (k l : ℕ) → k ≤ l → l ≤ stores_made x c →
      Follows x (c ∷ cs) (after_stores x c k) (after_stores x c l)
  from_call : {x : List ℕ} {c : Call} {cs : List Call} {n : List ℕ} (k : ℕ) → k ≤ stores_made x c → Moment (after_call x c) cs n →
      Follows x (c ∷ cs) (after_stores x c k) n
  both_later : {x : List ℕ} {c : Call} {cs : List Call} {m n : List ℕ} → Follows (after_call x c) cs m n → Follows x (c ∷ cs) m n

-- `Begins x cs y c` says that the call c is one of the run cs from x, and y is the image as it begins
pub data Begins : List ℕ → List Call → List ℕ → Call → Type 0 where
  first : {x : List ℕ} {c : Call} {cs : List Call} → Begins x (c ∷ cs) x c
  next : {x : List ℕ} {b c : Call} {cs : List Call} {y : List ℕ} → Begins (after_call x b) cs y c → Begins x (b ∷ cs) y c

-- the number of frames
abbrev pub frames : List ℕ → ℕ
frames img = frames_of (entries_of img)

-- Last store made: the append is accepted and its limit is not below the number of its stores.
unfoldable pub last_store_made : List ℕ → Call → Bool
last_store_made x c = eqb (append_test x c.sheet) 0 && leb (length (stores_for x c.sheet)) c.limit

-- the rows of the calls whose last store was made, in order
unfoldable pub completed : List ℕ → List Call → List (List Row)
completed x [] = []
completed x (c ∷ cs) = elim (last_store_made x c) [ true ↦ rows_of c.sheet ∷ completed (after_call x c) cs | false ↦ completed (after_call x c) cs ]
