-- Demand 3: what a run of appends keeps, and when a frame is there. One claim about the whole run, from any image that
-- opens; proved in proofs/.
use Rattle.std.specs.Prelude.{ℕ, ◌+◌, ◌*◌, ◌≤◌, ◌<◌, ◌≡◌, ◌⊎◌, true, List, [], get_or, length, Ok}
use Rattle.gsd_format.specs.declared.Entry.{Entry}
use Rattle.gsd_format.specs.Bytes.{part}
use Rattle.gsd_format.specs.Header.{slot_size, layout_of}
use Rattle.gsd_format.specs.Entries.{entries_of}
use Rattle.gsd_format.specs.Opening.{verdict}
use Rattle.gsd_format.specs.Lookup.{lookup, chunk_of}
use Rattle.gsd_format.specs.Answers.{number_of}
use Rattle.gsd_stores.specs.Sheet.{Row}
use Rattle.gsd_stores.specs.Append.{stores_for}
use Rattle.gsd_stores.specs.Runs.{Call, Moment, Follows, Begins, after_call, after_run, after_stores, frames, last_store_made, completed}

-- None found there: the lookup gives 41 or 42.
abbrev pub Absent : List ℕ → ℕ → List ℕ → Type 0
Absent img frame name = (number_of (lookup img frame name) ≡ 41) ⊎ (number_of (lookup img frame name) ≡ 42)

-- a row that no sheet has
abbrev pub no_row : Row
no_row = record { name = []; n = 0; m = 0; kind = 0; body = [] }

-- the row's name is found in the frame, with the row's N, M and type and the row's data as its bytes
pub record Recorded (img : List ℕ) (frame : ℕ) (r : Row) : Type 0 where
  pub entry : Entry
  pub found : lookup img frame r.name ≡ Ok entry
  pub same_n : entry.n ≡ r.n
  pub same_m : entry.m ≡ r.m
  pub same_type : entry.kind ≡ r.kind
  pub same_bytes : chunk_of img entry ≡ r.body

-- Complete and exactly as requested: each row's name is found in that frame, with the row's N, M and type and the
-- row's data as its bytes; any other name finds none.
pub record Complete (img : List ℕ) (frame : ℕ) (rows : List Row) : Type 0 where
  pub each : (i : ℕ) → i < length rows → Recorded img frame (get_or rows i no_row)
  pub others : (name : List ℕ) → ((i : ℕ) → i < length rows → (get_or rows i no_row).name ≡ name → ⊥) → Absent img frame name

pub record Demand3 (x : List ℕ) (cs : List Call) : Type 0 where
  -- the image opens: after the run, and at each of its moments
  pub opens : verdict (after_run x cs) ≡ 0
  pub always : {m : List ℕ} → Moment x cs m → verdict m ≡ 0
  -- From a moment to any later one, the run's end among them (`end-follows` in proofs/Runs.antt):
  -- everything ever found is found unchanged: the same entry, and the same bytes of its chunk
  pub kept : {m n : List ℕ} → Follows x cs m n → (frame : ℕ) (name : List ℕ) (e : Entry) →
      lookup m frame name ≡ Ok e → lookup n frame name ≡ Ok e
  pub chunk : {m n : List ℕ} → Follows x cs m n → (frame : ℕ) (name : List ℕ) (e : Entry) →
      lookup m frame name ≡ Ok e → chunk_of n e ≡ chunk_of m e
  -- the same entry is the same in all 32 bytes
  pub bytes : {m n : List ℕ} → Follows x cs m n → (i : ℕ) → i < length (entries_of m) →
      part n ((layout_of n).index + slot_size * i) slot_size ≡ part m ((layout_of m).index + slot_size * i) slot_size
  -- older frame: any number below the number of frames at that moment. Nothing appears there; a new name may turn 41 into
  -- 42, and nothing turns 42 into 41
  pub absent : {m n : List ℕ} → Follows x cs m n → (frame : ℕ) (name : List ℕ) → frame < frames m → Absent m frame name → Absent n frame name
  pub named : {m n : List ℕ} → Follows x cs m n → (frame : ℕ) (name : List ℕ) →
      number_of (lookup m frame name) ≡ 42 → number_of (lookup n frame name) ≡ 42
  -- the number of frames never falls; within an append it is that of the beginning until the last store
  pub grows : {m n : List ℕ} → Follows x cs m n → frames m ≤ frames n
  pub steady : {y : List ℕ} {c : Call} → Begins x cs y c → (k : ℕ) → k < length (stores_for y c.sheet) → frames (after_stores y c k) ≡ frames y
  -- the i-th append whose last store was made, from 0, has the frame numbered i plus the number of frames at the start. At
  -- every moment at which it is there it is complete
  pub counted : frames (after_run x cs) ≡ frames x + length (completed x cs)
  pub complete : {n : List ℕ} → Moment x cs n → (i : ℕ) → frames x + i < frames n → Complete n (frames x + i) (get_or (completed x cs) i [])
  -- new frame of an append: the number of frames as it begins; it is there when the number of frames is greater.
  -- It is there if and only if the append's last store was made
  pub there_if : {y : List ℕ} {c : Call} → Begins x cs y c → last_store_made y c ≡ true → frames y < frames (after_call y c)
  pub there_only_if : {y : List ℕ} {c : Call} → Begins x cs y c → frames y < frames (after_call y c) → last_store_made y c ≡ true
