-- What moving the index costs: the listed entries that step 5 copies, added up over a run of whole appends, and what bounds the
-- sum. Claims about any append and any run from an image that opens; proved in proofs/.
use Rattle.std.specs.Prelude.{ℕ, ◌+◌, ◌*◌, ◌≤◌, ◌<◌, ◌≡◌, List, [], ◌∷◌, ◌++◌, length, take}
use Rattle.gsd_format.specs.Bytes.{part}
use Rattle.gsd_format.specs.Header.{slot_size, layout_of}
use Rattle.gsd_format.specs.Entries.{entries_of}
use Rattle.gsd_stores.specs.Stores.{Store, after, words, up}
use Rattle.gsd_stores.specs.Steps.{slot_words}
use Rattle.gsd_stores.specs.Append.{stores_for, step_five, copied_entries}
use Rattle.gsd_stores.specs.Runs.{Call, Begins, after_call, after_run}

-- where the index lies after the whole append
abbrev pub index_after : List ℕ → List ℕ → ℕ
index_after x sheet = (layout_of (after x (stores_for x sheet))).index

-- Step 5 among the stores of an append
pub record StepFive (x sheet : List ℕ) : Type 0 where
  -- its stores are some of the append's, one behind the other
  pub before : List Store
  pub behind : List Store
  pub among : stores_for x sheet ≡ before ++ step_five x sheet ++ behind
  -- the first of them are the words of the entries that count as copied, byte for byte and in their order, to the new block's front
  pub copies : take (slot_words * copied_entries x sheet) (step_five x sheet)
      ≡ words (part x (layout_of x).index (slot_size * copied_entries x sheet)) (index_after x sheet) (up (index_after x sheet) (slot_words * copied_entries x sheet))
  -- these are all that are listed, or none where there is no step 5
  pub all : 0 < length (step_five x sheet) → copied_entries x sheet ≡ length (entries_of x)
  pub none : length (step_five x sheet) ≡ 0 → copied_entries x sheet ≡ 0

-- the sum over a run: of each call the entries that its append copies, on the image as the call begins
unfoldable pub copied_sum : List ℕ → List Call → ℕ
copied_sum x [] = 0
copied_sum x (c ∷ cs) = copied_entries x c.sheet + copied_sum (after_call x c) cs

-- whole appends: no call of the run stops before its last store. A refused one has no store
abbrev pub WholeRun : List ℕ → List Call → Type 0
WholeRun x cs = (y : List ℕ) (c : Call) → Begins x cs y c → length (stores_for y c.sheet) ≤ c.limit

-- the index moves in the run: some call of it has stores of step 5
pub record Moves (x : List ℕ) (cs : List Call) : Type 0 where
  pub image : List ℕ
  pub call : Call
  pub begins : Begins x cs image call
  pub stores : 0 < length (step_five image call.sheet)

abbrev pub slots_of : List ℕ → ℕ
slots_of x = (layout_of x).slots

pub record MovingCosts (x : List ℕ) (cs : List Call) : Type 0 where
  -- the sum is at most the final slots less the first slots
  pub slots : slots_of x + copied_sum x cs ≤ slots_of (after_run x cs)
  -- and, if the index has moved at all, fewer than twice the entries listed at the end
  pub entries : Moves x cs → copied_sum x cs < 2 * length (entries_of (after_run x cs))
  -- it has moved exactly if there are more slots
  pub more : Moves x cs → slots_of x < slots_of (after_run x cs)
  pub moved : slots_of x < slots_of (after_run x cs) → Moves x cs
