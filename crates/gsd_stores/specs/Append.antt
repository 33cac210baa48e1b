-- The append: numbers 20 to 31 after the opening's, and what it answers and leaves for any limit of stores.
use Rattle.std.specs.Prelude.{ℕ, zero, suc, ◌+◌, ◌*◌, ◌/◌, ◌%◌, min, List, [], not, ◌||◌, length, take, ltb, eqb, Result, Ok, Err}
use Rattle.gsd_format.specs.declared.Layout.{Layout}
use Rattle.gsd_format.specs.declared.refusal.Refusal.{Refusal}
use Rattle.gsd_format.specs.Answers.{refusal_number}
use Rattle.gsd_format.specs.Refusals.{◌⇒◌, ◌▹◌}
use Rattle.gsd_format.specs.Header.{v10}
use Rattle.gsd_format.specs.Entries.{entries_of, frames_of}
use Rattle.gsd_format.specs.Opening.{verdict, most_names, greatest_frame}
use Rattle.gsd_stores.specs.declared.Appended.{Appended}
use Rattle.gsd_stores.specs.Sheet.{sheet_test, rows_of}
use Rattle.gsd_stores.specs.Stores.{Store, word_size, after}
use Rattle.gsd_stores.specs.View.{view_of}
use Rattle.gsd_stores.specs.Plan.{plan_of, new_names, final_position}
use Rattle.gsd_stores.specs.Steps.{slot_words, move_index, store_list}

-- 20, 21 and 31: the append's tests of an image that opens, by its layout and how many frames it has
unfoldable pub image_test : Layout → ℕ → ℕ
image_test l frames =
    (v10 l.version ⇒ 20)
    ▹ (not (eqb (l.index % word_size) 0) || not (eqb (l.namelist % word_size) 0) ⇒ 21)
    ▹ (eqb frames (greatest_frame + 1) ⇒ 31)

-- 29: what is planned ends in the image
abbrev pub room_test : List ℕ → List ℕ → ℕ
room_test img sheet = ltb (view_of img).layout.len (final_position (plan_of (view_of img) (rows_of sheet))) ⇒ 29

-- 28 and 29: what the plan needs of the image
unfoldable pub plan_test : List ℕ → List ℕ → ℕ
plan_test img sheet =
    (ltb most_names (length (view_of img).names + length (new_names (view_of img).names (rows_of sheet))) ⇒ 28)
    ▹ room_test img sheet

unfoldable pub append_test : List ℕ → List ℕ → ℕ
append_test img sheet =
    verdict img
    ▹ image_test (view_of img).layout (frames_of (view_of img).entries)
    ▹ sheet_test (view_of img).layout.version sheet
    ▹ plan_test img sheet

-- the stores of an append; a refused one makes none
unfoldable pub stores_for : List ℕ → List ℕ → List Store
stores_for img sheet = elim (append_test img sheet) [ zero ↦ store_list img (rows_of sheet) | suc k ↦ [] ]

-- those of its step 5: none where the index stays
unfoldable pub step_five : List ℕ → List ℕ → List Store
step_five img sheet = elim (append_test img sheet) [ zero ↦ move_index img (view_of img) (plan_of (view_of img) (rows_of sheet)) | suc k ↦ [] ]

-- The listed entries that they copy: step 5 stores these first, upwards, an entry's words one after the other
unfoldable pub copied_entries : List ℕ → List ℕ → ℕ
copied_entries img sheet = length (take (slot_words * length (entries_of img)) (step_five img sheet)) / slot_words

-- what an append answers: its number, how many stores are done, how many the whole append takes and how many entries it copies
pub record Answer : Type 0 where
  pub number : ℕ
  pub done : ℕ
  pub whole : ℕ
  pub copied : ℕ

-- the first so many stores are done: the smaller of limit and whole; the other two are the whole append's at any limit
unfoldable pub append_answer : List ℕ → List ℕ → ℕ → Answer
append_answer img sheet limit = record {
  number = append_test img sheet;
  done = min limit (length (stores_for img sheet));
  whole = length (stores_for img sheet);
  copied = copied_entries img sheet;
}

-- what the code answers: a refused append has done nothing
abbrev pub answered : Result Appended Refusal → Answer
answered (Ok a) = record { number = 0; done = a.done; whole = a.whole; copied = a.copied }
answered (Err r) = record { number = refusal_number r; done = 0; whole = 0; copied = 0 }

unfoldable pub appended : List ℕ → List ℕ → ℕ → List ℕ
appended img sheet limit = after img (take (min limit (length (stores_for img sheet))) (stores_for img sheet))
