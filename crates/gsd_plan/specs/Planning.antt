-- What the planner goes by, test by test, and what it answers.
use Rattle.std.specs.Prelude.{ℕ, ◌+◌, ◌*◌, ◌≤◌, ◌<◌, ◌≡◌, false, cond, List, [], ◌∷◌, ◌++◌, length, eqb}
use Rattle.gsd_format.specs.declared.Layout.{Layout}
use Rattle.gsd_format.specs.Header.{v10, greatest_length}
use Rattle.gsd_format.specs.Entries.{frames_of, chunks_end}
use Rattle.gsd_format.specs.Opening.{verdict}
use Rattle.gsd_stores.specs.View.{view_of, names_end, index_end, namelist_end}
use Rattle.gsd_stores.specs.Sheet.{rows_of, sheet_test}
use Rattle.gsd_stores.specs.Plan.{Plan, plan_of}
use Rattle.gsd_open.specs.declared.survey.Survey.{Survey}
use Rattle.gsd_sheet.specs.Columns.{plan_words}
use Rattle.gsd_sheet.specs.Rows.{Located}
use Rattle.gsd_ids.specs.declared.NewNames.{NewNames}
use Rattle.gsd_ids.specs.RowIds.{IdsFound}
use Rattle.gsd_places.specs.declared.Sites.{Sites}
use Rattle.gsd_matched.specs.Matches.{Matches}

-- what the append is to do
abbrev pub planned : List ℕ → List ℕ → Plan
planned x sheet = plan_of (view_of x) (rows_of sheet)

-- what is seen of an image that opens and may be appended to
pub record Sees (x : List ℕ) (s : Survey) : Type 0 where
  pub opens : verdict x ≡ 0
  pub recent : v10 s.layout.version ≡ false
  pub layout : s.layout ≡ (view_of x).layout
  pub entries : s.entries ≡ length (view_of x).entries
  pub frames : s.frames ≡ frames_of (view_of x).entries
  pub list_end : s.names.list_end ≡ names_end (view_of x)
  pub chunks : s.chunks_end ≡ chunks_end (view_of x).entries

-- an accepted sheet, where its rows lie, and the ids of their names
pub record Asked (x sheet p : List ℕ) (new : NewNames) : Type 0 where
  pub accepted : sheet_test (view_of x).layout.version sheet ≡ 0
  pub long : length p ≡ plan_words
  pub located : Located sheet p
  pub found : IdsFound (view_of x).names (rows_of sheet) p new

-- where a block lies after its move, if it has a new count
abbrev pub block_at : ℕ → ℕ → ℕ → ℕ
block_at count new old = cond (eqb count 0) old new

-- the numbers behind the columns, in their order
abbrev pub list_numbers : Layout → ℕ → ℕ → List ℕ
list_numbers l entries names_end =
    l.index ∷ (l.index + 32 * entries) ∷ index_end l ∷ l.namelist ∷ names_end ∷ namelist_end l ∷ []

abbrev pub numbers_of : Survey → Sites → ℕ → ℕ → List ℕ
numbers_of v s rows fresh =
    (rows ∷ fresh ∷ v.frames ∷ (block_at s.slots s.index_at v.layout.index + 32 * v.entries) ∷ [])
    ++ list_numbers v.layout v.entries v.names.list_end
    ++ (s.names_at ∷ s.segments ∷ s.index_at ∷ s.slots ∷ [])

-- small enough to be computed
pub record Countable (v : Survey) (s : Sites) : Type 0 where
  pub index : index_end v.layout ≤ greatest_length
  pub names : namelist_end v.layout ≤ greatest_length
  pub entries : v.entries ≤ v.layout.slots
  pub index_at : s.index_at < 1152921504606846976

-- refused with the number k, or planned
pub record Plans (x sheet : List ℕ) (k r : ℕ) (p : List ℕ) : Type 0 where
  pub number : r ≡ k
  pub plan : k ≡ 0 → Matches (view_of x) sheet (planned x sheet) p
