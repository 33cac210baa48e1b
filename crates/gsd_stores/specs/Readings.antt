-- No undefined readings: an accepted sheet holds no NaN, when exactly an append is refused with 30, and what follows for the
-- record. Claims about any image and any sheet, and about any run; proved in proofs/.
use Rattle.std.specs.Prelude.{ℕ, ◌*◌, ◌≤◌, ◌<◌, ◌≡◌, List, get_or, length, Ok}
use Rattle.gsd_format.specs.declared.Entry.{Entry}
use Rattle.gsd_format.specs.Refusals.{◌▹◌}
use Rattle.gsd_format.specs.Entries.{frames_of}
use Rattle.gsd_format.specs.Opening.{verdict}
use Rattle.gsd_format.specs.Lookup.{lookup}
use Rattle.gsd_format.specs.Elements.{NanAt}
use Rattle.gsd_stores.specs.Sheet.{rows_of, form_test}
use Rattle.gsd_stores.specs.View.{view_of}
use Rattle.gsd_stores.specs.Append.{image_test, append_test}
use Rattle.gsd_stores.specs.Demand3.{no_row}

-- one of the elements of one of the sheet's rows, floats or doubles, is a NaN
pub record Undefined (s : List ℕ) : Type 0 where
  pub i : ℕ
  pub row : i < length (rows_of s)
  pub k : ℕ
  pub element : k < (get_or (rows_of s) i no_row).n * (get_or (rows_of s) i no_row).m
  pub nan : NanAt (get_or (rows_of s) i no_row).kind (get_or (rows_of s) i no_row).body 0 k

-- the image's numbers, 20, 21, 31 and 22 to 27
unfoldable pub earlier_test : List ℕ → List ℕ → ℕ
earlier_test img sheet =
    verdict img
    ▹ image_test (view_of img).layout (frames_of (view_of img).entries)
    ▹ form_test (view_of img).layout.version sheet

pub record Readings (img sheet : List ℕ) : Type 0 where
  -- an accepted sheet holds none
  pub defined : append_test img sheet ≡ 0 → Undefined sheet → ⊥
  -- 30 is given exactly where one does and none of the earlier numbers applies
  pub refused : Undefined sheet → earlier_test img sheet ≡ 0 → append_test img sheet ≡ 30
  pub holds : append_test img sheet ≡ 30 → Undefined sheet
  pub last : append_test img sheet ≡ 30 → earlier_test img sheet ≡ 0

-- from this frame on no element of a chunk that is found is one
abbrev pub Defined : List ℕ → ℕ → Type 0
Defined img first = (frame : ℕ) (name : List ℕ) (e : Entry) → first ≤ frame → lookup img frame name ≡ Ok e →
    (k : ℕ) → k < e.n * e.m → NanAt e.kind img e.location k → ⊥
