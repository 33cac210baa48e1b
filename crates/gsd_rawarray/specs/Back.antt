-- What comes back: any file that is read makes a sheet of one row that images of every version take, what follows its data is ignored,
-- and what was written is read with its N, M, type and bytes.
use Rattle.std.specs.Prelude.{ℕ, ◌+◌, ◌≡◌, List, [], ◌∷◌, ◌++◌, true, false, not, length, eqb, Ok}
use Rattle.gsd_format.specs.declared.Entry.{Entry}
use Rattle.gsd_format.specs.Refusals.{◌⇒◌, ◌▹◌}
use Rattle.gsd_format.specs.Types.{chunk_size}
use Rattle.gsd_format.specs.Lookup.{lookup, chunk_of}
use Rattle.gsd_stores.specs.Sheet.{rows_of, form_test}
use Rattle.gsd_rawarray.specs.Requests.{bad_name, raw_sheet, read_test, read_sheet}

-- this sheet has one row, and passes 22 to 27 whatever the image's version is
pub record OneRow (sheet label : List ℕ) (rows columns type : ℕ) (bytes : List ℕ) : Type 0 where
  pub row : rows_of sheet ≡ record { name = label; n = rows; m = columns; kind = type; body = bytes } ∷ []
  pub form : (version : ℕ) → form_test version sheet ≡ 0

-- what stands behind a file's data changes nothing
pub record Ignored (f more : List ℕ) : Type 0 where
  pub same_number : (label : List ℕ) (room : ℕ) → read_test (f ++ more) label room ≡ read_test f label room
  pub same_sheet : (label : List ℕ) → raw_sheet (f ++ more) label ≡ raw_sheet f label

-- the type that comes back: a character becomes u8
unfoldable pub plain : ℕ → ℕ
plain kind = elim (eqb kind 11) [ true ↦ 1 | false ↦ kind ]

-- this file is the chunk of a frame and a name
pub record Returns (img : List ℕ) (frame : ℕ) (name file : List ℕ) : Type 0 where
  pub entry : Entry
  pub found : lookup img frame name ≡ Ok entry
  -- it is refused for nothing but the name and the slice that it is read with
  pub number : (label : List ℕ) (room : ℕ) →
      read_test file label room ≡ (bad_name label ⇒ 78) ▹ (not (eqb room (20 + length label + chunk_size entry)) ⇒ 79)
  -- and has the chunk's N, M, type and bytes
  pub back : (label sheet : List ℕ) → read_test file label (length sheet) ≡ 0 →
      OneRow (read_sheet file label sheet) label entry.n entry.m (plain entry.kind) (chunk_of img entry)
