-- Requests to write a RawArray file and to read one: their numbers, test by test in their order, and what the lent bytes are afterwards.
use Rattle.std.specs.Prelude.{ℕ, ◌+◌, ◌*◌, List, [], ◌∷◌, ◌++◌, Bool, not, ◌&&◌, ◌||◌, length, take, ltb, leb, eqb}
use Rattle.gsd_format.specs.Bytes.{le_bytes, same, zero_in}
use Rattle.gsd_format.specs.Refusals.{◌⇒◌, ◌▹◌, accepted}
use Rattle.gsd_format.specs.Calls.{lookup_test, found_entry}
use Rattle.gsd_rawarray.specs.File.{raw_magic, raw_file, raw_length}
use Rattle.gsd_rawarray.specs.Said.{flags, width, data_length, dimensions, data_start, raw_data, raw_n, raw_m, raw_kind}

-- Writing: the image's and the lookup's numbers, then a slice not exactly as long as the file
unfoldable pub write_test : List ℕ → ℕ → List ℕ → ℕ → ℕ
write_test img frame name room = lookup_test img frame name ▹ (not (eqb room (raw_length (found_entry img frame name))) ⇒ 77)

abbrev pub written_file : List ℕ → ℕ → List ℕ → List ℕ → List ℕ
written_file img frame name file = accepted (write_test img frame name (length file)) (raw_file img (found_entry img frame name)) file

-- Reading. One dimension or two, and all of them in the file
abbrev pub dimensioned : List ℕ → Bool
dimensioned f = (eqb (dimensions f) 1 || eqb (dimensions f) 2) && leb (data_start f) (length f)

-- data as long as the dimensions times the width, in whole numbers without wrap, and all of them in the file
abbrev pub filled : List ℕ → Bool
filled f = eqb (data_length f) (raw_n f * raw_m f * width f) && leb (data_start f + data_length f) (length f)

-- what a file is refused for
unfoldable pub raw_test : List ℕ → ℕ
raw_test f =
    (ltb (length f) 48 ⇒ 70)
    ▹ (not (same (take 8 f) raw_magic) ⇒ 71)
    ▹ (not (eqb (flags f) 0) ⇒ 72)
    ▹ (eqb (raw_kind f) 0 ⇒ 73)
    ▹ (not (dimensioned f) ⇒ 74)
    ▹ (not (filled f) ⇒ 75)
    ▹ (ltb 4294967295 (raw_m f) ⇒ 76)

-- a name that no sheet may have
abbrev pub bad_name : List ℕ → Bool
bad_name name = eqb (length name) 0 || ltb 255 (length name) || zero_in name 0 (length name)

-- the front of a sheet of one row: the count, and the table's row for a name of so many bytes
unfoldable pub raw_table : List ℕ → ℕ → List ℕ
raw_table f size = le_bytes 4 1 ++ le_bytes 8 (raw_n f) ++ le_bytes 4 (raw_m f) ++ (raw_kind f ∷ size ∷ 0 ∷ 0 ∷ [])

-- the sheet under a name, and its bytes
unfoldable pub raw_sheet : List ℕ → List ℕ → List ℕ
raw_sheet f name = raw_table f (length name) ++ name ++ raw_data f

abbrev pub sheet_length : List ℕ → List ℕ → ℕ
sheet_length f name = 20 + length name + data_length f

-- then the name, then a slice not exactly as long as the sheet
unfoldable pub read_test : List ℕ → List ℕ → ℕ → ℕ
read_test f name room = raw_test f ▹ (bad_name name ⇒ 78) ▹ (not (eqb room (sheet_length f name)) ⇒ 79)

abbrev pub read_sheet : List ℕ → List ℕ → List ℕ → List ℕ
read_sheet f name sheet = accepted (read_test f name (length sheet)) (raw_sheet f name) sheet
