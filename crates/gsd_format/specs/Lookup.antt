-- What is found in an image that opens: the n-th name and entry (44), the entry of a frame and a name (40 to 42), and
-- the bytes of its chunk. Every call opens first and passes on the number.
use Rattle.std.specs.Prelude.{ℕ, zero, suc, List, [], ◌∷◌, true, false, ◌&&◌, get_or, length, ltb, eqb, Result, Ok, Err}
use Rattle.gsd_format.specs.declared.Entry.{Entry}
use Rattle.gsd_format.specs.declared.Part.{Part}
use Rattle.gsd_format.specs.Types.{chunk_size}
use Rattle.gsd_format.specs.Names.{name_parts, names_of, bytes_of, index_of}
use Rattle.gsd_format.specs.Entries.{entries_of, frames_of}
use Rattle.gsd_format.specs.Opening.{verdict}

-- what stands behind the end of a list of entries or of parts, where no definition looks
abbrev pub none : Entry
none = record { frame = 0; n = 0; location = 0; m = 0; id = 0; kind = 0; flags = 0 }

abbrev pub nowhere : Part
nowhere = record { start = 0; size = 0 }

unfoldable pub nth_entry : List ℕ → ℕ → Result Entry ℕ
nth_entry img i = elim (verdict img) [
  | zero ↦ elim (ltb i (length (entries_of img))) [ true ↦ Ok (get_or (entries_of img) i none) | false ↦ Err 44 ]
  | suc k ↦ Err (suc k)
]

unfoldable pub nth_name : List ℕ → ℕ → Result Part ℕ
nth_name img i = elim (verdict img) [
  | zero ↦ elim (ltb i (length (name_parts img))) [ true ↦ Ok (get_or (name_parts img) i nowhere) | false ↦ Err 44 ]
  | suc k ↦ Err (suc k)
]

-- the entry with this frame and id
unfoldable pub find_entry : ℕ → ℕ → List Entry → Result Entry ℕ
find_entry frame id [] = Err 42
find_entry frame id (e ∷ es) = elim (eqb e.frame frame && eqb e.id id) [ true ↦ Ok e | false ↦ find_entry frame id es ]

-- 40, 41, 42 over the listed entries and names; any bytes may be asked as a name
unfoldable pub lookup_in : List Entry → List (List ℕ) → ℕ → List ℕ → Result Entry ℕ
lookup_in es ns frame name = elim (ltb frame (frames_of es)) [
  | true ↦ elim (ltb (index_of name ns) (length ns)) [ true ↦ find_entry frame (index_of name ns) es | false ↦ Err 41 ]
  | false ↦ Err 40
]

unfoldable pub lookup : List ℕ → ℕ → List ℕ → Result Entry ℕ
lookup img frame name = elim (verdict img) [ zero ↦ lookup_in (entries_of img) (names_of img) frame name | suc k ↦ Err (suc k) ]

-- where an entry's chunk lies, and its bytes: the N times M times size bytes at its location
abbrev pub chunk_part : Entry → Part
chunk_part e = record { start = e.location; size = chunk_size e }

abbrev pub chunk_of : List ℕ → Entry → List ℕ
chunk_of img e = bytes_of img (chunk_part e)

unfoldable pub placed : Result Entry ℕ → Result Part ℕ
placed (Ok e) = Ok (chunk_part e)
placed (Err n) = Err n

-- the place of a chunk, with the lookup's numbers
unfoldable pub chunk_place : List ℕ → ℕ → List ℕ → Result Part ℕ
chunk_place img frame name = placed (lookup img frame name)

-- the part of the image at a place; a refusal gives an empty part
unfoldable pub bytes_at : List ℕ → Result Part ℕ → List ℕ
bytes_at img (Ok p) = bytes_of img p
bytes_at img (Err n) = []
