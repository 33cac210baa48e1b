-- A reader: an opened image is read by it without its tests. Any numbers may be offered as a reader of any image: 33 where the two
-- do not fit, and else every answer is one of these definitions. `Reads` says what a reader promises that opening gave.
use Rattle.std.specs.Prelude.{ℕ, zero, suc, ◌+◌, ◌*◌, ◌≤◌, ◌<◌, ◌≡◌, List, [], ◌∷◌, map, Bool, true, false, ◌&&◌, get_or, length, take, ltb, leb, eqb, Result, Ok, Err}
use Rattle.gsd_format.specs.declared.Entry.{Entry}
use Rattle.gsd_format.specs.declared.Part.{Part}
use Rattle.gsd_format.specs.declared.element.Number.{Number}
use Rattle.gsd_format.specs.declared.Reader.{Reader}
use Rattle.gsd_format.specs.Header.{supported, v10, greatest_length, slot_size, layout_of}
use Rattle.gsd_format.specs.Types.{known, chunk_size}
use Rattle.gsd_format.specs.Names.{names_of, bytes_of, list_size, list_parts, index_of}
use Rattle.gsd_format.specs.Entries.{entry_at, slots_at, entries_of, frames_of}
use Rattle.gsd_format.specs.Opening.{most_names, verdict}
use Rattle.gsd_format.specs.Lookup.{none, nowhere, nth_entry, nth_name, find_entry, lookup, chunk_part, chunk_of, chunk_place, bytes_at}
use Rattle.gsd_format.specs.Search.{halved, searched}
use Rattle.gsd_format.specs.Elements.{element_in, element}

-- the reader of an image
unfoldable pub reader_of : List ℕ → Reader
reader_of img = record {
  frames = frames_of (entries_of img);
  names = length (names_of img);
  entries = length (entries_of img);
  index = (layout_of img).index;
  namelist = (layout_of img).namelist;
  size = list_size (layout_of img).version (names_of img);
  version = (layout_of img).version;
}

-- opening gives it, with the opening's number
unfoldable pub reading : List ℕ → Result Reader ℕ
reading img = elim (verdict img) [ zero ↦ Ok (reader_of img) | suc k ↦ Err (suc k) ]

-- the slice is no longer than an image may be, the version is known, there are no more names than there may be, and the slots and
-- the list of names lie in the slice
unfoldable pub fits : Reader → List ℕ → Bool
fits r img =
    leb (length img) greatest_length
    && (supported r.version
    && (leb r.names most_names && (leb (r.index + slot_size * r.entries) (length img) && leb (r.namelist + r.size) (length img))))

-- the entries and the names that a reader shows in an image
abbrev pub entries_by : Reader → List ℕ → List Entry
entries_by r img = slots_at img r.index r.entries

abbrev pub parts_by : Reader → List ℕ → List Part
parts_by r img = take r.names (list_parts r.version img r.namelist r.size)

abbrev pub names_by : Reader → List ℕ → List (List ℕ)
names_by r img = map (bytes_of img) (parts_by r img)

-- the n-th entry and the n-th name
unfoldable pub entry_by : Reader → List ℕ → ℕ → Result Entry ℕ
entry_by r img n = elim (fits r img) [
  | true ↦ elim (ltb n r.entries) [ true ↦ Ok (entry_at img (r.index + slot_size * n)) | false ↦ Err 44 ]
  | false ↦ Err 33
]

unfoldable pub nth_part : List Part → ℕ → Result Part ℕ
nth_part ps n = elim (ltb n (length ps)) [ true ↦ Ok (get_or ps n nowhere) | false ↦ Err 44 ]

unfoldable pub name_by : Reader → List ℕ → ℕ → Result Part ℕ
name_by r img n = elim (fits r img) [ true ↦ nth_part (parts_by r img) n | false ↦ Err 33 ]

-- the id of a name
unfoldable pub ident_in : List (List ℕ) → List ℕ → Result ℕ ℕ
ident_in ns name = elim (ltb (index_of name ns) (length ns)) [ true ↦ Ok (index_of name ns) | false ↦ Err 41 ]

unfoldable pub id_by : Reader → List ℕ → List ℕ → Result ℕ ℕ
id_by r img name = elim (fits r img) [ true ↦ ident_in (names_by r img) name | false ↦ Err 33 ]

-- an answer for a frame and an id, each below a count
unfoldable pub counted : ℕ → ℕ → ℕ → ℕ → Result Entry ℕ → Result Entry ℕ
counted frames names frame id answer = elim (ltb frame frames) [
  | true ↦ elim (ltb id names) [ true ↦ answer | false ↦ Err 41 ]
  | false ↦ Err 40
]

-- The entry of a frame and an id. It is what the search finds, over slots that may be in any order: among listed entries that is
-- the one with this frame and id
unfoldable pub find_by : Reader → List ℕ → ℕ → ℕ → Result Entry ℕ
find_by r img frame id = elim (fits r img) [
  | true ↦ counted r.frames r.names frame id (searched r.version frame id (entries_by r img))
  | false ↦ Err 33
]

-- and of a frame and a name
unfoldable pub found_for : Reader → List ℕ → ℕ → Result ℕ ℕ → Result Entry ℕ
found_for r img frame (Ok id) = searched r.version frame id (entries_by r img)
found_for r img frame (Err n) = Err n

unfoldable pub lookup_by : Reader → List ℕ → ℕ → List ℕ → Result Entry ℕ
lookup_by r img frame name = elim (fits r img) [
  | true ↦ elim (ltb frame r.frames) [ true ↦ found_for r img frame (ident_in (names_by r img) name) | false ↦ Err 40 ]
  | false ↦ Err 33
]

-- The entry of an id in the newest frame at or below one. The search ends behind all in whose place one with this frame and id would
-- stand; the last entry with the id before that place is it
unfoldable pub place_behind : ℕ → ℕ → ℕ → List Entry → ℕ
place_behind version frame id es =
    elim (v10 version) [ true ↦ (halved version (frame + 1) 0 es).place | false ↦ (halved version frame (id + 1) es).place ]

unfoldable pub last_before : ℕ → List Entry → ℕ → Result Entry ℕ
last_before id es zero = Err 42
last_before id es (suc p) = elim (eqb (get_or es p none).id id) [ true ↦ Ok (get_or es p none) | false ↦ last_before id es p ]

unfoldable pub newest_by : Reader → List ℕ → ℕ → ℕ → Result Entry ℕ
newest_by r img frame id = elim (fits r img) [
  | true ↦ counted r.frames r.names frame id (last_before id (entries_by r img) (place_behind r.version frame id (entries_by r img)))
  | false ↦ Err 33
]

-- the entry's type is known and its chunk lies in the image
unfoldable pub holds : Reader → List ℕ → Entry → Bool
holds r img e = known r.version e.kind && leb (e.location + chunk_size e) (length img)

-- the place of a chunk, and an element of it: the lookup's numbers, then 33
unfoldable pub chunk_for : Reader → List ℕ → Result Entry ℕ → Result Part ℕ
chunk_for r img (Ok e) = elim (holds r img e) [ true ↦ Ok (chunk_part e) | false ↦ Err 33 ]
chunk_for r img (Err n) = Err n

abbrev pub chunk_place_by : Reader → List ℕ → ℕ → List ℕ → Result Part ℕ
chunk_place_by r img frame name = chunk_for r img (lookup_by r img frame name)

unfoldable pub element_for : Reader → List ℕ → Result Entry ℕ → ℕ → Result Number ℕ
element_for r img (Ok e) k = elim (holds r img e) [ true ↦ element_in img e k | false ↦ Err 33 ]
element_for r img (Err n) k = Err n

abbrev pub element_by : Reader → List ℕ → ℕ → List ℕ → ℕ → Result Number ℕ
element_by r img frame name k = element_for r img (lookup_by r img frame name) k

-- What a reader promises. The last of the entries with an id whose frame is at or below one
unfoldable pub or_entry : Result Entry ℕ → Bool → Entry → Result Entry ℕ
or_entry (Ok later) is e = Ok later
or_entry (Err n) true e = Ok e
or_entry (Err n) false e = Err n

unfoldable pub newest_entry : ℕ → ℕ → List Entry → Result Entry ℕ
newest_entry frame id [] = Err 42
newest_entry frame id (e ∷ es) = or_entry (newest_entry frame id es) (leb e.frame frame && eqb e.id id) e

-- the reader r answers on y exactly as the calls do on m; what it finds by an id is what m lists; and the chunk of each listed entry
-- lies in y and has its bytes
pub record Reads (r : Reader) (y m : List ℕ) : Type 0 where
  pub entry : (n : ℕ) → entry_by r y n ≡ nth_entry m n
  pub inside : (n : ℕ) → n < length (entries_of m) → (get_or (entries_of m) n none).location + chunk_size (get_or (entries_of m) n none) ≤ length y
  pub entry_bytes : (n : ℕ) → n < length (entries_of m) → chunk_of y (get_or (entries_of m) n none) ≡ chunk_of m (get_or (entries_of m) n none)
  pub name : (n : ℕ) → name_by r y n ≡ nth_name m n
  pub name_bytes : (n : ℕ) → bytes_at y (nth_name m n) ≡ bytes_at m (nth_name m n)
  pub ident : (name : List ℕ) → id_by r y name ≡ ident_in (names_of m) name
  pub find : (frame id : ℕ) → find_by r y frame id ≡ counted (frames_of (entries_of m)) (length (names_of m)) frame id (find_entry frame id (entries_of m))
  pub newest : (frame id : ℕ) →
      newest_by r y frame id ≡ counted (frames_of (entries_of m)) (length (names_of m)) frame id (newest_entry frame id (entries_of m))
  pub look : (frame : ℕ) (name : List ℕ) → lookup_by r y frame name ≡ lookup m frame name
  pub chunk : (frame : ℕ) (name : List ℕ) → chunk_place_by r y frame name ≡ chunk_place m frame name
  pub chunk_bytes : (frame : ℕ) (name : List ℕ) → bytes_at y (chunk_place m frame name) ≡ bytes_at m (chunk_place m frame name)
  pub element : (frame : ℕ) (name : List ℕ) (k : ℕ) → element_by r y frame name k ≡ element m frame name k
