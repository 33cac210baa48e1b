-- Opening: the tests of numbers 1 to 18 in their order, and the counts answered where none applies.
use Rattle.std.specs.Prelude.{ℕ, zero, suc, ◌+◌, ◌*◌, ◌^◌, ◌≤◌, List, [], ◌∷◌, Bool, true, false, not, ◌&&◌, ◌||◌, get_or, length, take, ltb, leb, eqb, Result, Ok, Err}
use Rattle.gsd_format.specs.declared.Entry.{Entry}
use Rattle.gsd_format.specs.declared.Layout.{Layout}
use Rattle.gsd_format.specs.declared.Counts.{Counts}
use Rattle.gsd_format.specs.Bytes.{same, zero_in, meets, Apart}
use Rattle.gsd_format.specs.Refusals.{◌⇒◌, ◌▹◌}
use Rattle.gsd_format.specs.Types.{known, chunk_size}
use Rattle.gsd_format.specs.Header.{magic, supported, v10, header_size, least_length, greatest_length, version_of, layout_of}
use Rattle.gsd_format.specs.Header.{application_place, schema_place, text_size, slot_size, segment_size}
use Rattle.gsd_format.specs.Names.{names_of, flat, index_of}
use Rattle.gsd_format.specs.Entries.{entries_of, key, frames_of}

-- 1 to 5: the slice's length, the magic, the version, application and schema
unfoldable pub header_test : List ℕ → ℕ
header_test img =
    (ltb (length img) least_length ⇒ 1)
    ▹ (ltb greatest_length (length img) ⇒ 2)
    ▹ (not (same (take 8 img) magic) ⇒ 3)
    ▹ (not (supported (version_of img)) ⇒ 4)
    ▹ (not (zero_in img application_place text_size) || not (zero_in img schema_place text_size) ⇒ 5)

-- 6 to 8: each block lies between the header and the slice's end, and the two share no byte
unfoldable pub blocks_test : Layout → ℕ
blocks_test l =
    (ltb l.index header_size || ltb l.len (l.index + slot_size * l.slots) ⇒ 6)
    ▹ (ltb l.namelist header_size || ltb l.len (l.namelist + segment_size * l.segments) ⇒ 7)
    ▹ (meets l.index (slot_size * l.slots) l.namelist (segment_size * l.segments) ⇒ 8)

-- what these three say of blocks that none of them refuses
pub record Blocks (l : Layout) : Type 0 where
  pub index_low : header_size ≤ l.index
  pub index_high : l.index + slot_size * l.slots ≤ l.len
  pub namelist_low : header_size ≤ l.namelist
  pub namelist_high : l.namelist + segment_size * l.segments ≤ l.len
  pub apart : Apart l.index (slot_size * l.slots) l.namelist (segment_size * l.segments)

-- the greatest number of names
abbrev pub most_names : ℕ
most_names = 1024

-- 2.x: does the block go on with a name that has no zero byte before the block ends?
abbrev pub unclosed : List ℕ → Layout → List (List ℕ) → Bool
unclosed img l names = ltb (length (flat names)) (segment_size * l.segments) && not (eqb (get_or img (l.namelist + length (flat names)) 0) 0)

-- 1.0: has one of the listed segments, among the n from at, no zero byte?
unfoldable pub unclosed_from : List ℕ → ℕ → ℕ → Bool
unclosed_from img at zero = false
unclosed_from img at (suc n) = elim (eqb (get_or img at 0) 0) [
  | true ↦ false
  | false ↦ not (zero_in img at segment_size) || unclosed_from img (at + segment_size) n
]

-- is a name not closed?
unfoldable pub open_name : List ℕ → Layout → List (List ℕ) → Bool
open_name img l names = elim (v10 l.version) [ true ↦ unclosed_from img l.namelist l.segments | false ↦ unclosed img l names ]

-- are two of the names equal?
unfoldable pub twins : List (List ℕ) → Bool
twins [] = false
twins (n ∷ ns) = ltb (index_of n ns) (length ns) || twins ns

-- 9 to 11, each of the whole list
unfoldable pub names_test : List ℕ → Layout → List (List ℕ) → ℕ
names_test img l names = (open_name img l names ⇒ 9) ▹ (ltb most_names (length names) ⇒ 10) ▹ (twins names ⇒ 11)

-- a location from here on is negative: it is a signed number of 64 bits
abbrev pub negative : ℕ
negative = 2 ^ 63

-- the greatest number of a frame: so the count of frames fits 32 bits
abbrev pub greatest_frame : ℕ
greatest_frame = 4294967294

-- has one of the entries before it its frame and its id?
unfoldable pub repeated : List Entry → Entry → Bool
repeated [] e = false
repeated (b ∷ before) e = eqb b.frame e.frame && eqb b.id e.id || repeated before e

-- may the entry not stand behind those before it, the last of them first? In 2.x its key is above that of the last; in 1.0 its
-- frame is not below that of the last, and its frame and id are new
unfoldable pub misplaced : ℕ → List Entry → Entry → Bool
misplaced version [] e = false
misplaced version (b ∷ before) e = elim (v10 version) [
  | true ↦ ltb e.frame b.frame || repeated (b ∷ before) e
  | false ↦ leb (key e) (key b)
]

-- 12 to 18 for one entry, with so many names and these entries before it, the last of them first
unfoldable pub entry_test : Layout → ℕ → List Entry → Entry → ℕ
entry_test l names before e =
    (ltb e.location header_size || leb negative e.location ⇒ 12)
    ▹ (not (known l.version e.kind) ⇒ 13)
    ▹ (leb names e.id ⇒ 14)
    ▹ (misplaced l.version before e ⇒ 15)
    ▹ (ltb l.len (e.location + chunk_size e) ⇒ 16)
    ▹ (meets e.location (chunk_size e) l.index (slot_size * l.slots)
    || meets e.location (chunk_size e) l.namelist (segment_size * l.segments) ⇒ 17)
    ▹ (ltb greatest_frame e.frame ⇒ 18)

-- entry by entry: the first bad one decides
unfoldable pub entries_test : Layout → ℕ → List Entry → List Entry → ℕ
entries_test l names before [] = 0
entries_test l names before (e ∷ es) = entry_test l names before e ▹ entries_test l names (e ∷ before) es

-- the opening's number: the first test that applies
unfoldable pub verdict : List ℕ → ℕ
verdict img =
    header_test img
    ▹ blocks_test (layout_of img)
    ▹ names_test img (layout_of img) (names_of img)
    ▹ entries_test (layout_of img) (length (names_of img)) [] (entries_of img)

unfoldable pub counts_of : List ℕ → Counts
counts_of img = record { frames = frames_of (entries_of img); names = length (names_of img); entries = length (entries_of img) }

unfoldable pub opening : List ℕ → Result Counts ℕ
opening img = elim (verdict img) [ zero ↦ Ok (counts_of img) | suc k ↦ Err (suc k) ]
