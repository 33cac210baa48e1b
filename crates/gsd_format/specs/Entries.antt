-- The entry list: 32-byte entries from the start of the index block, one to a slot.
-- It ends before the first entry with location 0, or at the last slot; bytes behind its end mean nothing.
use Rattle.std.specs.Prelude.{ℕ, zero, suc, ◌+◌, ◌*◌, max, List, [], ◌∷◌, true, false, get_or, eqb}
use Rattle.gsd_format.specs.declared.Entry.{Entry}
use Rattle.gsd_format.specs.Bytes.{le}
use Rattle.gsd_format.specs.Types.{chunk_size}
use Rattle.gsd_format.specs.Header.{slot_size, layout_of}

-- places in a slot, behind the frame
abbrev pub n_place : ℕ
n_place = 8

abbrev pub location_place : ℕ
location_place = 16

abbrev pub m_place : ℕ
m_place = 24

abbrev pub id_place : ℕ
id_place = 28

abbrev pub kind_place : ℕ
kind_place = 30

abbrev pub flags_place : ℕ
flags_place = 31

unfoldable pub entry_at : List ℕ → ℕ → Entry
entry_at img at = record {
  frame = le 8 img at;
  n = le 8 img (at + n_place);
  location = le 8 img (at + location_place);
  m = le 4 img (at + m_place);
  id = le 2 img (at + id_place);
  kind = get_or img (at + kind_place) 0;
  flags = get_or img (at + flags_place) 0;
}

-- the listed entries among the n slots from at
unfoldable pub entries_at : List ℕ → ℕ → ℕ → List Entry
entries_at img at zero = []
entries_at img at (suc n) = elim (eqb (le 8 img (at + location_place)) 0) [ true ↦ [] | false ↦ entry_at img at ∷ entries_at img (at + slot_size) n ]

-- the n slots from at as entries, whatever they hold
unfoldable pub slots_at : List ℕ → ℕ → ℕ → List Entry
slots_at img at zero = []
slots_at img at (suc n) = entry_at img at ∷ slots_at img (at + slot_size) n

unfoldable pub entries_of : List ℕ → List Entry
entries_of img = entries_at img (layout_of img).index (layout_of img).slots

-- an id has 16 bits: it is below this
abbrev pub id_range : ℕ
id_range = 65536

-- (frame, id) in its order, as one number
abbrev pub key_of : ℕ → ℕ → ℕ
key_of frame id = id_range * frame + id

abbrev pub key : Entry → ℕ
key e = key_of e.frame e.id

-- the last entry's frame plus 1, or top with no entries
unfoldable pub frames_from : ℕ → List Entry → ℕ
frames_from top [] = top
frames_from top (e ∷ es) = frames_from (e.frame + 1) es

-- the number of frames
abbrev pub frames_of : List Entry → ℕ
frames_of es = frames_from 0 es

-- where the last of the chunks ends, or 0 with no entries
unfoldable pub chunks_end : List Entry → ℕ
chunks_end [] = 0
chunks_end (e ∷ es) = max (e.location + chunk_size e) (chunks_end es)
