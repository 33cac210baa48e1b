-- The stores of an append, step by step. Every word follows from the image at the beginning and the rows.
use Rattle.std.specs.Prelude.{ℕ, ◌+◌, ◌*◌, ◌-◌, ◌/◌, List, [], ◌∷◌, ◌++◌, Bool, true, false, cond, length}
use Rattle.gsd_format.specs.declared.Entry.{Entry}
use Rattle.gsd_format.specs.Bytes.{le_bytes, part}
use Rattle.gsd_format.specs.Header.{index_place, namelist_place, slot_size, aligned}
use Rattle.gsd_format.specs.Names.{flat}
use Rattle.gsd_stores.specs.Stores.{Store, word_size, words, up, down, slots_down}
use Rattle.gsd_stores.specs.View.{View, view_of, entries_end, names_end, namelist_end}
use Rattle.gsd_stores.specs.Sheet.{Row}
use Rattle.gsd_stores.specs.Plan.{Plan, plan_of, names_start, index_start}

-- the words of a slot, and of a segment
abbrev pub slot_words : ℕ
slot_words = 4

abbrev pub segment_words : ℕ
segment_words = 8

-- 1. Clear, upwards, every word of the index slots behind the list,
unfoldable pub clear_index : View → List Store
clear_index v = words [] 0 (up (entries_end v) (slot_words * (v.layout.slots - length v.entries)))

-- then every word of the name block from the one holding the list's end, keeping name bytes before it.
unfoldable pub clear_names : View → List Store
clear_names v =
    let first : ℕ = names_end v / word_size * word_size in
    words (flat v.names) v.layout.namelist (up first ((namelist_end v.layout - first) / word_size))

-- 2. Data, row by row, from the end of use, upwards, each row padded with zeros and at the next aligned place. Words
-- between them are not stored.
unfoldable pub store_texts : ℕ → List (List ℕ) → List Store
store_texts pos [] = []
store_texts pos (b ∷ bs) = words b (aligned pos) (up (aligned pos) (length b / word_size)) ++ store_texts (aligned pos + length b) bs

abbrev pub store_data : Plan → List Store
store_data p = store_texts p.start p.body

-- A block moves to b: all its n words upwards, the old text and then zeros; then its header word at h, then the next
-- one, with its new count.
unfoldable pub moved : Bool → ℕ → ℕ → List ℕ → ℕ → ℕ → List Store
moved false b n text h count = []
moved true b n text h count = words text b (up b n) ++ words (le_bytes 8 b) h (up h 1) ++ words (le_bytes 8 count) (h + word_size) (up (h + word_size) 1)

-- 3. If the new names don't fit: a new name block at the next aligned place.
unfoldable pub move_names : View → Plan → List Store
move_names v p = moved p.names_move (names_start p) (segment_words * p.segments) (flat v.names) namelist_place p.segments

-- 4. New names in row order, each from the highest word that holds one of its own bytes to the lowest. A word holds
-- the names before it and no byte of a name behind it; the closing zero is already there.
unfoldable pub store_name : ℕ → List ℕ → List ℕ → List Store
store_name block before name =
    let first : ℕ = block + length before in
    words (before ++ name) block (down (first / word_size * word_size) ((first + length name - 1) / word_size - first / word_size + 1))

unfoldable pub store_names : ℕ → List (List ℕ) → List (List ℕ) → List Store
store_names block names [] = []
store_names block names (b ∷ bs) = store_name block (flat names) b ++ store_names block (names ++ b ∷ []) bs

-- 5. If free slots are too few: a new index block in the same way, the old entries byte for byte.
unfoldable pub move_index : List ℕ → View → Plan → List Store
move_index img v p =
    moved p.index_moves (index_start p) (slot_words * p.slots) (part img v.layout.index (slot_size * length v.entries)) index_place p.slots

unfoldable pub entry_bytes : Entry → List ℕ
entry_bytes e = le_bytes 8 e.frame ++ le_bytes 8 e.n ++ le_bytes 8 e.location ++ le_bytes 4 e.m ++ le_bytes 2 e.id ++ e.kind ∷ e.flags ∷ []

unfoldable pub index_bytes : List Entry → List ℕ
index_bytes [] = []
index_bytes (e ∷ es) = entry_bytes e ++ index_bytes es

-- 6. The new entries in the next slots, from the last slot to the first.
unfoldable pub store_entries : ℕ → List Entry → List Store
store_entries slot es = words (index_bytes es) slot (slots_down slot (length es))

-- where the blocks lie after steps 3 and 5
abbrev pub name_block : View → Plan → ℕ
name_block v p = cond p.names_move (names_start p) v.layout.namelist

abbrev pub index_block : View → Plan → ℕ
index_block v p = cond p.index_moves (index_start p) v.layout.index

unfoldable pub steps_of : List ℕ → View → Plan → List Store
steps_of img v p =
    clear_index v
    ++ clear_names v
    ++ store_data p
    ++ move_names v p
    ++ store_names (name_block v p) v.names p.fresh
    ++ move_index img v p
    ++ store_entries (index_block v p + slot_size * length v.entries) p.entries

-- the whole list of stores
unfoldable pub store_list : List ℕ → List Row → List Store
store_list img rs = steps_of img (view_of img) (plan_of (view_of img) rs)
