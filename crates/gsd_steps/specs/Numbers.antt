-- The numbers of a plan, which lie behind its columns, from `numbers_begin` on: counts, where the blocks and their lists lie, and
-- where the blocks go.
use Rattle.std.specs.Prelude.{ℕ, List, get_or}

-- the rows, which are also the new entries, and the new names
abbrev pub rows_in : List ℕ → ℕ
rows_in p = get_or p 385 0

abbrev pub fresh_in : List ℕ → ℕ
fresh_in p = get_or p 386 0

-- the frame of the new entries, and the place of the first one
abbrev pub frame_in : List ℕ → ℕ
frame_in p = get_or p 387 0

abbrev pub slot_in : List ℕ → ℕ
slot_in p = get_or p 388 0

-- the index block: its start, the end of its list, its end
abbrev pub index_in : List ℕ → ℕ
index_in p = get_or p 389 0

abbrev pub entries_end_in : List ℕ → ℕ
entries_end_in p = get_or p 390 0

abbrev pub index_end_in : List ℕ → ℕ
index_end_in p = get_or p 391 0

-- the name block likewise
abbrev pub namelist_in : List ℕ → ℕ
namelist_in p = get_or p 392 0

abbrev pub names_end_in : List ℕ → ℕ
names_end_in p = get_or p 393 0

abbrev pub namelist_end_in : List ℕ → ℕ
namelist_end_in p = get_or p 394 0

-- where a new name block starts and the segments it has, 0 if the old one stays
abbrev pub names_at_in : List ℕ → ℕ
names_at_in p = get_or p 395 0

abbrev pub segments_in : List ℕ → ℕ
segments_in p = get_or p 396 0

-- a new index block likewise
abbrev pub index_at_in : List ℕ → ℕ
index_at_in p = get_or p 397 0

abbrev pub slots_in : List ℕ → ℕ
slots_in p = get_or p 398 0
