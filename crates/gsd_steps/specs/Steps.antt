-- The extents of a plan, in the order of the append's steps 1 to 6. p is the plan's words.
use Rattle.std.specs.Prelude.{ℕ, zero, suc, ◌+◌, ◌*◌, ◌-◌, ◌/◌, ◌%◌, ◌^◌, ◌≤◌, ◌<◌, min, ◌≡◌, cond, List, [], ◌∷◌, ◌++◌, get_or, length, eqb}
use Rattle.gsd_format.specs.Header.{greatest_length}
use Rattle.gsd_stores.specs.Sheet.{row_n, row_m, row_kind, row_at}
use Rattle.gsd_sheet.specs.Columns.{plan_words, name_from, data_from, slot_pair, new_row, data_to, name_to}
use Rattle.gsd_steps.specs.Numbers.{rows_in, fresh_in, frame_in, slot_in, index_in, entries_end_in, index_end_in}
use Rattle.gsd_steps.specs.Numbers.{namelist_in, names_end_in, namelist_end_in, names_at_in, segments_in, index_at_in, slots_in}
use Rattle.gsd_extents.specs.declared.extent.Extent.{Extent}
use Rattle.gsd_extents.specs.Exec.{Good, tasks}
use Rattle.gsd_extents.specs.Extents.{number, none, copied, row_data, name}
use Rattle.gsd_steps.specs.declared.Move.{Move}

-- 1. the free slots, the word that holds the name list's end, and the words behind it
abbrev pub end_word : List ℕ → ℕ
end_word p = names_end_in p / 8 * 8

abbrev pub words_behind : List ℕ → ℕ
words_behind p = (namelist_end_in p - end_word p) / 8

unfoldable pub clear_extent : List ℕ → ℕ → Extent
clear_extent p zero = number (entries_end_in p) ((index_end_in p - entries_end_in p) / 8) 0
clear_extent p (suc zero) = copied (end_word p) (min 1 (words_behind p)) (end_word p) (names_end_in p)
clear_extent p (suc (suc k)) = number (end_word p + 8 * min 1 (words_behind p)) (words_behind p - 1) 0

-- 2. row i's data
unfoldable pub data_extent : List ℕ → ℕ → Extent
data_extent p i = row_data (data_to p i) (data_from p i) (name_from p (i + 1))

-- 3 and 5. a block that moves: the words of its list, zeros, its place and its count in the header. With the count 0 it stays
abbrev pub name_move : List ℕ → Move
name_move p = record { to = names_at_in p; words = 8 * segments_in p; from = namelist_in p; until = names_end_in p; header = 24; count = segments_in p }

abbrev pub index_move : List ℕ → Move
index_move p = record { to = index_at_in p; words = 4 * slots_in p; from = index_in p; until = entries_end_in p; header = 8; count = slots_in p }

abbrev pub listed : Move → ℕ
listed b = (b.until - b.from + 7) / 8

abbrev pub if_moved : Move → Extent → Extent
if_moved b e = cond (eqb b.count 0) none e

unfoldable pub move_extent : Move → ℕ → Extent
move_extent b zero = if_moved b (copied b.to (listed b) b.from b.until)
move_extent b (suc zero) = if_moved b (number (b.to + 8 * listed b) (b.words - listed b) 0)
move_extent b (suc (suc zero)) = if_moved b (number b.header 1 b.to)
move_extent b (suc (suc (suc k))) = if_moved b (number (b.header + 8) 1 b.count)

-- the listed entries that step 5 copies: the words of the list, four to an entry
abbrev pub copied_in : List ℕ → ℕ
copied_in p = (move_extent (index_move p) 0).words / 4

-- 4. the j-th new name
unfoldable pub name_extent : List ℕ → ℕ → Extent
name_extent p j = name (name_to p j) (name_from p (new_row p j)) (data_from p (new_row p j))

-- 6. the row and the id of the new entry in slot s
abbrev pub slot_row : List ℕ → ℕ → ℕ
slot_row p s = slot_pair p s % 64

abbrev pub slot_id : List ℕ → ℕ → ℕ
slot_id p s = slot_pair p s / 64

-- M, id and type of a row as one number: the last word of its entry, whose flags are 0
abbrev pub meta_of : List ℕ → ℕ → ℕ → ℕ
meta_of sheet row id = row_m sheet (row_at row) + 2 ^ 32 * id + 2 ^ 48 * row_kind sheet (row_at row)

-- the i-th of four numbers
unfoldable pub of_four : ℕ → ℕ → ℕ → ℕ → ℕ → ℕ
of_four a b c d zero = a
of_four a b c d (suc zero) = b
of_four a b c d (suc (suc zero)) = c
of_four a b c d (suc (suc (suc i))) = d

-- the i-th word to be stored of slot s: those at 0, 8 and 24, and last the location, which shows the entry
abbrev pub entry_place : List ℕ → ℕ → ℕ → ℕ
entry_place p s i = slot_in p + 32 * s + of_four 0 8 24 16 i

abbrev pub entry_word : List ℕ → List ℕ → ℕ → ℕ → ℕ
entry_word sheet p s i =
    of_four (frame_in p) (row_n sheet (row_at (slot_row p s))) (meta_of sheet (slot_row p s) (slot_id p s)) (data_to p (slot_row p s)) i

-- the k-th word of all new entries, from the last slot to the first
unfoldable pub entry_extent : List ℕ → List ℕ → ℕ → Extent
entry_extent sheet p k =
    let s : ℕ = rows_in p - 1 - k / 4 in
    number (entry_place p s (k % 4)) 1 (entry_word sheet p s (k % 4))

-- f i, f (i + 1), .., n of them
unfoldable pub tab : (ℕ → Extent) → ℕ → ℕ → List Extent
tab f i zero = []
tab f i (suc n) = f i ∷ tab f (suc i) n

-- steps 1 to 5: what they do follows from the plan alone but for the bytes that they copy
unfoldable pub front_of : List ℕ → List Extent
front_of p =
    tab (clear_extent p) 0 3
    ++ tab (data_extent p) 0 (rows_in p)
    ++ tab (move_extent (name_move p)) 0 4
    ++ tab (name_extent p) 0 (fresh_in p)
    ++ tab (move_extent (index_move p)) 0 4

abbrev pub front_count : List ℕ → ℕ
front_count p = 11 + fresh_in p + rows_in p

-- and step 6, whose numbers are read from the sheet
unfoldable pub extents_of : List ℕ → List ℕ → List Extent
extents_of sheet p = front_of p ++ tab (entry_extent sheet p) 0 (4 * rows_in p)

abbrev pub extent_count : List ℕ → ℕ
extent_count p = 11 + fresh_in p + 5 * rows_in p

-- What the extents need to be reckoned at all, wherever they then lie: no sum or product passes a word

-- those of a block
pub record Small (b : Move) : Type 0 where
  pub to : b.to ≤ greatest_length
  pub until : b.until ≤ greatest_length
  pub count : b.count ≤ greatest_length

-- those of steps 1 to 5
pub record FrontSound (p : List ℕ) : Type 0 where
  pub long : length p ≡ plan_words
  pub rows : rows_in p ≤ 64
  pub fresh : fresh_in p ≤ rows_in p
  pub name_move : Small (name_move p)
  pub index_move : Small (index_move p)
  pub new_rows : (j : ℕ) → j < fresh_in p → new_row p j < 64

-- all of them, with a sheet of m bytes
pub record Sound (m : ℕ) (p : List ℕ) : Type 0 where
  pub front : FrontSound p
  pub table : row_at (rows_in p) ≤ m
  pub slot : slot_in p ≤ greatest_length
  pub slot_rows : (s : ℕ) → s < rows_in p → slot_row p s < rows_in p
  pub slot_ids : (s : ℕ) → s < rows_in p → slot_id p s < 65536

-- a plan that can be carried out on an image of n bytes
pub record Ready (n : ℕ) (sheet p : List ℕ) : Type 0 where
  pub sound : Sound (length sheet) p
  pub good : (i : ℕ) → i < extent_count p → Good n (length sheet) (get_or (extents_of sheet p) i none)
  pub count : length (tasks (extents_of sheet p)) < 18446744073709551616
