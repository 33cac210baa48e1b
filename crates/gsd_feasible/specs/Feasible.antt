-- Whether a plan p, whose words may be any, can be carried out on an image of n bytes with a sheet of m: a test of all that
-- carrying it out needs.
use Rattle.std.specs.Prelude.{ℕ, zero, suc, ◌+◌, ◌*◌, ◌%◌, Bool, true, ◌&&◌, List, get_or, eqb, leb, ltb}
use Rattle.gsd_format.specs.Header.{header_size, greatest_length}
use Rattle.gsd_stores.specs.Sheet.{row_at, most_rows}
use Rattle.gsd_sheet.specs.Columns.{new_row}
use Rattle.gsd_extents.specs.Exec.{keeps_to}
use Rattle.gsd_extents.specs.Extents.{none}
use Rattle.gsd_steps.specs.declared.Move.{Move}
use Rattle.gsd_steps.specs.Numbers.{rows_in, fresh_in, slot_in}
use Rattle.gsd_steps.specs.Steps.{name_move, index_move, slot_row, slot_id, front_of, front_count}

-- the test holds of every number below n
unfoldable pub all_below : ℕ → (ℕ → Bool) → Bool
all_below zero f = true
all_below (suc n) f = all_below n f && f n

-- one row to 64, and at most as many new names
abbrev pub counts_fit : List ℕ → Bool
counts_fit p = leb 1 (rows_in p) && leb (rows_in p) most_rows && leb (fresh_in p) (rows_in p)

-- the image may be one, its new entries lie in it, and the rows' table in the sheet
abbrev pub slices_fit : ℕ → ℕ → List ℕ → Bool
slices_fit n m p = leb header_size n && leb n greatest_length && leb (row_at (rows_in p)) m && eqb (slot_in p % 8) 0 && leb (slot_in p + 32 * rows_in p) n

-- a block that moves can be reckoned with
abbrev pub small : Move → Bool
small b = leb b.to greatest_length && leb b.until greatest_length && leb b.count greatest_length

-- new names are of rows that have a place in the plan; entries are of its rows and have ids
abbrev pub names_known : List ℕ → Bool
names_known p = all_below (fresh_in p) (λ j. ltb (new_row p j) 64)

abbrev pub entry_known : List ℕ → ℕ → Bool
entry_known p s = ltb (slot_row p s) (rows_in p) && ltb (slot_id p s) 65536

abbrev pub entries_known : List ℕ → Bool
entries_known p = all_below (rows_in p) (entry_known p)

-- all of these, but for the counts
abbrev pub numbers_fit : ℕ → ℕ → List ℕ → Bool
numbers_fit n m p = slices_fit n m p && small (name_move p) && small (index_move p) && names_known p && entries_known p

-- every extent of steps 1 to 5 keeps to image and sheet
abbrev pub front_keeps : ℕ → ℕ → List ℕ → Bool
front_keeps n m p = all_below (front_count p) (λ r. keeps_to n m (get_or (front_of p) r none))

unfoldable pub feasible : ℕ → ℕ → List ℕ → Bool
feasible n m p = counts_fit p && numbers_fit n m p && front_keeps n m p
