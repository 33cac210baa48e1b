-- The columns of a plan: for up to 64 rows six lists of numbers, one behind the other in the array that the append lends to
-- whoever fills or reads it. Behind them lie the plan's other numbers (gsd_steps).
use Rattle.std.specs.Prelude.{ℕ, ◌+◌, ◌<◌, ◌≡◌, List, length, get_or}

abbrev pub plan_words : ℕ
plan_words = 399

-- where each column begins, and behind them the numbers
abbrev pub name_from_column : ℕ
name_from_column = 0

abbrev pub data_from_column : ℕ
data_from_column = 65

abbrev pub slot_pair_column : ℕ
slot_pair_column = 129

abbrev pub new_row_column : ℕ
new_row_column = 193

abbrev pub data_to_column : ℕ
data_to_column = 257

abbrev pub name_to_column : ℕ
name_to_column = 321

abbrev pub numbers_begin : ℕ
numbers_begin = 385

-- row i's name lies in the sheet from here to where its data begin; behind the last row's data one more name would begin
abbrev pub name_from : List ℕ → ℕ → ℕ
name_from c i = get_or c (name_from_column + i) 0

abbrev pub data_from : List ℕ → ℕ → ℕ
data_from c i = get_or c (data_from_column + i) 0

-- id and row of the new entry in slot s, as one number
abbrev pub slot_pair : List ℕ → ℕ → ℕ
slot_pair c s = get_or c (slot_pair_column + s) 0

-- the row of the j-th new name
abbrev pub new_row : List ℕ → ℕ → ℕ
new_row c j = get_or c (new_row_column + j) 0

-- where row i's data and the j-th new name go in the image
abbrev pub data_to : List ℕ → ℕ → ℕ
data_to c i = get_or c (data_to_column + i) 0

abbrev pub name_to : List ℕ → ℕ → ℕ
name_to c j = get_or c (name_to_column + j) 0

-- the first n numbers of the column that begins at base are f 0, f 1, ..
pub record Filled (base : ℕ) (f : ℕ → ℕ) (c : List ℕ) (n : ℕ) : Type 0 where
  pub at : (i : ℕ) → i < n → get_or c (base + i) 0 ≡ f i

-- the columns before base are in c' as in c
pub record Kept (base : ℕ) (c c' : List ℕ) : Type 0 where
  pub long : length c' ≡ length c
  pub at : (k : ℕ) → k < base → get_or c' k 0 ≡ get_or c k 0
