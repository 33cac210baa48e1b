-- What the code finds in a sheet: its number, and where each row's name and data lie.
use Rattle.std.specs.Prelude.{ℕ, ◌+◌, ◌≤◌, Bool, not, ◌||◌, List, [], length, get_or, ltb, eqb}
use Rattle.gsd_format.specs.Refusals.{◌⇒◌, ◌▹◌}
use Rattle.gsd_format.specs.Names.{index_of}
use Rattle.gsd_format.specs.Opening.{twins}
use Rattle.gsd_stores.specs.Sheet.{bad_table, bodies_end, row_count, table_end, rows_of, row_names, any_zero, any_nan_row, most_rows, name_at, body_at, Exact}
use Rattle.gsd_sheet.specs.Columns.{name_from_column, data_from_column, Filled}

-- the names of the rows, and that of row i
abbrev pub sheet_names : List ℕ → List (List ℕ)
sheet_names s = row_names (rows_of s)

abbrev pub name_of : List ℕ → ℕ → List ℕ
name_of s i = get_or (sheet_names s) i []

-- the sheet's test in three parts: 22 to 24, 25, and of rows that lie in the sheet 26, 27 and 30
unfoldable pub table_test : ℕ → List ℕ → ℕ
table_test version s =
    (ltb (length s) 4 || eqb (row_count s) 0 || ltb most_rows (row_count s) ⇒ 22)
    ▹ (ltb (length s) (table_end s) ⇒ 23)
    ▹ (bad_table version s 4 (row_count s) ⇒ 24)

unfoldable pub end_test : List ℕ → ℕ
end_test s = not (eqb (length s) (bodies_end s 4 (table_end s) (row_count s))) ⇒ 25

unfoldable pub rows_test : List ℕ → ℕ
rows_test s = (any_zero (sheet_names s) ⇒ 26) ▹ (twins (sheet_names s) ⇒ 27) ▹ (any_nan_row (rows_of s) ⇒ 30)

-- is the i-th name one of those before it?
abbrev pub repeats : List (List ℕ) → ℕ → Bool
repeats ns i = ltb (index_of (get_or ns i []) ns) i

-- the columns say where each row's name and data lie; the last row's data end with the sheet
pub record Located (s c : List ℕ) : Type 0 where
  pub few : row_count s ≤ most_rows
  pub exact : Exact s
  pub name : Filled name_from_column (name_at s) c (row_count s + 1)
  pub body : Filled data_from_column (body_at s) c (row_count s)
