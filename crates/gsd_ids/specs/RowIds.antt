-- What the code finds of the rows' names: their ids, and which of them are new.
use Rattle.std.specs.Prelude.{ℕ, ◌≤◌, ◌<◌, ◌≡◌, List, [], ◌++◌, length, get_or}
use Rattle.gsd_format.specs.Bytes.{part}
use Rattle.gsd_format.specs.Names.{flat, index_of, Distinct}
use Rattle.gsd_format.specs.Opening.{most_names}
use Rattle.gsd_stores.specs.Sheet.{Row, row_count}
use Rattle.gsd_stores.specs.Plan.{new_names}
use Rattle.gsd_stores.specs.Demand3.{no_row}
use Rattle.gsd_sheet.specs.Columns.{plan_words, slot_pair_column, new_row, Filled}
use Rattle.gsd_sheet.specs.Rows.{sheet_names, Located}
use Rattle.gsd_ids.specs.declared.NewNames.{NewNames}
use Rattle.gsd_ids.specs.Order.{paired, Sorted}

-- row i's id, among the listed names and the new ones behind them, with i as one number
abbrev pub pair_of : List (List ℕ) → List Row → ℕ → ℕ
pair_of names rs i = paired (index_of (get_or rs i no_row).name (names ++ new_names names rs)) i

-- a row with this name, before row n
pub record RowNamed (rs : List Row) (n row : ℕ) (name : List ℕ) : Type 0 where
  pub within : row < n
  pub named : (get_or rs row no_row).name ≡ name

-- what the search for ids among so many names needs: the rows of a sheet, no two with one name, where they lie
pub record Searchable (names : ℕ) (sheet c : List ℕ) (count : ℕ) : Type 0 where
  pub few : names ≤ most_names
  pub long : length c ≡ plan_words
  pub located : Located sheet c
  pub counted : count ≡ row_count sheet
  pub distinct : Distinct (sheet_names sheet)

-- row i's pair at place i of the column, and the rows of the new names
pub record IdsListed (names : List (List ℕ)) (rs : List Row) (c : List ℕ) (r : NewNames) : Type 0 where
  pub pairs : Filled slot_pair_column (pair_of names rs) c (length rs)
  pub fresh : r.count ≡ length (new_names names rs)
  pub rows : (j : ℕ) → j < r.count → RowNamed rs (length rs) (new_row c j) (get_or (new_names names rs) j [])
  pub size : r.size ≡ length (flat (new_names names rs))

-- the column of pairs as a list
abbrev pub order : List ℕ → List ℕ
order c = part c slot_pair_column 64

-- the pairs in the order of ids; before they were sorted they were `packed`
pub record IdsFound (names : List (List ℕ)) (rs : List Row) (c : List ℕ) (r : NewNames) : Type 0 where
  pub packed : List ℕ
  pub pairs : (i : ℕ) → i < length rs → get_or packed i 0 ≡ pair_of names rs i
  pub long : length packed ≡ 64
  pub sorted : Sorted packed (length rs) (order c)
  pub fresh : r.count ≡ length (new_names names rs)
  pub rows : (j : ℕ) → j < r.count → RowNamed rs (length rs) (new_row c j) (get_or (new_names names rs) j [])
  pub size : r.size ≡ length (flat (new_names names rs))
