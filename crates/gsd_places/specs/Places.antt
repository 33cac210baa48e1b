-- Where the rows' data and the new names go, from where they lie in the sheet. c is the plan's words before, c' those after.
use Rattle.std.specs.Prelude.{ℕ, zero, suc, ◌+◌, ◌-◌, ◌≤◌, ◌<◌, ◌≡◌, List}
use Rattle.gsd_format.specs.Bytes.{round_up}
use Rattle.gsd_format.specs.Header.{aligned}
use Rattle.gsd_stores.specs.Stores.{word_size, half}
use Rattle.gsd_sheet.specs.Columns.{data_to_column, name_to_column, name_from, data_from, new_row, Filled, Kept}

-- the rows' names and data lie one behind the other
pub record Laid (c : List ℕ) (count : ℕ) : Type 0 where
  pub few : count ≤ 64
  pub name : (i : ℕ) → i < count → name_from c i ≤ data_from c i
  pub body : (i : ℕ) → i < count → data_from c i ≤ name_from c (i + 1)
  pub small : (i : ℕ) → i ≤ count → name_from c i ≤ half

-- the position behind the data of the first i rows, which begin at start
unfoldable pub data_end_at : List ℕ → ℕ → ℕ → ℕ
data_end_at c start zero = start
data_end_at c start (suc i) = aligned (data_end_at c start i) + round_up word_size (name_from c (i + 1) - data_from c i)

pub record DataPlaced (c : List ℕ) (count start end : ℕ) (c' : List ℕ) : Type 0 where
  pub to : Filled data_to_column (λ i. aligned (data_end_at c start i)) c' count
  pub ends : end ≡ data_end_at c start count
  pub kept : Kept data_to_column c c'

-- the new names are those of rows, each with at most 255 bytes
pub record NamesLaid (c : List ℕ) (fresh : ℕ) : Type 0 where
  pub few : fresh ≤ 64
  pub row : (j : ℕ) → j < fresh → new_row c j < 64
  pub name : (j : ℕ) → j < fresh → name_from c (new_row c j) ≤ data_from c (new_row c j)
  pub short : (j : ℕ) → j < fresh → data_from c (new_row c j) < name_from c (new_row c j) + 256

-- how far behind the first new name the j-th begins, each with its zero
unfoldable pub name_offset : List ℕ → ℕ → ℕ
name_offset c zero = 0
name_offset c (suc j) = name_offset c j + (data_from c (new_row c j) - name_from c (new_row c j)) + 1

pub record NamesPlaced (c : List ℕ) (fresh first : ℕ) (c' : List ℕ) : Type 0 where
  pub to : Filled name_to_column (λ j. first + name_offset c j) c' fresh
  pub kept : Kept name_to_column c c'
