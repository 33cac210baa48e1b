-- What a plan is that carries out an append: its words are the append's places and numbers. v is what the append sees of the
-- image, d what it is to do, p the plan.
use Rattle.std.specs.Prelude.{ℕ, suc, ◌+◌, ◌*◌, ◌^◌, ◌<◌, ◌≡◌, cond, List, [], ◌++◌, get_or, length, take}
use Rattle.gsd_format.specs.declared.Entry.{Entry}
use Rattle.gsd_format.specs.Names.{flat}
use Rattle.gsd_format.specs.Entries.{frames_of}
use Rattle.gsd_format.specs.Lookup.{none}
use Rattle.gsd_stores.specs.View.{View, entries_end, names_end, index_end, namelist_end}
use Rattle.gsd_stores.specs.Sheet.{rows_of, name_at, body_at, row_n, row_at}
use Rattle.gsd_stores.specs.Plan.{Plan, body_place, names_start, index_start}
use Rattle.gsd_stores.specs.Steps.{name_block, index_block}
use Rattle.gsd_stores.specs.Demand3.{no_row}
use Rattle.gsd_sheet.specs.Columns.{plan_words, name_from, data_from, new_row, data_to, name_to}
use Rattle.gsd_steps.specs.Numbers.{rows_in, fresh_in, frame_in, slot_in, index_in, entries_end_in, index_end_in}
use Rattle.gsd_steps.specs.Numbers.{namelist_in, names_end_in, namelist_end_in, names_at_in, segments_in, index_at_in, slots_in}
use Rattle.gsd_steps.specs.Steps.{slot_row, slot_id, meta_of}

pub record NumbersMatch (v : View) (sheet : List ℕ) (d : Plan) (p : List ℕ) : Type 0 where
  pub rows : rows_in p ≡ length (rows_of sheet)
  pub fresh : fresh_in p ≡ length d.fresh
  pub frame : frame_in p ≡ frames_of v.entries
  pub slot : slot_in p ≡ index_block v d + 32 * length v.entries
  pub index : index_in p ≡ v.layout.index
  pub entries_ends : entries_end_in p ≡ entries_end v
  pub index_ends : index_end_in p ≡ index_end v.layout
  pub namelist : namelist_in p ≡ v.layout.namelist
  pub names_ends : names_end_in p ≡ names_end v
  pub namelist_ends : namelist_end_in p ≡ namelist_end v.layout
  pub names_at : names_at_in p ≡ names_start d
  pub segments : segments_in p ≡ cond d.names_move d.segments 0
  pub index_at : index_at_in p ≡ index_start d
  pub slots : slots_in p ≡ cond d.index_moves d.slots 0

-- the data of row i
pub record DataMatch (sheet : List ℕ) (d : Plan) (p : List ℕ) (i : ℕ) : Type 0 where
  pub to : data_to p i ≡ body_place d.start (rows_of sheet) i
  pub from : data_from p i ≡ body_at sheet i
  pub until : name_from p (i + 1) ≡ name_at sheet (suc i)

-- the j-th new name, which is that of a row
pub record NameMatch (v : View) (sheet : List ℕ) (d : Plan) (p : List ℕ) (j : ℕ) : Type 0 where
  pub row : new_row p j < length (rows_of sheet)
  pub name : get_or d.fresh j [] ≡ (get_or (rows_of sheet) (new_row p j) no_row).name
  pub to : name_to p j ≡ name_block v d + length (flat (v.names ++ take j d.fresh))
  pub from : name_from p (new_row p j) ≡ name_at sheet (new_row p j)
  pub until : data_from p (new_row p j) ≡ body_at sheet (new_row p j)

-- the new entry e of slot s
pub record EntryMatch (sheet p : List ℕ) (s : ℕ) (e : Entry) : Type 0 where
  pub row : slot_row p s < length (rows_of sheet)
  pub small : slot_id p s < 65536
  pub n : row_n sheet (row_at (slot_row p s)) ≡ e.n
  pub meta : meta_of sheet (slot_row p s) (slot_id p s) ≡ e.m + 2 ^ 32 * e.id + 2 ^ 48 * e.kind
  pub location : data_to p (slot_row p s) ≡ e.location

pub record Matches (v : View) (sheet : List ℕ) (d : Plan) (p : List ℕ) : Type 0 where
  pub long : length p ≡ plan_words
  pub numbers : NumbersMatch v sheet d p
  pub bodies : (i : ℕ) → i < length (rows_of sheet) → DataMatch sheet d p i
  pub names : (j : ℕ) → j < length d.fresh → NameMatch v sheet d p j
  pub entries : (s : ℕ) → s < length d.entries → EntryMatch sheet p s (get_or d.entries s none)
