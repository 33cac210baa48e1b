-- `gsd_ids::list_ids` meets its contract. Invariant: the first i rows are done, and the columns that say where rows lie are kept;
-- the new names among these rows take fewer bytes than the sheet has before row i, but for their zeros.
use Prim.Native.Nat.{◌+◌, ◌≤◌}
use Rattle.gsd_stores.specs.Sheet.{rows_of, name_at}
use Rattle.gsd_names.specs.NameLists.{names_in}
use Rattle.gsd_sheet.specs.Columns.{Kept}
use Rattle.gsd_ids.proofs.RowIds.{Listing}
use Rattle.gsd_ids.proofs.list_ids.Given as goal

abbrev pub invariant-loop-i : goal.invariant-loop-i
invariant-loop-i l = Listing (names_in l.names.v10 l.names.image.now l.names.starts.now l.names.count) (rows_of l.sheet) l.plan l.fresh l.size l.i × Kept 129 l.initial.plan l.plan × (l.size ≤ name_at l.sheet l.i + l.i)
