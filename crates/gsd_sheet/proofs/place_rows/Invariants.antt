-- `gsd_sheet::place_rows` meets its contract: the rows passed are placed.
use Rattle.gsd_sheet.proofs.Rows.{Placed}
use Rattle.gsd_sheet.proofs.place_rows.Given as goal

abbrev pub invariant-loop-i : goal.invariant-loop-i
invariant-loop-i l = Placed l.table.sheet.now l.i l.at l.plan
