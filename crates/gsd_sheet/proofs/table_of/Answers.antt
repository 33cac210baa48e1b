-- `gsd_sheet::table_of` meets its contract.
use mathlib.Core.Path.{◌≡◌, sym, ◌∙◌}
use mathlib.Core.Bool.{true, false}
use native.Mathlib.Omega.{arith}
use Rattle.gsd_format.specs.Refusals.{◌⇒◌}
use Rattle.gsd_stores.specs.Sheet.{bad_table, row_count}
use Rattle.gsd_sheet.proofs.Rows.{table-short, table_none, table-many, table-cut, table-whole}
use Rattle.gsd_sheet.proofs.table_of.Goals as goal

pub returns-then-sheet-lt4-clause-answer : goal.returns-then-sheet-lt4-clause-answer
returns-then-sheet-lt4-clause-answer c = sym (table-short _ c.args.sheet.now c.if-sheet-lt4.true)

pub returns-then-count-eq0-clause-answer : goal.returns-then-count-eq0-clause-answer
returns-then-count-eq0-clause-answer c = sym (table_none _ c.args.sheet.now (omega arith) (omega arith))

pub returns-then-count-gt-MOST_ROWS-clause-answer : goal.returns-then-count-gt-MOST_ROWS-clause-answer
returns-then-count-gt-MOST_ROWS-clause-answer c = sym (table-many _ c.args.sheet.now (omega arith) (omega arith))

pub returns-then-sheet-count-clause-answer : goal.returns-then-sheet-count-clause-answer
returns-then-sheet-count-clause-answer c = sym (table-cut _ c.args.sheet.now (omega arith) (omega arith) (omega arith) (omega arith))

pub returns-then-is_bad-clause-answer : goal.returns-then-is_bad-clause-answer
unfolding ◌⇒◌
returns-then-is_bad-clause-answer c =
    let s = c.args.sheet.now in
    let e : bad_table c.args.version s 4 (row_count s) ≡ true = rw c.row_count-count.ensures at (sym c.is_bad.ensures ∙ c.if-is_bad.true) in
    sym (table-whole _ s (omega arith) (omega arith) (omega arith) (omega arith) ∙ rw (e, ◌⇒◌))

pub returns-clause-answer : goal.returns-clause-answer
unfolding ◌⇒◌
returns-clause-answer c =
    let s = c.args.sheet.now in
    let e : bad_table c.args.version s 4 (row_count s) ≡ false = rw c.row_count-count.ensures at (sym c.is_bad.ensures ∙ c.if-is_bad.false) in
    sym (table-whole _ s (omega arith) (omega arith) (omega arith) (omega arith) ∙ rw (e, ◌⇒◌))
