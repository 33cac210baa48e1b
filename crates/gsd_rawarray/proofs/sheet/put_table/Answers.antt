-- Four numbers in a row.
use borrow.Author.Rules.{rules}
use mathlib.Core.Path.{◌∙◌}
use Rattle.gsd_rawarray.proofs.Sheets.{table-stored}
use Rattle.gsd_rawarray.proofs.sheet.put_table.Goals as goal

pub returns : goal.returns
returns c =
    let said = c.requires.said in
    table-stored _ _ _ _ _ _ _ _ _ _ said.rows said.columns (c.from.ensures ∙ said.kind) (search rules) c.requires.short
    c.put_half.ensures c.put_word.ensures c.put_half-2.ensures c.put_half-3.ensures
