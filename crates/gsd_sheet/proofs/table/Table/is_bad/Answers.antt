-- `gsd_sheet::table::Table::is_bad` meets its contract.
use Rattle.std.proofs.Common.{rules, tests, refl, arith, ◌∙◌}
use Rattle.std.proofs.lemmas.Iterator.{YieldsList-from_range}
use Rattle.std.proofs.lemmas.Iterator.Search.{any_from_yields_List}
use Rattle.gsd_stores.specs.Sheet.{bad_row, row_at}
use Rattle.gsd_sheet.proofs.Rows.{any-bad}
use Rattle.gsd_sheet.proofs.table.Table.is_bad.Goals as goal

pub returns : goal.returns
returns c =
    any_from_yields_List (λ i. bad_row c.args.version c.args.self.now.sheet.now (row_at i)) _ _ c.any.result c.any.ensures.ran
    (YieldsList-from_range 0 _ _ refl (omega arith)) (λ x b q k. search (rules, tests))
    ∙ any-bad c.args.version c.args.self.now.sheet.now 0 c.args.self.now.count
