-- `gsd_sheet::located::Rows::any_nan_row` meets its contract.
use Rattle.std.proofs.Common.{rules, tests, refl, arith, ◌∙◌, sym}
use Rattle.std.proofs.lemmas.Iterator.{YieldsList-from_range}
use Rattle.std.proofs.lemmas.Iterator.Search.{any_from_yields_List}
use lib.ListN.{get_or}
use Rattle.gsd_stores.specs.Sheet.{rows_of, nan_row}
use Rattle.gsd_stores.specs.Demand3.{no_row}
use Rattle.gsd_stores.proofs.Sheet.{rows-count}
use Rattle.gsd_sheet.proofs.Rows.{any-one}
use Rattle.gsd_sheet.proofs.located.Rows.any_nan_row.Goals as goal

pub returns : goal.returns
returns c =
    any_from_yields_List (λ i. nan_row (get_or (rows_of c.args.self.now.sheet.now) i no_row)) _ _ c.any.result c.any.ensures.ran
    (YieldsList-from_range 0 _ _ refl (omega arith)) (λ x b q k. search (rules, tests))
    ∙ any-one nan_row (rows_of c.args.self.now.sheet.now) no_row c.args.self.now.count (rows-count c.args.self.now.sheet.now ∙ sym c.args.self.now.counted)
