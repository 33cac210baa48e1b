-- `gsd_sheet::located::Rows::twin_named` meets its contract.
use Rattle.std.proofs.Common.{rules, tests, refl, arith, ◌∙◌}
use Rattle.std.proofs.lemmas.Iterator.{YieldsList-from_range}
use Rattle.std.proofs.lemmas.Iterator.Search.{any_from_yields_List}
use Rattle.gsd_format.specs.Opening.{twins}
use Rattle.gsd_sheet.specs.Rows.{sheet_names, repeats}
use Rattle.gsd_sheet.proofs.Rows.{names-count, twins-yes, twins-no, any-decides}
use Rattle.gsd_sheet.proofs.located.Rows.twin_named.Goals as goal

pub returns : goal.returns
returns c =
    any_from_yields_List (λ i. repeats (sheet_names c.args.self.now.sheet.now) i) _ _ c.any.result c.any.ensures.ran
    (YieldsList-from_range 0 _ _ refl (omega arith)) (λ x b q k. search (rules, tests))
    ∙ any-decides (repeats (sheet_names c.args.self.now.sheet.now)) 0 c.args.self.now.count (twins (sheet_names c.args.self.now.sheet.now))
    (λ k l m h. twins-yes (sheet_names c.args.self.now.sheet.now) k (omega (arith, names-count c.args.self.now.sheet.now)) h)
    (λ f. twins-no (sheet_names c.args.self.now.sheet.now) (λ k l. f k (omega arith) (omega (arith, names-count c.args.self.now.sheet.now))))
