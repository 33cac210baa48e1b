-- `gsd_sheet::located::Rows::zero_named` meets its contract.
use Rattle.std.proofs.Common.{rules, tests, refl, arith, ◌∙◌, sym, length}
use Rattle.std.proofs.lemmas.Iterator.{YieldsList-from_range}
use Rattle.std.proofs.lemmas.Iterator.Search.{any_from_yields_List}
use mathlib.Core.List.{[]}
use Rattle.gsd_format.specs.Bytes.{zero_in}
use Rattle.gsd_sheet.specs.Rows.{sheet_names, name_of}
use Rattle.gsd_sheet.proofs.Rows.{names-count, any-one}
use Rattle.gsd_sheet.proofs.located.Rows.zero_named.Goals as goal

pub returns : goal.returns
returns c =
    any_from_yields_List (λ i. zero_in (name_of c.args.self.now.sheet.now i) 0 (length (name_of c.args.self.now.sheet.now i))) _ _ c.any.result c.any.ensures.ran
    (YieldsList-from_range 0 _ _ refl (omega arith)) (λ x b q k. search (rules, tests))
    ∙ any-one (λ n. zero_in n 0 (length n)) (sheet_names c.args.self.now.sheet.now) [] c.args.self.now.count (names-count c.args.self.now.sheet.now ∙ sym c.args.self.now.counted)
