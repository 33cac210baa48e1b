-- `gsd_sheet::located::Rows::repeated` meets its contract.
use Rattle.std.proofs.Common.{rules, tests, refl, arith, ◌∙◌, sym}
use Rattle.std.proofs.lemmas.Iterator.{YieldsList-from_range}
use Rattle.std.proofs.lemmas.Iterator.Search.{any_from_yields_List}
use mathlib.Core.Bool.{true≢false}
use Rattle.gsd_format.specs.Bytes.{same}
use Rattle.gsd_format.proofs.Bytes.{same-eq, eq-same}
use Rattle.gsd_sheet.specs.Rows.{sheet_names, name_of, repeats}
use Rattle.gsd_sheet.proofs.Rows.{names-count, repeats-yes, repeats-no, any-decides}
use Rattle.gsd_sheet.proofs.located.Rows.repeated.Goals as goal

pub returns : goal.returns
returns c =
    any_from_yields_List (λ i. same (name_of c.args.self.now.sheet.now i) (name_of c.args.self.now.sheet.now c.args.i)) _ _ c.any.result c.any.ensures.ran
    (YieldsList-from_range 0 _ _ refl (omega arith)) (λ x b q k. search (rules, tests))
    ∙ any-decides (λ j. same (name_of c.args.self.now.sheet.now j) (name_of c.args.self.now.sheet.now c.args.i)) 0 c.args.i (repeats (sheet_names c.args.self.now.sheet.now) c.args.i)
    (λ k l m h. repeats-yes (sheet_names c.args.self.now.sheet.now) c.args.i k (omega arith) (omega (arith, names-count c.args.self.now.sheet.now)) (same-eq (name_of c.args.self.now.sheet.now k) (name_of c.args.self.now.sheet.now c.args.i) h))
    (λ f. repeats-no (sheet_names c.args.self.now.sheet.now) c.args.i (omega (arith, names-count c.args.self.now.sheet.now))
    (λ k l e. true≢false (sym (eq-same (name_of c.args.self.now.sheet.now k) (name_of c.args.self.now.sheet.now c.args.i) e) ∙ f k (omega arith) (omega arith))))
