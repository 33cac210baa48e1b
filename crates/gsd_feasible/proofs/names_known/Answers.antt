-- `gsd_feasible::names_known` meets its contract: the new names are of rows of the plan.
use Prim.Native.Nat.{ℕ}
use mathlib.Core.Path.{refl, ◌∙◌}
use mathlib.Core.Bool.{Bool}
use native.Mathlib.Omega.{arith}
use lib.Dec.{ltb}
use Rattle.std.proofs.Common.{rules, tests}
use Rattle.std.proofs.lemmas.Iterator.{YieldsList-from_range}
use Rattle.std.proofs.lemmas.Iterator.Search.{all_from_yields_List}
use Rattle.gsd_sheet.specs.Columns.{new_row}
use Rattle.gsd_steps.specs.Numbers.{fresh_in}
use Rattle.gsd_feasible.proofs.AllBelow.{all-range}
use Rattle.gsd_feasible.proofs.names_known.Goals as goal

pub returns : goal.returns
returns c =
    let p = c.args.plan.now in
    let test : ℕ → Bool = λ j. ltb (new_row p j) 64 in
    all_from_yields_List test _ _ c.all.result c.all.ensures.ran (YieldsList-from_range 0 (fresh_in p) (fresh_in p) refl (omega arith)) (λ x b q k. search (rules, tests))
    ∙ all-range test (fresh_in p)
