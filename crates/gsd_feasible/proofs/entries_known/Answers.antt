-- `gsd_feasible::entries_known` meets its contract: the entries are known.
use mathlib.Core.Path.{refl, ◌∙◌}
use native.Mathlib.Omega.{arith}
use Rattle.std.proofs.Common.{rules, tests}
use Rattle.std.proofs.lemmas.Iterator.{YieldsList-from_range}
use Rattle.std.proofs.lemmas.Iterator.Search.{all_from_yields_List}
use Rattle.gsd_steps.specs.Numbers.{rows_in}
use Rattle.gsd_feasible.specs.Feasible.{entry_known}
use Rattle.gsd_feasible.proofs.AllBelow.{all-range}
use Rattle.gsd_feasible.proofs.entries_known.Goals as goal

pub returns : goal.returns
returns c =
    let p = c.args.plan.now in
    let test = entry_known p in
    all_from_yields_List test _ _ c.all.result c.all.ensures.ran (YieldsList-from_range 0 (rows_in p) (rows_in p) refl (omega arith)) (λ x b q k. search (rules, tests))
    ∙ all-range test (rows_in p)
