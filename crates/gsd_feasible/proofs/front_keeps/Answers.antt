-- `gsd_feasible::front_keeps` meets its contract: each extent keeps to image and sheet.
use Prim.Native.Nat.{ℕ}
use mathlib.Core.Path.{refl, ◌∙◌, ap}
use mathlib.Core.Bool.{Bool}
use native.Mathlib.Omega.{arith}
use lib.ListN.{get_or}
use Rattle.std.proofs.Common.{rules, tests}
use Rattle.std.proofs.lemmas.Iterator.{YieldsList-from_range}
use Rattle.std.proofs.lemmas.Iterator.Search.{all_from_yields_List}
use Rattle.gsd_extents.specs.Exec.{keeps_to}
use Rattle.gsd_extents.specs.Extents.{none}
use Rattle.gsd_steps.specs.Steps.{front_of}
use Rattle.gsd_feasible.specs.Feasible.{all_below}
use Rattle.gsd_feasible.proofs.AllBelow.{all-range}
use Rattle.gsd_feasible.proofs.front_keeps.Goals as goal

pub returns : goal.returns
returns c =
    let p = c.args.front.plan.now in
    let test : ℕ → Bool = λ r. keeps_to c.args.n c.args.m (get_or (front_of p) r none) in
    all_from_yields_List test _ _ c.all.result c.all.ensures.ran (YieldsList-from_range 0 c.count.result c.count.result refl (omega arith)) (λ x b q k. search (rules, tests))
    ∙ all-range test c.count.result
    ∙ ap (λ k. all_below k test) c.count.ensures
