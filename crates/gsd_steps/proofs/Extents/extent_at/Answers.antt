-- `gsd_steps::Extents::extent_at` meets its contract.
use Prim.Native.Nat.{◌-◌}
use mathlib.Core.Path.{sym, ◌∙◌, ap}
use native.Mathlib.Omega.{arith}
use Rattle.gsd_steps.specs.Steps.{entry_extent}
use Rattle.gsd_steps.proofs.Steps.{at_front, at_entry}
use Rattle.gsd_steps.proofs.Extents.extent_at.Goals as goal

pub returns-then-r-count : goal.returns-then-r-count
returns-then-r-count c = c.extent_at.ensures ∙ sym (at_front _ _ _ (omega (arith, c.count-count.ensures, c.if-r-count.true)))

pub returns : goal.returns
returns c =
    let x = c.args in
    c.entry.ensures
    ∙ ap (λ n. entry_extent x.self.now.sheet.now x.self.now.plan.now (x.r - n)) c.count-count.ensures
    ∙ sym (at_entry _ _ _ (omega (arith, c.count-count.ensures, c.if-r-count.false)) (omega (arith, c.requires, c.count-count.ensures, c.if-r-count.false)))
