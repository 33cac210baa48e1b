-- `gsd_steps::Front::extent_at` meets its contract.
use Prim.Native.Nat.{◌-◌}
use mathlib.Core.Path.{sym, ◌∙◌, ap}
use native.Mathlib.Omega.{arith}
use Rattle.gsd_steps.specs.Numbers.{rows_in, fresh_in}
use Rattle.gsd_steps.specs.Steps.{data_extent, move_extent, name_extent}
use Rattle.gsd_steps.proofs.Steps.{at_clear, at-data, at_block, at_name, at_slots}
use Rattle.gsd_steps.proofs.Front.extent_at.Goals as goal

pub returns-then-r-lt3 : goal.returns-then-r-lt3
returns-then-r-lt3 c = c.clear_extent.ensures ∙ sym (at_clear _ _ c.if-r-lt3.true)

pub returns-then-row-rows : goal.returns-then-row-rows
unfolding data_extent
returns-then-row-rows c = c.data_extent.ensures ∙ sym (at-data _ _ c.if-r-lt3.false c.if-row-rows.true)

pub returns-then-b-lt4 : goal.returns-then-b-lt4
returns-then-b-lt4 c =
    let x = c.args in
    c.move_extent.ensures
    ∙ ap (λ b. move_extent b (x.r - 3 - rows_in x.self.plan.now)) c.name_move.ensures
    ∙ sym (at_block _ _ c.if-r-lt3.false c.if-row-rows.false c.if-b-lt4.true)

pub returns-then-j-fresh : goal.returns-then-j-fresh
unfolding name_extent
returns-then-j-fresh c = c.name_extent.ensures ∙ sym (at_name _ _ c.if-r-lt3.false c.if-row-rows.false c.if-b-lt4.false c.if-j-fresh.true)

pub returns : goal.returns
returns c =
    let x = c.args in
    c.move_extent-2.ensures
    ∙ ap (λ b. move_extent b (x.r - 3 - rows_in x.self.plan.now - 4 - fresh_in x.self.plan.now)) c.index_move.ensures
    ∙ sym (at_slots _ _ c.if-r-lt3.false c.if-row-rows.false c.if-b-lt4.false c.if-j-fresh.false (omega (arith, c.requires, c.if-r-lt3.false, c.if-row-rows.false, c.if-b-lt4.false, c.if-j-fresh.false)))
