-- `gsd_steps::Extents::entry` meets its contract.
use Prim.Native.Nat.{ℕ, ◌+◌, ◌*◌, ◌-◌, ◌/◌, ◌%◌}
use mathlib.Core.Path.{◌∙◌}
use native.Mathlib.Omega.{arith}
use Rattle.gsd_extents.specs.Extents.{number}
use Rattle.gsd_steps.specs.Numbers.{rows_in, slot_in}
use Rattle.gsd_steps.specs.Steps.{entry_extent}
use Rattle.gsd_steps.proofs.Steps.{four-read}
use Rattle.gsd_steps.proofs.Extents.entry.Goals as goal

pub returns : goal.returns
unfolding entry_extent
returns c =
    let p = c.args.self.now.plan.now in
    let s : ℕ = rows_in p - 1 - c.args.k / 4 in
    c.number_extent.ensures
    ∙ (λ i. number (slot_in p + 32 * s + four-read (c.args.k % 4) (omega arith) i) 1 (c.entry_word.ensures i))
