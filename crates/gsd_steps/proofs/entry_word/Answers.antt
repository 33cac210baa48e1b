-- `gsd_steps::entry_word` meets its contract.
use mathlib.Core.Path.{◌≡◌}
use native.Mathlib.Omega.{arith}
use Rattle.gsd_steps.specs.Steps.{of_four}
use Rattle.gsd_steps.proofs.entry_word.Goals as goal

pub returns-in-0 : goal.returns-in-0
unfolding of_four
returns-in-0 c = rw c.in-0.is

pub returns-in-1 : goal.returns-in-1
unfolding of_four
returns-in-1 c = rw c.in-1.is c.n.ensures

pub returns-in-2 : goal.returns-in-2
unfolding of_four
returns-in-2 c = rw c.in-2.is c.meta_of.ensures

pub returns-in_default : goal.returns-in_default
unfolding of_four
returns-in_default c =
    let last : c.args.i ≡ 3 = omega (arith, c.requires.word) in
    rw last
