-- `gsd_extents::extent::over_byte` meets its contract.
use mathlib.Core.Path.{sym, ◌∙◌}
use Rattle.gsd_extents.proofs.Words.{over_below, over-inside, over-above}
use borrow.Author.Rules.{rules}
use Rattle.gsd_extents.proofs.extent.over_byte.Goals as goal

pub returns-then-i-at-clause-answer : goal.returns-then-i-at-clause-answer
returns-then-i-at-clause-answer c =
    let x = c.args in
    c.from.ensures ∙ sym (over_below x.image.now x.sheet.now x.at x.from x.until (search rules) (search rules) x.i (search rules))

pub returns-then-k-until-clause-answer : goal.returns-then-k-until-clause-answer
returns-then-k-until-clause-answer c =
    let x = c.args in
    let over = over-inside x.image.now x.sheet.now x.at x.from x.until (search rules) (search rules) x.i in
    c.from-then-k-until.ensures ∙ sym (over (search rules) (search rules) (search rules))

pub returns-clause-answer : goal.returns-clause-answer
returns-clause-answer c =
    let x = c.args in
    c.from-2.ensures ∙ sym (over-above x.image.now x.sheet.now x.at x.from x.until (search rules) (search rules) x.i (search rules))
