-- `gsd_steps::move_extent` meets its contract.
use Prim.Native.Nat.{◌+◌, ◌*◌, ◌-◌, ◌/◌}
use mathlib.Core.Path.{◌≡◌, sym, ◌∙◌, ap}
use native.Mathlib.Omega.{arith}
use borrow.Author.Tests.{ne_eqb}
use Rattle.gsd_extents.specs.Extents.{number, copied}
use Rattle.gsd_steps.specs.Steps.{move_extent}
use Rattle.gsd_steps.proofs.Steps.{block-stays}
use Rattle.gsd_steps.proofs.move_extent.Goals as goal

pub returns-then-b-eq0 : goal.returns-then-b-eq0
returns-then-b-eq0 c = c.number_extent.ensures ∙ sym (block-stays _ _ c.if-b-eq0.true)

pub returns-in-0 : goal.returns-in-0
unfolding move_extent
returns-in-0 c =
    let b = c.args.b in
    let moves = ne_eqb b.count 0 c.if-b-eq0.false in
    let size = c.words_of-listed.ensures ∙ ap (λ n. (n + 7) / 8) c.saturating_sub.ensures in
    c.copy_extent.ensures ∙ ap (λ n. copied b.to n b.from b.until) size ∙ rw (c.in-0.is, moves)

pub returns-in-1 : goal.returns-in-1
unfolding move_extent
returns-in-1 c =
    let b = c.args.b in
    let moves = ne_eqb b.count 0 c.if-b-eq0.false in
    let size = c.words_of-listed.ensures ∙ ap (λ n. (n + 7) / 8) c.saturating_sub.ensures in
    let left = c.saturating_sub-in-1.ensures ∙ ap (λ n. b.words - n) size in
    c.number_extent-in-1.ensures ∙ (λ i. number (b.to + 8 * size i) (left i) 0) ∙ rw (c.in-1.is, moves)

pub returns-in-2 : goal.returns-in-2
unfolding move_extent
returns-in-2 c =
    let moves = ne_eqb c.args.b.count 0 c.if-b-eq0.false in c.number_extent-in-2.ensures ∙ rw (c.in-2.is, moves)

pub returns-in_default : goal.returns-in_default
unfolding move_extent
returns-in_default c =
    let moves = ne_eqb c.args.b.count 0 c.if-b-eq0.false in
    let last : c.args.k ≡ 3 = omega (arith, c.requires.which) in
    c.number_extent-in_default.ensures ∙ rw (last, moves)
