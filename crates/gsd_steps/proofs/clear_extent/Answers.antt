-- `gsd_steps::clear_extent` meets its contract.
use Prim.Native.Nat.{◌+◌, ◌*◌, ◌-◌, ◌/◌, min}
use mathlib.Core.Path.{◌≡◌, sym, ◌∙◌, ap}
use native.Mathlib.Omega.{arith}
use Rattle.gsd_extents.specs.Extents.{number, copied}
use Rattle.gsd_steps.specs.Numbers.{entries_end_in, names_end_in}
use Rattle.gsd_steps.specs.Steps.{end_word, words_behind, clear_extent}
use Rattle.gsd_steps.proofs.clear_extent.Goals as goal

pub returns-in-0 : goal.returns-in-0
unfolding clear_extent
returns-in-0 c =
    let p = c.args.plan.now in
    c.number_extent.ensures ∙ ap (λ n. number (entries_end_in p) (n / 8) 0) c.saturating_sub-free.ensures ∙ ap (clear_extent p) (sym c.in-0.is)

pub returns-in-1 : goal.returns-in-1
unfolding clear_extent
returns-in-1 c =
    let p = c.args.plan.now in
    let kept : c.min-kept.result ≡ min 1 (words_behind p) = omega (arith, c.min-kept.ensures, c.saturating_sub-words.ensures) in
    c.copy_extent.ensures ∙ ap (λ n. copied (end_word p) n (end_word p) (names_end_in p)) kept ∙ ap (clear_extent p) (sym c.in-1.is)

pub returns-in_default : goal.returns-in_default
unfolding clear_extent
returns-in_default c =
    let p = c.args.plan.now in
    let kept : c.min-kept.result ≡ min 1 (words_behind p) = omega (arith, c.min-kept.ensures, c.saturating_sub-words.ensures) in
    let last : 2 ≡ c.args.k = omega (arith, c.requires.which) in
    let left : c.saturating_sub-words.result / 8 - c.min-kept.result ≡ words_behind p - 1 = omega (arith, c.min-kept.ensures, c.saturating_sub-words.ensures) in
    c.number_extent-in_default.ensures ∙ (λ i. number (end_word p + 8 * kept i) (left i) 0) ∙ ap (clear_extent p) last
