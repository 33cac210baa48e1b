-- `gsd_names::twins::has_twins` meets its contract. Invariants: no name before the i-th comes again; the i-th is none of those
-- behind it up to the j-th.
use mathlib.Core.Path.{refl, sym, ◌∙◌, ap}
use Rattle.gsd_format.specs.Opening.{twins}
use Rattle.gsd_names.proofs.NameLists.{names-all, passed-more, passed_here, passed-all, twins-here, twins-behind, twins-none}
use Rattle.gsd_names.proofs.NamePrints.{twins-silent}
use Rattle.gsd_names.proofs.twins.has_twins.Goals as goal
use Rattle.gsd_names.proofs.twins.has_twins.Goals.{then-echoed+else-loop-j-test, else-echoed}

pub loop-j-preserved : goal.loop-j-preserved
loop-j-preserved c =
    (c.loop-j.invariant.0, passed-more _ _ _ _ _ _ _ _ c.loop-j-test.true c.loop-j.invariant.1 refl (sym c.are_twins.ensures ∙ c.if-are_twins.false))

pub pairs-preserved : goal.pairs-preserved
pairs-preserved c =
    let here = c.pairs-test.true in
    let before = c.pairs.invariant in
    elim c.if-echoed.branch [
      | then-echoed+else-loop-j-test w ↦
          let all = passed-all _ _ _ _ _ _ _ w.loop-j-test.false w.loop-j.invariant.1 in
          (w.found-is ∙ w.loop-j.invariant.0, before.1 ∙ twins-behind _ _ _ _ _ _ _ here refl all w.loop-j-test.false)
      | else-echoed w ↦
          (w.found-is ∙ before.0, before.1 ∙ twins-silent _ _ _ _ _ _ c.requires here (sym c.echoed.ensures ∙ w.if-echoed.false))
    ]

pub returns-after-pairs : goal.returns-after-pairs
returns-after-pairs c =
    let inv = c.pairs.invariant in
    inv.0 ∙ sym (ap twins (sym (names-all _ _ _ _)) ∙ inv.1 ∙ twins-none _ _ _ _ _ c.pairs-test.false)

pub returns-then-are_twins : goal.returns-then-are_twins
returns-then-are_twins c =
    let same = sym c.are_twins.ensures ∙ c.if-are_twins.true in
    let again = passed_here _ _ _ _ _ _ _ _ c.loop-j-test.true c.loop-j.invariant.1 refl same in
    sym (ap twins (sym (names-all _ _ _ _)) ∙ c.pairs.invariant.1 ∙ twins-here _ _ _ _ _ _ _ c.pairs-test.true refl again c.loop-j-test.true)
