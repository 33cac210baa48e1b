-- `gsd_names::names::Names::id_of` meets its contract. Invariant: the name is none of those before the i-th.
use mathlib.Core.Path.{sym, ◌∙◌, ap}
use native.Mathlib.Nat.{add-zero}
use Rattle.gsd_format.specs.Names.{index_of}
use Rattle.gsd_names.proofs.NameLists.{names-all, passed-more, passed_here, passed-none}
use Rattle.gsd_names.proofs.names.Names.id_of.Goals as goal

pub returns-then-same_name : goal.returns-then-same_name
returns-then-same_name c =
    let here = passed_here _ _ _ _ _ _ _ _ c.loop-i-test.true c.loop-i.invariant c.bytes.ensures
    (sym c.same_name.ensures ∙ c.if-same_name.true) in
    (c.loop-i-test.true, sym (ap (index_of _) (sym (names-all _ _ _ _)) ∙ sym (add-zero _) ∙ here))

pub loop-i-preserved : goal.loop-i-preserved
loop-i-preserved c =
    passed-more _ _ _ _ _ _ _ _ c.loop-i-test.true c.loop-i.invariant c.bytes.ensures (sym c.same_name.ensures ∙ c.if-same_name.false)

pub returns : goal.returns
returns c =
    let all = passed-none _ _ _ _ _ _ _ c.loop-i-test.false c.loop-i.auto.i-end c.loop-i.invariant in
    sym (ap (index_of _) (sym (names-all _ _ _ _)) ∙ sym (add-zero _) ∙ all)
