-- `gsd_create::request_of` meets its contract: each return by the tests on the way to it.
use mathlib.Core.Path.{◌≡◌, sym, ◌∙◌}
use native.Mathlib.Omega.{arith}
use lib.Dec.{ltb}
use borrow.Author.Tests.{lt-ltb, le-ltb}
use Rattle.gsd_format.specs.Refusals.{◌⇒◌}
use Rattle.gsd_format.specs.Create.{create_test, fresh_namelist_end}
use Rattle.gsd_format.proofs.Refusals.{left-holds, right-holds}
use Rattle.gsd_format.proofs.Create.{test-length, test-blocks, test-texts, test-room}
use Rattle.gsd_create.proofs.request_of.Goals.{then-slots-gt-MOST_UNITS-via-then-slots-gt-MOST_UNITS, then-slots-gt-MOST_UNITS-via-else-slots-gt-MOST_UNITS+then-segments-gt-MOST_UNITS}
use Rattle.gsd_create.proofs.request_of.Goals.{then-bad_text-via-then-bad_text, then-bad_text-via-else-bad_text+then-bad_text-2}
use Rattle.gsd_create.proofs.request_of.Goals as goal

pub returns-then-len-gt-GREATEST_LENGTH-clause-number : goal.returns-then-len-gt-GREATEST_LENGTH-clause-number
returns-then-len-gt-GREATEST_LENGTH-clause-number c = sym (test-length _ _ _ _ _ c.if-len-gt-GREATEST_LENGTH.true)

pub returns-then-slots-gt-MOST_UNITS-clause-number : goal.returns-then-slots-gt-MOST_UNITS-clause-number
returns-then-slots-gt-MOST_UNITS-clause-number c =
    sym (test-blocks _ _ _ _ _ c.if-len-gt-GREATEST_LENGTH.false (elim c.then-slots-gt-MOST_UNITS.branch [
      | then-slots-gt-MOST_UNITS-via-then-slots-gt-MOST_UNITS w ↦ left-holds _ _ (lt-ltb _ _ w.if-slots-gt-MOST_UNITS.true)
      | then-slots-gt-MOST_UNITS-via-else-slots-gt-MOST_UNITS+then-segments-gt-MOST_UNITS w ↦ right-holds _ _ (lt-ltb _ _ w.if-segments-gt-MOST_UNITS.true)
    ]))

pub returns-then-bad_text-clause-number : goal.returns-then-bad_text-clause-number
returns-then-bad_text-clause-number c =
    sym (test-texts _ _ _ _ _ (omega arith) (omega arith) (omega arith) (elim c.then-bad_text.branch [
      | then-bad_text-via-then-bad_text w ↦ left-holds _ _ (sym c.bad_text.ensures ∙ w.if-bad_text.true)
      | then-bad_text-via-else-bad_text+then-bad_text-2 w ↦ right-holds _ _ (sym w.bad_text-else-bad_text.ensures ∙ w.if-bad_text-2.true)
    ]))

pub returns-then-len-namelist_end-clause-number : goal.returns-then-len-namelist_end-clause-number
unfolding ◌⇒◌
returns-then-len-namelist_end-clause-number c =
    let x = c.args in
    let decides : create_test x.len x.application.now x.schema.now x.slots x.segments ≡ (ltb x.len (fresh_namelist_end x.slots x.segments) ⇒ 52) =
    test-room _ _ _ _ _ (omega arith) (omega arith) (omega arith)
    (sym c.bad_text.ensures ∙ c.if-bad_text.false) (sym c.bad_text-else-bad_text.ensures ∙ c.if-bad_text-2.false) in
    sym (decides ∙ rw (sym c.namelist_end.ensures) (simp (lt-ltb _ _ c.if-len-namelist_end.true)))

pub returns-clause-number : goal.returns-clause-number
unfolding ◌⇒◌
returns-clause-number c =
    let x = c.args in
    let decides : create_test x.len x.application.now x.schema.now x.slots x.segments ≡ (ltb x.len (fresh_namelist_end x.slots x.segments) ⇒ 52) =
    test-room _ _ _ _ _ (omega arith) (omega arith) (omega arith)
    (sym c.bad_text.ensures ∙ c.if-bad_text.false) (sym c.bad_text-else-bad_text.ensures ∙ c.if-bad_text-2.false) in
    sym (decides ∙ rw (sym c.namelist_end.ensures) (simp (le-ltb _ _ c.if-len-namelist_end.false)))
