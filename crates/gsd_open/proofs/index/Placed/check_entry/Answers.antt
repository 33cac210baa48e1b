-- The chain in its four parts.
use mathlib.Core.Path.{sym, ◌∙◌}
use native.Mathlib.Omega.{arith}
use Rattle.std.proofs.lemmas.Result.{err_from_is_err_and}
use Rattle.gsd_format.proofs.Refusals.{first_of, decides, first-refused}
use Rattle.gsd_open.proofs.EntryTests.{entry-by, fields-place, fields-id, late-test, early-test}
use Rattle.gsd_open.proofs.index.Placed.check_entry.Goals as goal

pub returns-in_err-check_fields-clause-value : goal.returns-in_err-check_fields-clause-value
returns-in_err-check_fields-clause-value c =
    let p = err_from_is_err_and c.from_residual.result c.from_residual.ensures.1 in
    rw (p.1, p.2) (first-refused _ _ _ c.in_err-check_fields.ensures ∙ sym (entry-by _ _ _ _ c.args.e))

pub check_room-requires-clause-place : goal.check_room-requires-clause-place
check_room-requires-clause-place c = fields-place _ _ c.args.e (sym c.in_ok-check_fields.ensures)

pub returns-in_err-check_room-clause-value : goal.returns-in_err-check_room-clause-value
returns-in_err-check_room-clause-value c =
    let p = err_from_is_err_and c.from_residual-in_err-check_room.result c.from_residual-in_err-check_room.ensures.1 in
    let late = late-test _ _ _ _ c.args.e _ c.args.self.short c.requires.least (omega (arith, c.type_inv.last c.args.e.id)) c.requires.sized
    (sym c.in_ok-check_fields.ensures) c.if-e-gt-GREATEST_FRAME.true in
    rw (p.1, p.2) (first-refused _ _ 18 c.in_err-check_room.ensures ∙ sym late)

pub returns-then-e-gt-GREATEST_FRAME-clause-value : goal.returns-then-e-gt-GREATEST_FRAME-clause-value
returns-then-e-gt-GREATEST_FRAME-clause-value c =
    sym (late-test _ _ _ _ c.args.e _ c.args.self.short c.requires.least (omega (arith, c.type_inv.last c.args.e.id)) c.requires.sized
    (sym c.in_ok-check_fields.ensures) c.if-e-gt-GREATEST_FRAME.true ∙ first_of _ 18 (sym c.in_ok-check_room.ensures))

pub misplaced-requires-clause-room : goal.misplaced-requires-clause-room
misplaced-requires-clause-room c = λ v. omega (arith, c.requires.room v, fields-id _ _ c.args.e (sym c.in_ok-check_fields.ensures))

pub returns-then-misplaced-clause-value : goal.returns-then-misplaced-clause-value
returns-then-misplaced-clause-value c =
    let good = sym c.in_ok-check_fields.ensures in
    sym (entry-by _ _ _ _ c.args.e ∙ first_of _ _ good ∙ decides _ 14 _ (sym c.misplaced.ensures.value ∙ c.if-misplaced.true))

pub check_room-requires-2-clause-place : goal.check_room-requires-2-clause-place
check_room-requires-2-clause-place c = fields-place _ _ c.args.e (sym c.in_ok-check_fields.ensures)

pub returns-clause-value : goal.returns-clause-value
returns-clause-value c =
    c.check_room-2.ensures ∙ sym (early-test _ _ _ _ c.args.e _ c.args.self.short c.requires.sized (sym c.in_ok-check_fields.ensures)
    (sym c.misplaced.ensures.value ∙ c.if-misplaced.false) c.if-e-gt-GREATEST_FRAME.false)
