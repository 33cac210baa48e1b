-- `gsd_sheet::located::Rows::nan_row` meets its contract.
use mathlib.Core.Path.{refl, sym, ◌∙◌}
use native.Mathlib.Omega.{arith}
use Rattle.gsd_format.specs.Types.{size_of}
use Rattle.gsd_format.proofs.Elements.{nan-none}
use Rattle.gsd_sheet.proofs.Rows.{located_end, located-row, located-kind, located-nan}
use Rattle.gsd_sheet.proofs.located.Rows.nan_row.Goals as goal

pub overflow_sub-size : goal.overflow_sub-size
overflow_sub-size c = (located_end c.args.self.now.located c.args.i (omega arith)).0

pub invariant_of-kind : goal.invariant_of-kind
invariant_of-kind c = record { inside = located-row c.args.self.now.located c.args.i (omega arith) }

pub any_nan-requires : goal.any_nan-requires
any_nan-requires c = omega (arith, located_end c.args.self.now.located c.args.i (omega arith))

pub returns-then-kind-eq-FLOAT : goal.returns-then-kind-eq-FLOAT
unfolding size_of
returns-then-kind-eq-FLOAT c =
    c.any_nan.ensures
    ∙ located-nan c.args.self.now.located c.args.i (omega arith) 9 4 (sym c.kind-kind.ensures ∙ c.if-kind-eq-FLOAT.true) refl (omega arith)

pub any_nan-requires-then-kind-eq-DOUBLE : goal.any_nan-requires-then-kind-eq-DOUBLE
any_nan-requires-then-kind-eq-DOUBLE c = omega (arith, located_end c.args.self.now.located c.args.i (omega arith))

pub returns-then-kind-eq-DOUBLE : goal.returns-then-kind-eq-DOUBLE
unfolding size_of
returns-then-kind-eq-DOUBLE c =
    c.any_nan-then-kind-eq-DOUBLE.ensures
    ∙ located-nan c.args.self.now.located c.args.i (omega arith) 10 8 (sym c.kind-kind.ensures ∙ c.if-kind-eq-DOUBLE.true) refl (omega arith)

pub returns : goal.returns
returns c =
    let kind = located-kind c.args.self.now.located c.args.i (omega arith) in
    sym (nan-none _ _ _ 0 (λ e. c.if-kind-eq-FLOAT.false (c.kind-kind.ensures ∙ sym kind ∙ e))
    (λ e. c.if-kind-eq-DOUBLE.false (c.kind-kind.ensures ∙ sym kind ∙ e)))
