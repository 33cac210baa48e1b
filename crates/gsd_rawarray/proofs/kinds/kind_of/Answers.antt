-- The first type that has both is the only one, and where none has them there is none.
use mathlib.Core.Path.{sym, ◌∙◌}
use native.Mathlib.Omega.{arith}
use Rattle.gsd_rawarray.proofs.Types.{found-kind, no-kind}
use Rattle.gsd_rawarray.proofs.kinds.kind_of.Goals as goal

pub returns-then-size_of-width : goal.returns-then-size_of-width
returns-then-size_of-width c = (
  found-kind _ _ c.loop-kind.kind (omega arith) (sym c.raw_type.ensures ∙ c.if-raw_type-raw.true) (sym c.size_of.ensures.answer ∙ c.if-size_of-width.true),
  omega arith,
)

pub returns : goal.returns
returns c = no-kind _ _ (λ k some few. c.loop-kind.invariant k some (omega arith))
