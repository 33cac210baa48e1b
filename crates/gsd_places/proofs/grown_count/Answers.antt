-- `gsd_places::grown_count` meets its contract. Invariant: doubling goes on to the same count.
use Prim.Native.Nat.{◌*◌}
use mathlib.Core.Path.{sym, ap, ◌∙◌}
use native.Mathlib.Omega.{arith}
use Rattle.gsd_stores.specs.Plan.{doubled}
use Rattle.gsd_stores.proofs.Plan.{doubled-done}
use Rattle.gsd_places.proofs.Growing.{doubled-step}
use Rattle.gsd_places.proofs.grown_count.Goals as goal

pub loop-count-preserved : goal.loop-count-preserved
loop-count-preserved c = (omega arith, omega arith, doubled-step c.args.need c.loop-count.count c.loop-count.invariant.0 c.loop-count-test.true ∙ c.loop-count.invariant.2)

pub returns : goal.returns
returns c =
    record {
      answer = sym (doubled-done c.args.need c.args.need c.loop-count.count c.loop-count-test.false) ∙ c.loop-count.invariant.2
          ∙ ap (λ k. doubled c.args.need c.args.need (2 * k)) c.max-count.ensures;
      bound = omega (arith, c.loop-count.invariant.1, c.max-count.ensures);
    }
