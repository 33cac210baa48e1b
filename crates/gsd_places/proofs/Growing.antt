-- Doubling, step by step, as the loop does it.
use Prim.Native.Nat.{ℕ, zero, suc, ◌*◌, ◌≤◌, ◌<◌}
use mathlib.Core.Path.{◌≡◌, sym, ◌∙◌}
use native.Mathlib.Omega.{arith}
use Rattle.gsd_stores.specs.Plan.{doubled}
use Rattle.gsd_stores.proofs.Plan.{doubled-on, doubled-fuel}

-- a count that is not enough is doubled
pub doubled-step : (need c : ℕ) → 1 ≤ c → c < need → doubled need need (2 * c) ≡ doubled need need c
doubled-step zero c h l = absurd (omega arith)
doubled-step (suc n) c h l =
    doubled-fuel (suc n) n (suc n) (2 * c) (omega arith) (omega arith) (omega arith) ∙ sym (doubled-on n (suc n) c l)
