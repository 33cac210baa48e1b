-- `gsd_places::grown_count` meets its contract. Invariant: doubling goes on to the same count.
use Prim.Native.Nat.{◌*◌, ◌-◌, ◌≤◌, max}
use mathlib.Core.Path.{◌≡◌}
use Rattle.gsd_stores.specs.Plan.{doubled}
use Rattle.gsd_places.proofs.grown_count.Given as goal

abbrev pub invariant-loop-count : goal.invariant-loop-count
invariant-loop-count l = (1 ≤ l.count) × (l.count ≤ max l.initial.count (2 * l.need)) × (doubled l.need l.need l.count ≡ doubled l.need l.need l.initial.count)

abbrev pub decreases-loop-count : goal.decreases-loop-count
decreases-loop-count l = l.need - l.count
