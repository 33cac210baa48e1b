-- No type before this one has RawArray's type and the width.
use Rattle.std.proofs.Common.{◌≡◌, ℕ, ◌<◌}
use Rattle.gsd_format.specs.Types.{size_of}
use Rattle.gsd_rawarray.specs.File.{raw_type}
use Rattle.gsd_rawarray.proofs.kinds.kind_of.Given as goal

abbrev pub invariant-loop-kind : goal.invariant-loop-kind
invariant-loop-kind l = (k : ℕ) → 0 < k → k < l.kind → raw_type k ≡ l.raw → size_of k ≡ l.width → ⊥
