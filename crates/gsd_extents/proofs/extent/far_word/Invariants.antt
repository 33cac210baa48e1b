-- `gsd_extents::extent::far_word` meets its contract. Invariant: v is the number that the bytes from the k-th on make.
use Prim.Native.Nat.{◌+◌, ◌-◌, ◌^◌, ◌<◌}
use mathlib.Core.Path.{◌≡◌}
use Rattle.gsd_format.specs.Bytes.{le}
use Rattle.gsd_extents.specs.Exec.{text_of}
use Rattle.gsd_extents.proofs.extent.far_word.Given as goal

abbrev pub invariant-loop-k : goal.invariant-loop-k
invariant-loop-k l = (l.v ≡ le (8 - l.k) (text_of l.sheet l.image l.extent) (l.at + l.k)) × (l.v < 256 ^ (8 - l.k))
