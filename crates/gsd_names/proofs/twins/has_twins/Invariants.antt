-- `gsd_names::twins::has_twins` meets its contract. Invariants: no name before the i-th comes again; the i-th is none of those
-- behind it up to the j-th.
use Prim.Native.Nat.{◌+◌}
use mathlib.Core.Path.{◌≡◌}
use mathlib.Core.Bool.{false}
use Rattle.gsd_format.specs.Names.{bytes_of}
use Rattle.gsd_format.specs.Opening.{twins}
use Rattle.gsd_names.specs.NameLists.{part_at}
use Rattle.gsd_names.proofs.NameLists.{names, Passed}
use Rattle.gsd_names.proofs.twins.has_twins.Given as goal

abbrev pub invariant-pairs : goal.invariant-pairs
invariant-pairs l =
    let n = l.names in
    (l.found ≡ false) × (twins (names n.v10 n.image.now n.starts.now n.count 0) ≡ twins (names n.v10 n.image.now n.starts.now n.count l.i))

abbrev pub invariant-loop-j : goal.invariant-loop-j
invariant-loop-j l =
    let n = l.names in
    (l.found ≡ false) × Passed n.v10 n.image.now n.starts.now n.count (bytes_of n.image.now (part_at n.v10 n.starts.now l.i)) (l.i + 1) l.j
