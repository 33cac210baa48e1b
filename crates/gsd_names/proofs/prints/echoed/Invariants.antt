-- `gsd_names::prints::echoed` meets its contract. Invariant: the print is among those behind the i-th where it is found, or among those from the j-th on.
use Prim.Native.Nat.{◌+◌, ◌-◌}
use mathlib.Core.Path.{◌≡◌}
use mathlib.Core.Bool.{◌||◌}
use Rattle.gsd_names.specs.NamePrints.{among}
use Rattle.gsd_names.proofs.prints.echoed.Given as goal

abbrev pub invariant-loop-j : goal.invariant-loop-j
invariant-loop-j l = among l.print l.prints (l.i + 1) (l.count - (l.i + 1)) ≡ (l.found || among l.print l.prints l.j (l.count - l.j))
