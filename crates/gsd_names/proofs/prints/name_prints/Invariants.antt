-- `gsd_names::prints::name_prints` meets its contract. Invariant: the prints before the i-th are those of the names.
use mathlib.Core.Path.{◌≡◌}
use lib.ListN.{length}
use Rattle.gsd_names.specs.NamePrints.{Printed}
use Rattle.gsd_names.proofs.prints.name_prints.Given as goal

abbrev pub invariant-loop-i : goal.invariant-loop-i
invariant-loop-i g l =
    (length l.prints ≡ length l.initial.prints) × Printed g.P.Print.print l.names.v10 l.names.image.now l.names.starts.now l.i l.prints
