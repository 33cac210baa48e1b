-- The print by size and last byte is what `small_print` says.
use Rattle.gsd_names.specs.NamePrints.{small_print}
use Rattle.gsd_names.proofs.NamePrints.{small-none}
use Rattle.gsd_names.proofs.prints.SmallPrint.of.Goals as goal

pub returns-then-n-eq0 : goal.returns-then-n-eq0
returns-then-n-eq0 c = small-none _ c.if-n-eq0.true

pub returns : goal.returns
unfolding small_print
returns c = rw c.from.ensures
