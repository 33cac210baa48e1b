-- `gsd_names::prints::echoed` meets its contract. Invariant: the print is among those behind the i-th where it is found, or among those from the j-th on.
use mathlib.Core.Path.{sym, ◌∙◌}
use Rattle.gsd_names.proofs.NamePrints.{among-more, among-found}
use Rattle.gsd_names.proofs.prints.echoed.Goals as goal

pub loop-j-preserved : goal.loop-j-preserved
loop-j-preserved c = c.loop-j.invariant ∙ among-more c.loop-j.found _ _ _ _ c.loop-j-test.true

pub returns : goal.returns
returns c = sym (c.loop-j.invariant ∙ among-found c.loop-j.found _ _ _ _ c.loop-j-test.false)
