-- `gsd_fingerprint::mixed` meets its contract: the two products and their sum fit.
use native.Mathlib.Omega.{arith}
use borrow.Author.Rules.{rules}
use Rattle.gsd_fingerprint.specs.Fingerprint.{mixed, stirred}
use Rattle.gsd_fingerprint.proofs.Lanes.{upper-half, stirred-fits}
use Rattle.gsd_fingerprint.proofs.mixed.Goals as goal

pub overflow_add-result : goal.overflow_add-result
overflow_add-result c = record { fits = stirred-fits _ _ (omega arith) (upper-half c.args.h c.args.w (omega arith) (omega arith)) }

pub returns : goal.returns
unfolding mixed stirred
returns c = search rules
