-- `gsd_fingerprint::folded` meets its contract.
use borrow.Author.Rules.{rules}
use Rattle.gsd_fingerprint.specs.Fingerprint.{folded}
use Rattle.gsd_fingerprint.proofs.folded.Goals as goal

pub returns : goal.returns
unfolding folded
returns c = search rules
