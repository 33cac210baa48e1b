-- `gsd_names::list::keep` meets its contract: beyond the last place nothing is set.
use mathlib.Core.Path.{sym}
use lib.Seq.{set_out}
use borrow.Author.Rules.{rules}
use Rattle.gsd_names.proofs.list.keep.Goals as goal

pub returns-else-i-lt-PLACES : goal.returns-else-i-lt-PLACES
returns-else-i-lt-PLACES c = sym (set_out _ _ _ (search rules))
