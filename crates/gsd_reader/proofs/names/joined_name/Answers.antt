-- The first zero closes the name, or there is none, or the list ends here.
use borrow.Author.Rules.{rules}
use Rattle.gsd_reader.proofs.NextNames.{joined_end, joined-open, joined-name}
use Rattle.gsd_reader.proofs.names.joined_name.Goals as goal

pub returns-then-end-start : goal.returns-then-end-start
returns-then-end-start c = joined_end _ _ _ _ c.first_zero-end.ensures (search rules) c.if-end-start.true

pub returns-then-end-stop : goal.returns-then-end-stop
returns-then-end-stop c = joined-open _ _ _ _ c.first_zero-end.ensures (search rules) c.if-end-stop.true

pub returns : goal.returns
returns c = joined-name _ _ _ _ c.first_zero-end.ensures c.if-end-start.false c.if-end-stop.false
