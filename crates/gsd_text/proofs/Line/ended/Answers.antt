-- `gsd_text::Line::ended` meets its contract.
use Rattle.gsd_format.specs.Ascii.{ascii}
use Rattle.gsd_text.proofs.Line.ended.Goals as goal

pub returns : goal.returns
unfolding ascii
returns c = c.put.ensures.text
