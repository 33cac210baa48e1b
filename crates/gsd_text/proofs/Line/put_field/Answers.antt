-- `gsd_text::Line::put_field` meets its contract: a space, and the number behind it.
use Rattle.std.proofs.Common.{append_assoc}
use Rattle.gsd_format.specs.Ascii.{ascii}
use Rattle.gsd_text.proofs.Line.put_field.Goals as goal

pub returns-clause-text : goal.returns-clause-text
unfolding ascii
returns-clause-text c = rw (c.put_decimal.ensures.text, c.put.ensures.text, append_assoc)
