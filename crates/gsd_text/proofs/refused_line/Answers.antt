-- `gsd_text::refused_line` meets its contract.
use Rattle.std.proofs.Common.{append_assoc}
use Rattle.gsd_format.specs.Ascii.{ascii}
use Rattle.gsd_format.specs.Listing.{fields}
use Rattle.gsd_text.proofs.refused_line.Goals as goal

pub returns : goal.returns
unfolding ascii fields
returns c = rw (c.ended.ensures, c.put_field.ensures.text, c.put.ensures.text, c.new-line.ensures) (simp append_assoc)
