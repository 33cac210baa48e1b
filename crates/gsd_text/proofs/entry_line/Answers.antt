-- `gsd_text::entry_line` meets its contract: six numbers, five of them behind a space, and a newline.
use Rattle.std.proofs.Common.{append_assoc}
use Rattle.gsd_format.specs.Ascii.{ascii}
use Rattle.gsd_format.specs.Listing.{fields, entry_line}
use Rattle.gsd_text.proofs.entry_line.Goals as goal

pub returns : goal.returns
unfolding ascii fields entry_line
returns c =
    rw (
      c.ended.ensures,
      c.put_field-5.ensures.text,
      c.put_field-4.ensures.text,
      c.put_field-3.ensures.text,
      c.put_field-2.ensures.text,
      c.put_field.ensures.text,
      c.put_decimal.ensures.text,
      c.new-line.ensures,
    ) (simp append_assoc)
