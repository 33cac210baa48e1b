-- `gsd_text::counts_line` meets its contract: three labels and numbers, each put behind the ones before.
use Rattle.std.proofs.Common.{append_assoc}
use Rattle.gsd_format.specs.Ascii.{ascii}
use Rattle.gsd_format.specs.Listing.{counts_line}
use Rattle.gsd_text.proofs.counts_line.Goals as goal

pub returns : goal.returns
unfolding ascii counts_line
returns c =
    rw (
      c.ended.ensures,
      c.put_decimal-3.ensures.text,
      c.put-3.ensures.text,
      c.put_decimal-2.ensures.text,
      c.put-2.ensures.text,
      c.put_decimal.ensures.text,
      c.put.ensures.text,
      c.new-line.ensures,
    ) (simp append_assoc)
