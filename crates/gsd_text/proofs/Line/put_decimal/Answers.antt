-- `gsd_text::Line::put_decimal` meets its contract: itoa's text is the listing's.
use native.Mathlib.Omega.{arith}
use Rattle.gsd_text.proofs.Decimals.{listed-decimal}
use Rattle.gsd_text.proofs.Line.put_decimal.Goals as goal

pub returns-clause-text : goal.returns-clause-text
returns-clause-text c =
    rw (c.put.ensures.text, c.as_bytes.ensures.value, c.format.ensures.text, listed-decimal c.args.n (omega arith))
