-- `gsd_bytes::put_word` meets its contract: it stores a word's bytes.
use Rattle.std.proofs.Common.{◌∙◌, ap}
use Rattle.gsd_format.specs.Bytes.{stored}
use Rattle.gsd_bytes.proofs.Methods.{bytes-eight}
use Rattle.gsd_bytes.proofs.put_word.Goals as goal

pub returns : goal.returns
returns c = c.put_text.ensures ∙ ap (stored _ _) (c.to_le_bytes.ensures ∙ bytes-eight _)
