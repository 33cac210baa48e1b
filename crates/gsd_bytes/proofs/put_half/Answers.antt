-- `gsd_bytes::put_half` meets its contract: it stores the lower half of a word's bytes.
use Rattle.std.proofs.Common.{◌∙◌, ap, take}
use Rattle.gsd_format.specs.Bytes.{stored}
use Rattle.gsd_bytes.proofs.Methods.{bytes-four}
use Rattle.gsd_bytes.proofs.put_half.Goals as goal

pub returns : goal.returns
returns c = c.put_text.ensures ∙ ap (stored _ _) (ap (take 4) c.to_le_bytes.ensures ∙ bytes-four _)
