-- `gsd_bytes::has_magic` meets its contract: the first eight bytes are compared as an array.
use Rattle.std.proofs.Common.{◌∙◌, ap}
use Rattle.gsd_format.specs.Header.{magic}
use Rattle.gsd_format.specs.Bytes.{same}
use Rattle.gsd_bytes.proofs.Methods.{same-pointwise}
use Rattle.gsd_bytes.proofs.has_magic.Goals as goal

pub returns : goal.returns
returns c = c.eq.ensures ∙ same-pointwise c.array_at.result magic ∙ ap (λ l. same l magic) c.array_at.ensures
