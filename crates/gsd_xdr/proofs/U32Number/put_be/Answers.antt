-- The number turned round is stored little-endian.
use mathlib.Core.Path.{◌∙◌, ap}
use Rattle.gsd_format.specs.Bytes.{le_bytes, stored}
use Rattle.gsd_xdr.proofs.Xdr.{swapped-single}
use Rattle.gsd_xdr.proofs.U32Number.put_be.Goals as goal

pub returns : goal.returns
returns c = c.put_half.ensures ∙ ap (stored _ _) (ap (le_bytes 4) c.swap_bytes.ensures ∙ swapped-single c.args.self)
