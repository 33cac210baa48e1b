-- The head is magic, time and shape in a row.
use mathlib.Core.Path.{refl, ◌∙◌, ap}
use Rattle.gsd_format.specs.Bytes.{stored}
use Rattle.gsd_xdr.specs.Xdr.{be_bytes}
use Rattle.gsd_body.proofs.Bodies.{store-more}
use Rattle.gsd_nchilada.proofs.Files.{head-parts}
use Rattle.gsd_nchilada.proofs.head.put_head.Goals as goal

pub returns : goal.returns
unfolding be_bytes
returns c =
    store-more _ _ _ 0 12 _ _ (store-more _ _ _ 0 4 _ _ c.put_be.ensures refl c.put_be-2.ensures) refl c.put_shape.ensures
    ∙ ap (stored _ 0) (head-parts _ _)
