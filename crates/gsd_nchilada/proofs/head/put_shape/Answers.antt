-- The three stand one behind the other.
use mathlib.Core.Path.{refl}
use Rattle.gsd_xdr.specs.Xdr.{be_bytes}
use Rattle.gsd_body.proofs.Bodies.{store-more}
use Rattle.gsd_nchilada.proofs.head.put_shape.Goals as goal

pub returns : goal.returns
unfolding be_bytes
returns c = store-more _ _ _ 12 24 _ _ (store-more _ _ _ 12 20 _ _ c.put_be.ensures refl c.put_be-2.ensures) refl c.put_be-3.ensures
