-- Four numbers in a row.
use mathlib.Core.Path.{refl}
use Rattle.gsd_format.specs.Bytes.{le_bytes}
use Rattle.gsd_format.proofs.Bytes.{store-more}
use Rattle.gsd_rawarray.proofs.into.put_shape.Goals as goal

pub returns : goal.returns
unfolding le_bytes
returns c =
    store-more _ _ _ 32 56 _ _
    (store-more _ _ _ 32 48 _ _ (store-more _ _ _ 32 40 _ _ c.put_word.ensures refl c.put_word-2.ensures) refl c.put_word-3.ensures) refl
    c.put_word-4.ensures
