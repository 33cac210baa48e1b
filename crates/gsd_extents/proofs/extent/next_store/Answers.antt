-- `gsd_extents::extent::next_store` meets its contract.
use native.Mathlib.Omega.{arith}
use Rattle.gsd_extents.proofs.Words.{place-within}
use Rattle.gsd_extents.proofs.extent.next_store.Goals as goal

pub put_word-requires : goal.put_word-requires
put_word-requires c = omega (arith, c.place.ensures, place-within c.args.extent c.args.w c.requires.word)
