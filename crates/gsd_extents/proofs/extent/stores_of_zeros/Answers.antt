-- `gsd_extents::extent::stores_of_zeros` meets its contract. Invariant: the stores of the words from w up to the i-th are made,
-- and the image is that after them.
use mathlib.Core.Path.{sym, ◌∙◌}
use Rattle.gsd_extents.proofs.Words.{word_number}
use Rattle.gsd_extents.proofs.Tasks.{made_none, made_one, made_more}
use Rattle.gsd_extents.proofs.extent.stores_of_zeros.Goals as goal

pub loop-i-init : goal.loop-i-init
loop-i-init c = made_none _ _ _ _

pub next_store-requires-clause-value : goal.next_store-requires-clause-value
next_store-requires-clause-value c = sym (word_number _ _ c.args.extent c.loop-i.i c.requires.number ∙ c.requires.zero)

pub loop-i-preserved : goal.loop-i-preserved
loop-i-preserved c = rw c.next_store.ensures.next (made_more _ _ _ _ _ _ c.loop-i.invariant _ _ (made_one _ _ _ _))
