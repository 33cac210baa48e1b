-- The next probe is of one of the slots, and they lie in the image.
use mathlib.Core.Path.{refl, sym, ◌∙◌}
use native.Mathlib.Omega.{arith}
use Rattle.gsd_format.proofs.Entries.{slots-each}
use Rattle.gsd_search.proofs.Progress.{next-within, next-few}
use Rattle.gsd_search.proofs.probing.Search.probe.Goals as goal

pub overflow_add-probes : goal.overflow_add-probes
overflow_add-probes c = omega (arith, next-few _ _ _ _ c.requires (omega (arith, c.args.self.now.fits.end)))

pub overflow_mul-i : goal.overflow_mul-i
overflow_mul-i c = omega (arith, next-within _ _ _ _ c.requires, c.args.self.now.fits.end)

pub overflow_add-self : goal.overflow_add-self
overflow_add-self c = omega (arith, next-within _ _ _ _ c.requires, c.args.self.now.fits.end)

pub entry_at-requires : goal.entry_at-requires
entry_at-requires c = omega (arith, next-within _ _ _ _ c.requires, c.args.self.now.fits.slots)

pub returns : goal.returns
returns c = record { value = c.entry_at.ensures ∙ sym (slots-each c.args.self.now.query.count _ c.args.self.now.query.index _ (next-within _ _ _ _ c.requires)); counted = refl }
