-- A chunk that lies in the image is no longer than it, so its size is exact.
use Rattle.std.specs.Prelude.{Ok}
use mathlib.Core.Path.{sym, ◌∙◌, refl}
use native.Mathlib.Omega.{arith}
use Rattle.gsd_format.proofs.Readers.{chunk-held, chunk-33}
use Rattle.gsd_reader.proofs.Fitting.{holding}
use Rattle.gsd_reader.proofs.found.chunk_of.Goals as goal

pub returns-then-not-holds : goal.returns-then-not-holds
returns-then-not-holds c = sym (chunk-33 _ _ _ _ refl (sym c.holds.ensures ∙ c.if-not-holds.true))

pub returns : goal.returns
returns c =
    let held = sym c.holds.ensures ∙ c.if-not-holds.false in
    let within = holding _ _ _ held c.requires in
    (λ i. Ok (record { start = c.args.e.location; size = c.chunk_bytes.ensures.exact (omega (arith, within.within, within.short)) i })) ∙ sym (chunk-held _ _ _ _ refl held)
