-- The chunk's size is exact where it could lie in the image.
use mathlib.Core.Path.{sym, ◌∙◌}
use native.Mathlib.Omega.{arith}
use Rattle.gsd_reader.proofs.Fitting.{not-type, not_there, holds-last}
use Rattle.gsd_reader.proofs.fit.holds.Goals as goal

pub returns-then-not-known : goal.returns-then-not-known
returns-then-not-known c = sym (not-type _ _ _ (sym c.known.ensures ∙ c.if-not-known.true))

pub returns-then-len-e : goal.returns-then-len-e
returns-then-len-e c = sym (not_there _ _ _ (omega (arith, c.if-len-e.true)))

pub returns : goal.returns
returns c =
    holds-last _ _ _ c.requires (sym c.known.ensures ∙ c.if-not-known.false)
    (omega (arith, c.if-len-e.false)) _ c.chunk_bytes.ensures
