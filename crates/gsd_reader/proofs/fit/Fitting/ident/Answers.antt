-- The test takes a name that is the one sought, so the first of them has its id.
use mathlib.Core.Path.{◌≡◌, refl, sym, ap}
use mathlib.Core.Bool.{true, false}
use Prim.Native.Nat.{ℕ, ◌<◌}
use native.Mathlib.Omega.{arith}
use lib.ListN.{length, get_or}
use borrow.Author.Rules.{rules}
use Rattle.gsd_format.specs.Bytes.{same}
use Rattle.gsd_format.specs.Lookup.{nowhere}
use Rattle.gsd_format.specs.Names.{bytes_of}
use Rattle.gsd_format.specs.Readers.{parts_by}
use Rattle.gsd_reader.proofs.NextNames.{part-bytes, none-all, none-before, name-found}
use Rattle.gsd_reader.proofs.fit.Fitting.ident.Goals as goal

pub returns-in_default : goal.returns-in_default
returns-in_default c =
    let s = c.args.self.now in
    let ps = parts_by s.reader.now s.image.now in
    let differ : ((i : ℕ) → i < length ps → same c.args.name.now (bytes_of s.image.now (get_or ps i nowhere)) ≡ false) =
    λ i l. let h = c.in_default.ensures i l in let b = part-bytes s.reader.now s.image.now (get_or ps i nowhere) in search rules in
    sym (none-all s.reader.now s.image.now _ _ (none-before s.reader.now s.image.now _ _ (omega arith) differ) refl)

pub returns : goal.returns
returns c =
    let s = c.args.self.now in
    let ps = parts_by s.reader.now s.image.now in
    let name = c.args.name.now in
    let found = c.in-Some.ensures in
    let b = part-bytes s.reader.now s.image.now c.in-Some.found.part in
    let is : (same name (bytes_of s.image.now c.in-Some.found.part) ≡ true) = let h = found.yes in search rules in
    let differ : ((i : ℕ) → i < c.in-Some.found.id → same name (bytes_of s.image.now (get_or ps i nowhere)) ≡ false) =
    λ i l. let h = found.before i l in let b = part-bytes s.reader.now s.image.now (get_or ps i nowhere) in search rules in
    let none = none-before s.reader.now s.image.now name _ (omega (arith, found.there)) differ in
    sym (name-found s.reader.now s.image.now name _ found.there _ (ap (bytes_of s.image.now) found.here) none is)
