-- The test takes the n-th name.
use mathlib.Core.Path.{◌≡◌, sym}
use Prim.Native.Nat.{ℕ, ◌<◌}
use lib.ListN.{length}
use borrow.Author.Rules.{rules}
use Rattle.gsd_format.specs.Readers.{parts_by}
use Rattle.gsd_reader.proofs.NextNames.{part-here, part_unlisted}
use Rattle.gsd_reader.proofs.fit.Fitting.part.Goals as goal

pub returns-in_default : goal.returns-in_default
returns-in_default c =
    let s = c.args.self.now in
    let ps = parts_by s.reader.now s.image.now in
    let differ : ((i : ℕ) → i < length ps → i ≡ c.args.n → ⊥) = λ i l e. let h = c.in_default.ensures i l in search rules in
    sym (part_unlisted s.reader.now s.image.now _ differ)

pub returns : goal.returns
returns c =
    let s = c.args.self.now in
    let found = c.in-Some.ensures in
    let is : (c.in-Some.found.id ≡ c.args.n) = let h = found.yes in search rules in
    sym (part-here s.reader.now s.image.now _ _ is found.there _ (sym found.here))
