-- Invariant: what is found before the place is what is found before the i-th entry.
use mathlib.Core.Path.{◌≡◌}
use Rattle.gsd_format.specs.Readers.{last_before}
use Rattle.gsd_search.specs.Queries.{slots_for}
use Rattle.gsd_reader.proofs.newest.last_before.Given as goal

abbrev pub invariant-loop-i : goal.invariant-loop-i
invariant-loop-i l = let q = l.s.query in
    last_before q.id (slots_for l.s.image.now q) l.place ≡ last_before q.id (slots_for l.s.image.now q) l.i
