-- Each probe is the next; the entries passed are of the frame and have other ids.
use Rattle.gsd_search.specs.Queries.{slots_for}
use Rattle.gsd_search.proofs.Progress.{Walking}
use Rattle.gsd_search.proofs.probing.Search.walk.Given as goal

abbrev pub invariant-loop-i : goal.invariant-loop-i
invariant-loop-i l = let q = l.self.query in
    Walking q.version q.frame q.id (slots_for l.self.image.now q) l.i l.probes
