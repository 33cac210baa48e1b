-- What is left of the slots, halved further, ends where they do, and each probe is the next.
use Rattle.gsd_search.specs.Queries.{slots_for}
use Rattle.gsd_search.proofs.Progress.{Halving}
use Rattle.gsd_search.proofs.probing.Search.halve.Given as goal

abbrev pub invariant-loop-n : goal.invariant-loop-n
invariant-loop-n l = let q = l.self.query in
    Halving q.version q.frame q.id (slots_for l.self.image.now q) l.lo l.n l.probes

abbrev pub decreases-loop-n : goal.decreases-loop-n
decreases-loop-n l = l.n
