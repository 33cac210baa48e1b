-- `gsd_names::names::Names::id_of` meets its contract. Invariant: the name is none of those before the i-th.
use Rattle.gsd_names.proofs.NameLists.{Passed}
use Rattle.gsd_names.proofs.names.Names.id_of.Given as goal

abbrev pub invariant-loop-i : goal.invariant-loop-i
invariant-loop-i l = Passed l.self.v10 l.self.image.now l.self.starts.now l.self.count l.name 0 l.i
