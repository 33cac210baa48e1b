-- The entries passed were good; what they and the rest say together is what the whole list says.
use Prim.Native.Nat.{◌+◌, ◌*◌, ◌-◌}
use mathlib.Core.Path.{◌≡◌}
use lib.ListN.{length}
use Rattle.gsd_format.specs.Entries.{entries_at}
use Rattle.gsd_open.proofs.EntryTests.{Passed}
use Rattle.gsd_open.proofs.index.Placed.walk_by.Given as goal

abbrev pub invariant-loop-i : goal.invariant-loop-i
invariant-loop-i live = record {
  entries : live.walk.entries ≡ live.i;
  long : length live.last ≡ length live.initial.last;
  passed : Passed live.self.layout live.self.names (entries_at live.image live.self.layout.index live.self.layout.slots) live.walk.least live.walk.chunks_end live.i live.last (entries_at live.image (live.self.layout.index + 32 * live.i) (live.self.layout.slots - live.i));
}
