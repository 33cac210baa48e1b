-- `gsd_listing::Page::put_entries` meets its contract: the text so far and the lines still to be put make the same text at each turn.
use Prim.Native.Nat.{◌+◌, ◌*◌, ◌≤◌}
use mathlib.Core.Path.{◌≡◌}
use mathlib.Core.List.{◌++◌}
use lib.ListN.{take, drop}
use Rattle.gsd_format.specs.Entries.{entries_of}
use Rattle.gsd_format.specs.Listing.{entry_lines}
use Rattle.gsd_listing.proofs.Page.put_entries.Given as goal

abbrev pub invariant-loop-i : goal.invariant-loop-i
invariant-loop-i l = (l.self.end ≤ l.initial.self.end + 128 * l.i)
    × (take l.self.end l.self.out.now ++ entry_lines (drop l.i (entries_of l.image)) ≡ take l.initial.self.end l.initial.self.out.now ++ entry_lines (entries_of l.image))
    × (l.self.out.ghost_name ≡ l.initial.self.out.ghost_name)
