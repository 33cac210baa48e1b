-- `gsd_names::list::joined_list` meets its contract. Invariant: the names found so far are kept, and the rest of the list goes on from `list_end`.
use Prim.Native.Nat.{◌-◌}
use Rattle.gsd_names.proofs.NamePasses.{Joined}
use Rattle.gsd_names.proofs.list.joined_list.Given as goal

abbrev pub invariant-loop-next : goal.invariant-loop-next
invariant-loop-next live = Joined live.image live.fn.l live.starts live.count live.list_end

abbrev pub decreases-loop-next : goal.decreases-loop-next
decreases-loop-next l = l.stop - l.list_end
