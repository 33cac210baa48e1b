-- `gsd_names::list::segment_list` meets its contract. Invariant: the names found so far are kept, and the segments left begin at `segment`.
use Rattle.gsd_names.proofs.NamePasses.{Segmented}
use Rattle.gsd_names.proofs.list.segment_list.Given as goal

abbrev pub invariant-loop-count : goal.invariant-loop-count
invariant-loop-count live = Segmented live.image live.fn.l live.starts live.count live.segment
