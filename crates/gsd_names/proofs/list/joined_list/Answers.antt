-- `gsd_names::list::joined_list` meets its contract. Invariant: the names found so far are kept, and the rest of the list goes on from `list_end`.
use Rattle.gsd_names.proofs.NamePasses.{no-name, joined-none, joined-more, joined-all}
use Rattle.gsd_names.proofs.list.joined_list.Goals as goal

pub loop-next-init : goal.loop-next-init
loop-next-init c = rw c.keep.ensures (joined-none _ _ c.requires.recent c.args.starts.now c.told-starts)

pub loop-next-preserved : goal.loop-next-preserved
loop-next-preserved c =
    let next = c.in-Some.ensures in
    rw c.keep-in-Some.ensures (joined-more _ _ c.requires.recent c.requires.inside _ _ _ _ c.loop-next.invariant next.0 next.1)

pub returns : goal.returns
returns c = joined-all _ _ c.requires.recent _ _ _ c.loop-next.invariant (no-name _ _ c.past_name.ensures c.in_default.not-Some) _ c.goes_on.ensures
