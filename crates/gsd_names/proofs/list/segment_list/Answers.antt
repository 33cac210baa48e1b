-- `gsd_names::list::segment_list` meets its contract. Invariant: the names found so far are kept, and the segments left begin at `segment`.
use Rattle.gsd_names.proofs.NamePasses.{no-name, segmented-none, segmented-more, segmented-all, segmented-end}
use Rattle.gsd_names.proofs.list.segment_list.Goals as goal

pub loop-count-init : goal.loop-count-init
loop-count-init c = rw c.keep.ensures (segmented-none _ _ c.requires.segmented c.args.starts.now c.told-starts)

pub loop-count-preserved : goal.loop-count-preserved
loop-count-preserved c =
    let next = c.in-Some.ensures in
    rw c.keep-in-loop-count.ensures (segmented-more _ _ c.requires.segmented _ _ _ c.loop-count.invariant c.requires.inside c.loop-count-test.true
    _ next.0 next.1)

pub returns-in_default : goal.returns-in_default
returns-in_default c =
    segmented-end _ _ c.requires.segmented _ _ _ c.loop-count.invariant c.loop-count-test.true (no-name _ _ c.past_name.ensures c.in_default.not-Some) _ c.goes_on.ensures

pub returns : goal.returns
returns c = segmented-all _ _ c.requires.segmented _ _ _ c.loop-count.invariant c.loop-count-test.false
