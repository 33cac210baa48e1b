-- `gsd_ids::list_ids` meets its contract. Invariant: the first i rows are done, and the columns that say where rows lie are kept;
-- the new names among these rows take fewer bytes than the sheet has before row i, but for their zeros.
use native.Mathlib.Omega.{arith}
use Rattle.gsd_stores.proofs.Sheet.{rows-count}
use Rattle.gsd_sheet.proofs.Columns.{kept-none, kept_more}
use Rattle.gsd_sheet.proofs.Rows.{located-room, located-kept}
use Rattle.gsd_ids.proofs.RowIds.{listing_none, count-in, row_room, row_listed, row_new, listing-all}
use borrow.Author.Rules.{rules}
use Rattle.gsd_ids.proofs.list_ids.Goals as goal
use Rattle.gsd_ids.proofs.list_ids.Goals.{in-Some, in-None}

pub loop-i-init : goal.loop-i-init
loop-i-init c = (listing_none _ _ _ (search rules), kept-none, omega arith)

pub slice_bounds-id_of-end : goal.slice_bounds-id_of-end
slice_bounds-id_of-end c =
    let located = located-kept c.requires.located c.loop-i.invariant.1 in
    let there = located-room located c.loop-i.i (omega arith) in
    omega (arith, there)

pub overflow_add-size-in-None : goal.overflow_add-size-in-None
overflow_add-size-in-None c =
    let located = located-kept c.requires.located c.loop-i.invariant.1 in
    let room = row_room located c.loop-i.i (omega arith) in
    omega (arith, room)

pub loop-i-preserved : goal.loop-i-preserved
loop-i-preserved c =
    let located = located-kept c.requires.located c.loop-i.invariant.1 in
    let room = row_room located c.loop-i.i (omega arith) in
    let inv = c.loop-i.invariant in
    elim c.match-id_of.branch [
      | in-Some w ↦ rw (w.plan-is, w.fresh-is, w.size-is) (
        row_listed _ _ (count-in _ _ _ _) located inv.0 (omega arith) _ w.in-Some.ensures.1 w.in-Some.ensures.0 _ w.pair.ensures,
        kept_more inv.1 _ _ (omega arith),
        omega (arith, room),
      )
      | in-None w ↦ rw (w.plan-is, w.fresh-is, w.size-is) (
        row_new _ _ (count-in _ _ _ _) located inv.0 (omega arith) _ w.in-None.ensures c.requires.distinct (omega arith) _ w.pair-in-None.ensures,
        kept_more (kept_more inv.1 _ _ (omega arith)) _ _ (omega arith),
        omega (arith, room),
      )
    ]

pub returns : goal.returns
returns c =
    let s = c.args.sheet.now in
    record { listed = listing-all _ _ _ _ _ _ c.loop-i.invariant.0 (omega (arith, rows-count s)); kept = c.loop-i.invariant.1 }
