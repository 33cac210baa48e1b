-- `gsd_ids::find_ids` meets its contract.
use Prim.Native.Nat.{◌≤◌}
use mathlib.Core.Path.{sym}
use native.Mathlib.Omega.{arith}
use Rattle.gsd_stores.proofs.Sheet.{rows-count}
use Rattle.gsd_sheet.proofs.Columns.{kept_trans}
use Rattle.gsd_ids.specs.Order.{Sorted}
use Rattle.gsd_ids.specs.RowIds.{order}
use Rattle.gsd_ids.proofs.RowIds.{sorted-kept, ids-found}
use Rattle.gsd_ids.proofs.find_ids.Goals as goal

pub returns : goal.returns
returns c =
    let sorted : Sorted (order c.list_ids-new.new.plan) c.args.count c.copy_from_slice.new.self =
    rw (c.copy_from_slice.ensures.after, sym c.pairs_of-pairs.ensures) c.sort-ordered.ensures in
    let long = c.list_ids-new.array_long in
    let few : c.args.count ≤ 64 = omega (arith, c.requires.located.few, c.requires.counted) in
    record {
      found = ids-found _ _ _ long sorted _ _ _ c.list_ids-new.ensures.listed (omega (arith, c.requires.counted, rows-count c.args.sheet.now)) few;
      kept = kept_trans c.list_ids-new.ensures.kept (sorted-kept _ _ _ long sorted);
    }
