-- `gsd_sheet::place_rows` meets its contract: the rows passed are placed.
use Prim.Native.Nat.{◌+◌, min}
use mathlib.Core.Path.{◌≡◌, sym, ◌∙◌, ap}
use native.Mathlib.Omega.{arith}
use lib.ListN.{length, length-set}
use Rattle.gsd_stores.specs.Sheet.{row_count, row_at, name_size, body_size, name_at, Exact}
use Rattle.gsd_sheet.specs.Rows.{end_test}
use Rattle.gsd_sheet.proofs.Columns.{filled_none, filled-to, filled_more, filled_off}
use Rattle.gsd_sheet.proofs.Rows.{name-first, exact-end, other-end, name-next, late-end}
use borrow.Author.Rules.{rules}
use Rattle.gsd_sheet.proofs.place_rows.Goals as goal

pub loop-i-init : goal.loop-i-init
loop-i-init c =
    let s = c.args.table.now.sheet.now in
    record { next = omega (arith, name-first s); inside = search rules; name = filled_none; body = filled_none }

pub returns-then-len-end : goal.returns-then-len-end
returns-then-len-end c =
    let s = c.args.table.now.sheet.now in
    let i = c.loop-i.i in
    let row = c.row-row.ensures in
    let named : c.name_size.result ≡ name_size s (row_at i) = rw (row.sheet, row.row) at c.name_size.ensures.answer in
    let ended : c.body_end-end.result ≡ min (c.loop-i.at + c.name_size.result + body_size s (row_at i)) (length s + 1) = rw (row.sheet, row.row) at c.body_end-end.ensures in
    let late : end_test s ≡ 25 = late-end s (i + 1) (omega arith) (omega (arith, name-next s i, named, ended)) in
    record { answer = sym late; rows = tt }

pub loop-i-preserved : goal.loop-i-preserved
loop-i-preserved c =
    let s = c.args.table.now.sheet.now in
    let i = c.loop-i.i in
    let placed = c.loop-i.invariant in
    let row = c.row-row.ensures in
    let named : c.name_size.result ≡ name_size s (row_at i) = rw (row.sheet, row.row) at c.name_size.ensures.answer in
    let ended : c.body_end-end.result ≡ min (c.loop-i.at + c.name_size.result + body_size s (row_at i)) (length s + 1) = rw (row.sheet, row.row) at c.body_end-end.ensures in
    record {
      next = omega (arith, name-next s i, named, ended);
      inside = omega arith;
      name = filled_off (filled_more placed.name (omega arith) placed.next) _ _ (λ a b. omega arith);
      body = filled_more (filled_off placed.body _ _ (λ a b. omega arith)) (simp length-set (omega arith)) (omega (arith, named));
    }

pub returns-then-at-len : goal.returns-then-at-len
returns-then-at-len c =
    let s = c.args.table.now.sheet.now in
    let ended : c.loop-i.at ≡ name_at s (row_count s) = c.loop-i.invariant.next ∙ ap (name_at s) (omega arith) in
    let other : end_test s ≡ 25 = other-end s (λ e. c.if-at-len.true (omega (arith, ended))) in
    record { answer = sym other; rows = tt }

pub returns : goal.returns
returns c =
    let s = c.args.table.now.sheet.now in
    let placed = c.loop-i.invariant in
    let ended : c.loop-i.at ≡ name_at s (row_count s) = c.loop-i.invariant.next ∙ ap (name_at s) (omega arith) in
    let exact : Exact s = omega (arith, ended) in
    record {
      answer = sym (exact-end s exact);
      rows = record {
        few = search rules;
        exact = exact;
        name = filled-to (omega arith) (filled_more (filled-to (omega arith) placed.name) (omega arith) (placed.next ∙ ap (name_at s) (omega arith)));
        body = filled_off (filled-to (omega arith) placed.body) _ _ (λ a b. omega arith);
      };
    }
