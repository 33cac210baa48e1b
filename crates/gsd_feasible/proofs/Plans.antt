-- Laws of the test whether a plan can be carried out: it tells whether the plan is ready, with any sheet of m bytes. And it
-- refuses one without rows.
use Prim.Native.Nat.{ℕ, ◌+◌, ◌*◌, ◌-◌, ◌%◌, ◌≤◌, ◌<◌}
use mathlib.Core.Path.{◌≡◌, ◌∙◌, ap}
use mathlib.Core.Bool.{true, false}
use mathlib.Core.List.{List}
use native.Mathlib.Nat.{add-sub_cancel_left}
use native.Mathlib.Decide.{dec_lt}
use native.Mathlib.Omega.{arith}
use lib.ListN.{length, get_or}
use borrow.Author.Tests.{leb-true, le-leb, ltb-true, lt-ltb, eqb-true, eq-eqb}
use Rattle.gsd_format.specs.Header.{header_size, greatest_length}
use Rattle.gsd_format.proofs.Lists.{Each, at_each}
use Rattle.gsd_format.proofs.Refusals.{both_true, both_of}
use Rattle.gsd_stores.specs.Sheet.{row_at, most_rows}
use Rattle.gsd_sheet.specs.Columns.{plan_words}
use Rattle.gsd_extents.specs.Exec.{Good}
use Rattle.gsd_extents.specs.Extents.{none}
use Rattle.gsd_extents.proofs.Tasks.{tasks-few}
use Rattle.gsd_extents.proofs.Kept.{keeps-good, good-keeps}
use Rattle.gsd_steps.specs.declared.Move.{Move}
use Rattle.gsd_steps.specs.Numbers.{rows_in, fresh_in, slot_in}
use Rattle.gsd_steps.specs.Steps.{name_move, index_move, slot_row, slot_id, of_four, entry_extent, front_count, extents_of, extent_count, Small, FrontSound, Sound, Ready}
use Rattle.gsd_steps.proofs.Steps.{extents-length, at_front, at_entry, good-entry}
use Rattle.gsd_feasible.specs.Feasible.{counts_fit, slices_fit, small, names_known, entry_known, entries_known, numbers_fit, front_keeps, feasible}
use Rattle.gsd_feasible.proofs.AllBelow.{all-each, each_all}

-- What each part of the test tells

pub record RowsFit (p : List ℕ) : Type 0 where
  pub some : 1 ≤ rows_in p
  pub rows : rows_in p ≤ most_rows
  pub fresh : fresh_in p ≤ rows_in p

pub counts-told : (p : List ℕ) → counts_fit p ≡ true → RowsFit p
counts-told p h =
    let f = both_true _ _ h in
    let r = both_true _ _ f.0 in
    record { some = leb-true _ _ r.0; rows = leb-true _ _ r.1; fresh = leb-true _ _ f.1 }

record Slices (n m : ℕ) (p : List ℕ) : Type 0 where
  low : header_size ≤ n
  high : n ≤ greatest_length
  table : row_at (rows_in p) ≤ m
  aligned : slot_in p % 8 ≡ 0
  entries : slot_in p + 32 * rows_in p ≤ n

slices-told : (n m : ℕ) (p : List ℕ) → slices_fit n m p ≡ true → Slices n m p
slices-told n m p h =
    let e = both_true _ _ h in
    let a = both_true _ _ e.0 in
    let t = both_true _ _ a.0 in
    let l = both_true _ _ t.0 in
    record { low = leb-true _ _ l.0; high = leb-true _ _ l.1; table = leb-true _ _ t.1; aligned = eqb-true _ _ a.1; entries = leb-true _ _ e.1 }

small-told : (b : Move) → small b ≡ true → Small b
small-told b h =
    let c = both_true _ _ h in
    let u = both_true _ _ c.0 in
    record { to = leb-true _ _ u.0; until = leb-true _ _ u.1; count = leb-true _ _ c.1 }

entry-told : (p : List ℕ) (s : ℕ) → entry_known p s ≡ true → (slot_row p s < rows_in p) × (slot_id p s < 65536)
entry-told p s h = let t = both_true _ _ h in (ltb-true _ _ t.0, ltb-true _ _ t.1)

small-so : (b : Move) → Small b → small b ≡ true
small-so b h = both_of _ _ (both_of _ _ (le-leb _ _ h.to) (le-leb _ _ h.until)) (le-leb _ _ h.count)

module _ (n m : ℕ) (p : List ℕ) where
  record Numbers : Type 0 where
    slices : Slices n m p
    name_move : Small (name_move p)
    index_move : Small (index_move p)
    names : names_known p ≡ true
    entries : entries_known p ≡ true

  numbers-told : numbers_fit n m p ≡ true → Numbers
  numbers-told h =
      let e = both_true _ _ h in
      let k = both_true _ _ e.0 in
      let i = both_true _ _ k.0 in
      let a = both_true _ _ i.0 in
      record {
        slices = slices-told n m p a.0;
        name_move = small-told _ a.1;
        index_move = small-told _ i.1;
        names = k.1;
        entries = e.1;
      }

  pub front-sound : length p ≡ plan_words → counts_fit p ≡ true → numbers_fit n m p ≡ true → FrontSound p
  front-sound long c h =
      let k = counts-told p c in
      let u = numbers-told h in
      record {
        long = long;
        rows = k.rows;
        fresh = k.fresh;
        name_move = u.name_move;
        index_move = u.index_move;
        new_rows = λ j l. ltb-true _ _ (all-each _ (fresh_in p) u.names j l);
      }

-- The test and `Ready`

module _ (n m : ℕ) (p : List ℕ) where
  parts : feasible n m p ≡ true → (counts_fit p ≡ true) × (numbers_fit n m p ≡ true) × (front_keeps n m p ≡ true)
  unfolding feasible
  parts h =
      let k = both_true _ _ h in
      let c = both_true _ _ k.0 in
      (c.0, c.1, k.1)

  -- the image has a header
  pub feasible-long : feasible n m p ≡ true → header_size ≤ n
  feasible-long h = (numbers-told n m p (parts h).1).slices.low

  module _ (long : length p ≡ plan_words) (h : feasible n m p ≡ true) (sheet : List ℕ) (size : length sheet ≡ m) where
    abbrev counts : RowsFit p
    counts = counts-told p (parts h).0

    abbrev numbers : Numbers n m p
    numbers = numbers-told n m p (parts h).1

    feasible-sound : Sound m p
    feasible-sound =
        record {
          front = front-sound n m p long (parts h).0 (parts h).1;
          table = numbers.slices.table;
          slot = omega (arith, numbers.slices.entries, numbers.slices.high);
          slot_rows = λ s l. (entry-told p s (all-each _ (rows_in p) numbers.entries s l)).0;
          slot_ids = λ s l. (entry-told p s (all-each _ (rows_in p) numbers.entries s l)).1;
        }

    -- each extent, of steps 1 to 5 or of an entry
    feasible-good : (i : ℕ) → i < extent_count p → Good n m (get_or (extents_of sheet p) i none)
    feasible-good i l = go (dec_lt i (front_count p))
      where
        go : Dec (i < front_count p) → Good n m (get_or (extents_of sheet p) i none)
        go (yes f) = rw (at_front sheet p i f) (keeps-good n m _ (all-each _ (front_count p) (parts h).2 i f))
        go (no f) =
            rw (at_entry sheet p i (omega arith) (omega arith))
            (good-entry n m sheet p numbers.slices.aligned numbers.slices.entries (i - front_count p) (omega arith))

    pub feasible-ready : Ready n sheet p
    feasible-ready =
        let each : Each (Good n m) (extents_of sheet p) = at_each (Good n m) (extents_of sheet p) none (λ i l. feasible-good i (rw (extents-length sheet p) at l)) in
        record {
          sound = rw size feasible-sound;
          good = rw size feasible-good;
          count = omega (
            arith,
            tasks-few n m (extents_of sheet p) numbers.slices.high each,
            extents-length sheet p,
            counts.rows,
            counts.fresh,
          );
        }

  pub no_rows : rows_in p ≡ 0 → feasible n m p ≡ false
  unfolding feasible
  no_rows e = simp e

module _ (n : ℕ) (sheet p : List ℕ) (some : 1 ≤ rows_in p) (low : header_size ≤ n) (high : n ≤ greatest_length) (r : Ready n sheet p) where
  abbrev front : FrontSound p
  front = r.sound.front

  -- word i of the last slot, which is stored first, is a good extent
  entry : (i : ℕ) → i < 4 → Good n (length sheet) (entry_extent sheet p i)
  entry i l =
      let here : get_or (extents_of sheet p) (front_count p + i) none ≡ entry_extent sheet p i
      = at_entry sheet p (front_count p + i) (omega arith) (omega arith) ∙ ap (entry_extent sheet p) (add-sub_cancel_left (front_count p) i) in
      rw here at (r.good (front_count p + i) (omega arith))

  -- so its slot begins at a multiple of 8, and the entries end in the image
  slot-so : (slot_in p % 8 ≡ 0) × (slot_in p + 32 * rows_in p ≤ n)
  unfolding entry_extent of_four
  slot-so = (omega (arith, (entry 0 (omega arith)).aligned), omega (arith, (entry 2 (omega arith)).room))

  numbers-so : numbers_fit n (length sheet) p ≡ true
  numbers-so =
      let slices : slices_fit n (length sheet) p ≡ true
      = both_of _ _ (both_of _ _ (both_of _ _ (both_of _ _ (le-leb _ _ low) (le-leb _ _ high)) (le-leb _ _ r.sound.table)) (eq-eqb _ _ slot-so.0))
      (le-leb _ _ slot-so.1) in
      let moves = both_of _ _ (both_of _ _ slices (small-so _ front.name_move)) (small-so _ front.index_move) in
      let names = each_all _ (fresh_in p) (λ j l. lt-ltb _ _ (front.new_rows j l)) in
      let entries = each_all _ (rows_in p) (λ s l. both_of _ _ (lt-ltb _ _ (r.sound.slot_rows s l)) (lt-ltb _ _ (r.sound.slot_ids s l))) in
      both_of _ _ (both_of _ _ moves names) entries

  front-so : front_keeps n (length sheet) p ≡ true
  front-so =
      each_all _ (front_count p) (λ i l. good-keeps n (length sheet) _ (rw (at_front sheet p i l) at (r.good i (omega arith))))

  pub ready-feasible : feasible n (length sheet) p ≡ true
  unfolding feasible
  ready-feasible =
      both_of _ _ (both_of _ _ (both_of _ _ (both_of _ _ (le-leb _ _ some) (le-leb _ _ front.rows)) (le-leb _ _ front.fresh)) numbers-so) front-so
