-- Every extent of a plan that matches an accepted append is good: it keeps to the image and to the sheet, at multiples of 8. And so the
-- plan is ready.
use Prim.Native.Nat.{ℕ, zero, suc, ◌+◌, ◌*◌, ◌≤◌, ◌<◌}
use mathlib.Core.Path.{◌≡◌, refl, sym, ◌∙◌, ap}
use mathlib.Core.List.{List, [], ◌∷◌, ◌++◌}
use native.Mathlib.Omega.{arith}
use lib.ListN.{length, get_or, take}
use Rattle.gsd_format.specs.Header.{greatest_length}
use Rattle.gsd_format.specs.Names.{flat}
use Rattle.gsd_format.proofs.Lists.{each_at}
use Rattle.gsd_format.proofs.Names.{flat-none, flat-size, flat-sizes}
use Rattle.gsd_stores.specs.View.{View, namelist_end}
use Rattle.gsd_stores.specs.Sheet.{Row, rows_of, row_count, table_end, most_rows, name_at, body_at, Exact}
use Rattle.gsd_stores.specs.Plan.{Plan, end_from, data_end, names_done}
use Rattle.gsd_stores.specs.Steps.{name_block}
use Rattle.gsd_stores.specs.Demand3.{no_row}
use Rattle.gsd_stores.proofs.Sheet.{rows-count, name-length, name-inside, body-length, body-inside, start_first, start-next, start-rises}
use Rattle.gsd_stores.proofs.Rows.{place_inside, new-names, new-few}
use Rattle.gsd_stores.proofs.Plan.{positions, segments_after, entries-count}
use Rattle.gsd_stores.proofs.View.{Is, is-long}
use Rattle.gsd_stores.proofs.Valid.{Ready as Accepted}
use Rattle.gsd_stores.proofs.Places.{blocks-even}
use Rattle.gsd_extents.specs.declared.extent.Extent.{Extent}
use Rattle.gsd_extents.specs.Exec.{Good}
use Rattle.gsd_extents.specs.Extents.{none}
use Rattle.gsd_extents.proofs.Extents.{good-number, good-copied, good-data, good-name}
use Rattle.gsd_extents.proofs.Tasks.{tasks-few}
use Rattle.gsd_sheet.specs.Columns.{new_row}
use Rattle.gsd_steps.specs.Numbers.{rows_in, fresh_in}
use Rattle.gsd_matched.specs.Matches.{NumbersMatch, NameMatch, Matches}
use Rattle.gsd_steps.specs.Steps.{clear_extent, data_extent, name_move, index_move, name_extent, entry_extent, tab, front_of, extents_of, Sound, Ready}
use Rattle.gsd_steps.proofs.Steps.{extents-length, good-entry}
use Rattle.gsd_matched.proofs.Blocks.{slots_clear, end_keep, names_clear, clears}
use Rattle.gsd_matched.proofs.Moves.{names-move, names-end, entries_in, entries-inside, entries-long, index-move, index-end}
use Rattle.gsd_matched.proofs.GoodKinds.{AllGood, ◌⊹◌, good-tab, Held, good-block, moving-held}

-- a name lies in its list, with its zero
flat-inside : (bs : List (List ℕ)) (j : ℕ) → j < length bs → length (flat (take j bs)) + length (get_or bs j []) + 1 ≤ length (flat bs)
flat-inside [] j l = absurd (omega arith)
flat-inside (b ∷ bs) zero l = omega (arith, flat-size b bs, ap length flat-none)
flat-inside (b ∷ bs) (suc j) l = omega (arith, flat-size b bs, flat-size b (take j bs), flat-inside bs j (omega arith))

-- the table lies in the sheet
table-inside : (s : List ℕ) → Exact s → table_end s ≤ length s
table-inside s exact = omega (arith, start-rises (row_count s) s 4 (table_end s) 0 (omega arith), start_first s 4 (table_end s))

-- The extents of a plan

module _ {x : List ℕ} {v : View} {d : Plan} (sheet : List ℕ) (r : Accepted v (rows_of sheet) d) (is : Is x v) (exact : Exact sheet) (p : List ℕ)
    (m : Matches v sheet d p) where
  abbrev rows : List Row
  rows = rows_of sheet

  abbrev w : NumbersMatch v sheet d p
  w = m.numbers

  abbrev Fine : Extent → Type 0
  Fine = Good (length x) (length sheet)

  index-inside : v.layout.index + 32 * v.layout.slots ≤ length x
  index-inside = omega (arith, is.blocks.index_high, is-long is)

  names-inside : namelist_end v.layout ≤ length x
  names-inside = omega (arith, is.blocks.namelist_high, is-long is)

  -- the plan's positions
  ends : (data_end d ≤ names_done d) × (names_done d ≤ length x) × (length x ≤ greatest_length)
  ends = omega (arith, positions d, r.fits, is-long is, is.front.high)

  clears-good : AllGood (length x) (length sheet) (tab (clear_extent p) 0 3)
  clears-good =
      let slots : Fine (slots_clear v) = good-number _ _ 0 (omega (arith, r.even_index)) (omega (arith, is.entries.few, index-inside)) in
      let keep : Fine (end_keep v) = good-copied _ _ _ _ (omega arith) (omega (arith, is.names.few, names-inside)) (omega arith)
      (omega (arith, is.names.few, names-inside)) in
      let others : Fine (names_clear v) = good-number _ _ 0 (omega arith) (omega (arith, is.names.few, names-inside)) in
      rw (clears w) (record { each = (slots, (keep, (others, tt))) })

  data-good : (i : ℕ) → i < length rows → Fine (data_extent p i)
  unfolding data_extent
  data-good i l =
      let k : i < row_count sheet = rw rows-count at l in
      let end : name_at sheet (suc i) ≡ body_at sheet i + length (get_or rows i no_row).body
      = omega (arith, start-next sheet 4 (table_end sheet) i, body-length sheet exact i k) in
      rw ((m.bodies i l).to, (m.bodies i l).from, (m.bodies i l).until)
      (good-data _ _ _ (omega arith)
      (omega (arith, place_inside rows d.start i l, ap (end_from d.start) r.plan.body, ends)) (omega arith)
      (omega (arith, body-length sheet exact i k, body-inside sheet exact i k)))

  name-good : (j : ℕ) → j < length d.fresh → Fine (name_extent p j)
  unfolding name_extent
  name-good j l =
      let q : NameMatch v sheet d p j = m.names j l in
      let k : new_row p j < row_count sheet = rw rows-count at q.row in
      let size : length (get_or d.fresh j []) ≡ length (get_or rows (new_row p j) no_row).name = ap length q.name in
      let end : ℕ = name_block v d + 64 * segments_after v d in
      let before : length (flat (v.names ++ take j d.fresh)) ≡ length (flat v.names) + length (flat (take j d.fresh))
      = flat-sizes v.names (take j d.fresh) in
      rw (q.to, q.from, q.until)
      (good-name _ _ _ end (omega arith) (name-inside sheet exact (new_row p j) k)
      (omega (arith, name-length sheet exact (new_row p j) k, flat-inside d.fresh j l, r.plan.names_fit))
      (omega (arith, (blocks-even v rows d r).0)) (omega (arith, r.blocks.namelist_high, is-long is)))

  entry-good : (k : ℕ) → k < 4 * rows_in p → Fine (entry_extent sheet p k)
  entry-good =
      good-entry (length x) (length sheet) sheet p (omega (arith, w.slot, (blocks-even v rows d r).1)) (omega (
        arith,
        w.slot,
        w.rows,
        entries-count v rows d r.plan,
        r.plan.entries_fit,
        r.blocks.index_high,
        is-long is,
      ))

  names-held : Held (length x) (name_move p)
  names-held =
      moving-held d.names_move (flat v.names) (length x) (names-move r is w) (omega arith) refl (omega (arith, is.front.low))
      (omega (arith, is.names.few, names-inside)) (omega (arith, is.front.high)) (omega (arith, ends))
      (λ e. omega (arith, names-end r e, is-long is)) (omega arith)

  index-held : Held (length x) (index_move p)
  index-held =
      moving-held d.index_moves (entries_in x v) (length x) (index-move r is w) (omega arith) refl (omega (arith, is.front.low))
      (omega (arith, entries-inside is, entries-long is)) (omega (arith, is.front.high)) (omega (arith, ends))
      (λ e. omega (arith, index-end r e, is-long is)) (omega arith)

  extents-good : AllGood (length x) (length sheet) (extents_of sheet p)
  unfolding extents_of front_of
  extents-good =
      clears-good
      ⊹ good-tab (data_extent p) 0 (rows_in p) (λ i l. data-good i (omega (arith, w.rows)))
      ⊹ good-block (name_move p) names-held
      ⊹ good-tab (name_extent p) 0 (fresh_in p) (λ j l. name-good j (omega (arith, w.fresh)))
      ⊹ good-block (index_move p) index-held
      ⊹ good-tab (entry_extent sheet p) 0 (4 * rows_in p) (λ k l. entry-good k (omega arith))

  plan-sound : length rows ≤ most_rows → Sound (length sheet) p
  plan-sound few =
      let entries : length d.entries ≡ rows_in p = entries-count v rows d r.plan ∙ sym w.rows in
      record {
        front = record {
          long = m.long;
          rows = omega (arith, w.rows, few);
          fresh = omega (arith, w.rows, w.fresh, ap length r.plan.fresh, new-few (new-names v.names rows));
          name_move = names-held.small;
          index_move = index-held.small;
          new_rows = λ j l. omega (arith, (m.names j (omega (arith, w.fresh))).row, few);
        };
        table = omega (arith, w.rows, rows-count sheet, table-inside sheet exact);
        slot = omega (arith, w.slot, r.plan.entries_fit, r.blocks.index_high, is-long is, ends);
        slot_rows = λ s l. omega (arith, (m.entries s (omega (arith, entries))).row, w.rows);
        slot_ids = λ s l. (m.entries s (omega (arith, entries))).small;
      }

  pub plan-ready : length rows ≤ most_rows → Ready (length x) sheet p
  plan-ready few =
      let sound : Sound (length sheet) p = plan-sound few in
      record {
        sound = sound;
        good = λ i l. each_at Fine (extents_of sheet p) none extents-good.each i (rw (extents-length sheet p) l);
        count = omega (
          arith,
          tasks-few (length x) (length sheet) (extents_of sheet p) is.front.high extents-good.each,
          extents-length sheet p,
          sound.front.rows,
          sound.front.fresh,
        );
      }
