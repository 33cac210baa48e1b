-- The stores that the extents of a plan make one after the other are the append's store list.
use Prim.Native.Nat.{ℕ, ◌+◌, ◌*◌, ◌≤◌, ◌<◌}
use mathlib.Core.Path.{◌≡◌, sym, ◌∙◌, ap}
use mathlib.Core.List.{List, [], ◌++◌}
use native.Mathlib.Nat.{zero-add}
use native.Mathlib.Omega.{arith}
use lib.ListN.{length, get_or, take}
use Rattle.gsd_format.specs.Names.{flat}
use Rattle.gsd_format.proofs.Bytes.{Octets, part_at}
use Rattle.gsd_format.proofs.Texts.{part-text}
use Rattle.gsd_stores.specs.View.{View}
use Rattle.gsd_stores.specs.Sheet.{Row, rows_of, row_count, name_at, body_at, Exact}
use Rattle.gsd_stores.specs.Plan.{Plan, names_start, index_start}
use Rattle.gsd_stores.specs.Steps.{move_names, move_index, store_data, store_names, store_entries, steps_of}
use Rattle.gsd_stores.specs.Steps.{name_block, index_block}
use Rattle.gsd_stores.specs.Demand3.{no_row}
use Rattle.gsd_stores.proofs.Sheet.{rows-count, name-length, name-text, name-inside}
use Rattle.gsd_stores.proofs.View.{Is, Base, base-start, Stage}
use Rattle.gsd_stores.proofs.Plan.{entries-count}
use Rattle.gsd_stores.proofs.Good.{roomy, named, ready, Good}
use Rattle.gsd_stores.proofs.Move.{names-step, index-step}
use Rattle.gsd_stores.proofs.Valid.{Ready as Accepted}
use Rattle.gsd_stores.proofs.Moments.{ready-good}
use Rattle.gsd_stores.proofs.Clear.{store-data}
use Rattle.gsd_stores.proofs.Whole.{data-fits, room-roomy, names-room, index-room, block-even}
use Rattle.gsd_extents.specs.Exec.{tasks, stores_of}
use Rattle.gsd_steps.specs.Numbers.{rows_in, fresh_in}
use Rattle.gsd_matched.specs.Matches.{NumbersMatch, NameMatch, Matches}
use Rattle.gsd_sheet.specs.Columns.{new_row}
use Rattle.gsd_steps.specs.Steps.{data_extent, name_move, index_move, move_extent, name_extent, entry_extent, tab, front_of, extents_of}
use Rattle.gsd_matched.proofs.Octets.{text-octets}
use Rattle.gsd_matched.proofs.Makes.{Makes, AnyImage, AnyStore, Always, makes-from, ◌⨾◌}
use Rattle.gsd_matched.proofs.Blocks.{lists-cleared, block-moved}
use Rattle.gsd_matched.proofs.Moves.{names-move, names-end, entries_in, entries-inside, entries-long, index-move, index-end}
use Rattle.gsd_matched.proofs.DataExtents.{data-stored}
use Rattle.gsd_matched.proofs.NameExtents.{NameAt, names-stored}
use Rattle.gsd_matched.proofs.EntryExtents.{entries-stored}

-- the listed names are bytes
names-octets : {x : List ℕ} {v : View} → Is x v → Octets x → Octets (flat v.names)
names-octets {x} {v} is o = text-octets x v.layout.namelist (flat v.names) o is.names.each

-- the stages of an append that began at x, from the data on
abbrev Stored : List ℕ → Plan → View → List ℕ → Type 0
Stored x d u = Stage x u d.start d.body

-- Steps 3 and 5

module _ {x : List ℕ} {v : View} {rs : List Row} {d : Plan} (r : Accepted v rs d) (is : Is x v) (o : Octets x) (sheet : List ℕ) {p : List ℕ}
    (m : NumbersMatch v sheet d p) where
  abbrev g : Good v d
  g = ready-good v rs d r

  names-moved : Makes sheet (Stored x d v) (Stored x d (roomy v d)) (tab (move_extent (name_move p)) 0 4) (move_names v d)
  unfolding move_names
  names-moved =
      block-moved sheet (name_move p) d.names_move (flat v.names) (names-move r is m) (names-octets is o) (λ img s. s.base.is.names.each)
      (names-step {x₀ = x} {W = AnyStore} d.names_move (names_start d) d.segments (names-room g)
      g.more_segments (names-end r) (λ l n a b e f s t. tt)).final

  index-moved : Makes sheet (Stored x d (named v d)) (Stored x d (ready v d)) (tab (move_extent (index_move p)) 0 4) (move_index x v d)
  unfolding move_index
  index-moved =
      let size : ℕ = 32 * length v.entries in
      let inside : v.layout.index + size ≤ length x = entries-inside is in
      let long : length (entries_in x v) ≡ size = entries-long is in
      block-moved sheet (index_move p) d.index_moves (entries_in x v) (index-move r is m)
      (text-octets x v.layout.index (entries_in x v) o (part-text x v.layout.index size inside))
      (λ img s k l. s.base.raw k (omega arith) ∙ ap (λ c. get_or x (c.index + k) 0) is.layout ∙ sym (part_at x v.layout.index size k (omega arith)))
      (index-step {x₀ = x} {W = AnyStore} d.index_moves (index_start d) d.slots (index-room g)
      v.layout.index (ap (λ l. l.index) is.layout) inside g.more_slots (index-end r) (λ l n a b e f s t. tt)).final

-- The whole append

module _ {x : List ℕ} {v : View} {d : Plan} (sheet : List ℕ) (r : Accepted v (rows_of sheet) d) (is : Is x v) (exact : Exact sheet)
    (ox : Octets x) (os : Octets sheet) (p : List ℕ) (m : Matches v sheet d p) where
  abbrev rows : List Row
  rows = rows_of sheet

  abbrev good : Good v d
  good = ready-good v rows d r

  new-name : (j : ℕ) → j < length d.fresh → NameAt sheet p (0 + j) (name_block v d + length (flat (v.names ++ take j d.fresh))) (get_or d.fresh j [])
  new-name j l =
      let w : NameMatch v sheet d p j = m.names j l in
      let i : new_row p j < row_count sheet = rw rows-count at w.row in
      let long : body_at sheet (new_row p j) ≡ name_at sheet (new_row p j) + length (get_or rows (new_row p j) no_row).name
      = omega (arith, name-length sheet exact (new_row p j) i) in
      rw (zero-add j, w.name) (record {
        place = w.to;
        written = rw (w.from, w.until) (record { text = name-text sheet exact (new_row p j) i; long = long; inside = name-inside sheet exact (new_row p j) i });
      })

  data-made : Makes sheet (Stage x v d.start []) (Stored x d v) (tab (data_extent p) 0 (rows_in p)) (store_data d)
  data-made =
      makes-from (data-stored sheet exact os d p m.bodies r.plan.body m.numbers.rows)
      (store-data {x₀ = x} {W = AnyStore} {v = v} (λ a b p q. tt) d good.room r.even_body (data-fits good)).final

  names-made : Makes sheet (Stored x d (roomy v d)) (Stored x d (named v d)) (tab (name_extent p) 0 (fresh_in p))
      (store_names (name_block v d) v.names d.fresh)
  names-made =
      rw m.numbers.fresh (names-stored sheet os p d.fresh (roomy v d) 0
      (record { low = r.plan.room.header; off = (room-roomy good).off_names; even = block-even good })
      (names-octets is ox) r.named r.plan.names_fit new-name)

  entries-made : Always sheet (tab (entry_extent sheet p) 0 (4 * rows_in p)) (store_entries (index_block v d + 32 * length v.entries) d.entries)
  entries-made =
      rw (← m.numbers.slot) (entries-stored sheet p d.entries (record {
        long = entries-count v rows d r.plan ∙ sym m.numbers.rows;
        fits = r.exact;
        frame = λ s l. m.numbers.frame ∙ sym (r.new s l).frame;
        flags = λ s l. (r.new s l).flags;
        each = m.entries;
      }))

  all_made : Makes sheet (Base x v) AnyImage (extents_of sheet p) (steps_of x v d)
  unfolding extents_of front_of steps_of
  all_made =
      lists-cleared sheet m.numbers d.start (names-octets is ox) r.even_names
      ⨾ data-made
      ⨾ names-moved r is ox sheet m.numbers
      ⨾ names-made
      ⨾ index-moved r is ox sheet m.numbers
      ⨾ makes-from entries-made (λ img s. tt)

  pub stores-listed : stores_of sheet x (tasks (extents_of sheet p)) ≡ steps_of x v d
  stores-listed = all_made.same x (base-start is)
