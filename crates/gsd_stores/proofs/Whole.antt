-- The whole append: from an image that shows v, by a good plan, every moment before the last store shows v with some of the new names,
-- no fewer than the moment before, its blocks where they were or moved; after the last store all new entries are listed.
use Prim.Native.Nat.{ℕ, ◌+◌, ◌*◌, ◌-◌, ◌%◌, ◌≤◌}
use mathlib.Core.Path.{◌≡◌, refl, sym, ap}
use mathlib.Core.Bool.{Bool, true, false, cond}
use mathlib.Core.List.{List, ◌++◌, append-nil}
use native.Mathlib.Omega.{arith}
use lib.ListN.{length, take}
use lib.Seq.{take-length}
use Rattle.gsd_format.specs.declared.Layout.{Layout}
use Rattle.gsd_format.specs.Header.{aligned}
use Rattle.gsd_stores.specs.View.{View}
use Rattle.gsd_stores.specs.Plan.{Plan, data_end, names_start, names_done, index_start, final_position}
use Rattle.gsd_stores.specs.Steps.{move_names, move_index, name_block, steps_of}
use Rattle.gsd_stores.proofs.Phases.{Phase, ◌⨾◌}
use Rattle.gsd_stores.proofs.Texts.{size, end_more}
use Rattle.gsd_stores.proofs.Plan.{taken}
use Rattle.gsd_stores.proofs.View.{with_layout, with_names, Is, is-long, Room, room-named, room-more, Base, Passes, Quiet}
use Rattle.gsd_stores.proofs.Blocks.{the_index, the_names}
use Rattle.gsd_stores.proofs.Good.{roomy, named, ready, Good}
use Rattle.gsd_stores.proofs.Clear.{clear-index, clear-names, store-data}
use Rattle.gsd_stores.proofs.Move.{room-step, names-step, index-step}
use Rattle.gsd_stores.proofs.NewNames.{all-names}
use Rattle.gsd_stores.proofs.NewEntries.{Final, store-entries}

-- room behind the data
pub room-data : {v : View} {d : ℕ} (e : ℕ) → d ≤ e → Room v d 0 d → Room v d (e - d) e
room-data e h r = record {
  low = r.low;
  index = omega arith;
  names = omega arith;
  chunks = λ i l. omega (arith, r.chunks i l);
  body = omega arith;
  off_index = λ p a b c e. omega arith;
  off_names = λ p a b c e. omega arith;
}

cond_more : (move : Bool) (a n : ℕ) → a ≤ cond move (aligned a + n) a
cond_more false a n = omega arith
cond_more true a n = omega arith

cond-even : (move : Bool) (a b : ℕ) → a % 8 ≡ 0 → b % 8 ≡ 0 → cond move a b % 8 ≡ 0
cond-even false a b h g = g
cond-even true a b h g = h

-- u has the entries of v, and its names with the first so many of the new ones, its blocks anywhere
pub record SoFar (v : View) (p : Plan) (j : ℕ) (u : View) : Type 0 where
  pub len : u.layout.len ≡ v.layout.len
  pub entries : u.entries ≡ v.entries
  pub names : u.names ≡ v.names ++ take j p.fresh

-- before the first new name, and behind the last
none_named : {v : View} {p : Plan} (l : Layout) → l.len ≡ v.layout.len → SoFar v p 0 (with_layout v l)
none_named {v} l e = record { len = e; entries = refl; names = sym (append-nil v.names) }

pub all_named : {v : View} {p : Plan} (l : Layout) → l.len ≡ v.layout.len → SoFar v p (length p.fresh) (with_layout (named v p) l)
all_named {v} {p} l e = record { len = e; entries = refl; names = ap (λ bs. v.names ++ bs) (sym (take-length p.fresh)) }

-- W from some of the new names to no fewer
abbrev pub AllPass : List ℕ → (List ℕ → List ℕ → Type 0) → View → Plan → Type 0
AllPass x₀ W v p = (u w : View) (i j : ℕ) → i ≤ j → SoFar v p i u → SoFar v p j w → Passes x₀ W u w

module _ {v : View} {p : Plan} (g : Good v p) where
  pub names-fit : names_done p ≤ v.layout.len
  names-fit = omega (arith, cond_more p.index_moves (names_done p) (32 * p.slots))

  pub data-fits : data_end p ≤ v.layout.len
  data-fits = omega (arith, cond_more p.names_move (data_end p) (64 * p.segments), names-fit)

  pub room-before : Room v p.start (size p.start p.body) (data_end p)
  room-before = room-data (data_end p) (end_more p.body p.start) g.room

  pub room-roomy : Room (roomy v p) p.start (size p.start p.body) (names_done p)
  room-roomy = room-step the_names p.names_move (data_end p) (names_start p) p.segments (omega arith) room-before

  pub room-names : Room (named v p) p.start (size p.start p.body) (names_done p)
  room-names = room-named (v.names ++ p.fresh) room-roomy

  pub room-ready : Room (ready v p) p.start (size p.start p.body) (final_position p)
  room-ready = room-step the_index p.index_moves (names_done p) (index_start p) p.slots (omega arith) room-names

  -- A block that moves starts at the first aligned place behind the data, the index block behind a name block that moved: there is
  -- room from there on, and the block ends in the slice
  pub names-room : Room v p.start (size p.start p.body) (names_start p)
  names-room = room-more (names_start p) (omega arith) room-before

  pub index-room : Room (named v p) p.start (size p.start p.body) (index_start p)
  index-room = room-more (index_start p) (omega arith) room-names

  pub names-inside : p.names_move ≡ true → names_start p + 64 * p.segments ≤ v.layout.len
  names-inside m = omega (arith, taken p.names_move (names_start p + 64 * p.segments) (data_end p) m, names-fit)

  pub index-inside : p.index_moves ≡ true → index_start p + 32 * p.slots ≤ v.layout.len
  index-inside m = omega (arith, taken p.index_moves (index_start p + 32 * p.slots) (names_done p) m, g.fits)

  pub block-even : name_block v p % 8 ≡ 0
  block-even = cond-even p.names_move (names_start p) v.layout.namelist (omega arith) g.namelist_even

  pub whole_append : {x₀ : List ℕ} {W : List ℕ → List ℕ → Type 0} → Is x₀ v → AllPass x₀ W v p →
      ((a b : List ℕ) → Base x₀ (ready v p) a → Final x₀ (ready v p) p.entries p.start p.body b → W a b) →
      Phase (Base x₀ v) (Final x₀ (ready v p) p.entries p.start p.body) W (steps_of x₀ v p)
  unfolding steps_of move_names move_index
  whole_append {x₀} {W} h passes last =
      clear-index (before v.layout v.layout refl refl)
      ⨾ clear-names (before v.layout v.layout refl refl) p.start g.namelist_even
      ⨾ store-data (before v.layout v.layout refl refl) p g.room g.body_even data-fits
      ⨾ names-step p.names_move (names_start p) p.segments names-room g.more_segments names-inside before
      ⨾ all-names (roomy v p) p.fresh g.room.low room-roomy.off_names block-even g.fresh g.names_fit
      (λ ns ms i j l e f. passes (with_names (roomy v p) ns) (with_names (roomy v p) ms) i j l
      (record { len = refl; entries = refl; names = e }) (record { len = refl; entries = refl; names = f }))
      ⨾ index-step p.index_moves (index_start p) p.slots index-room v.layout.index
      (ap (λ l. l.index) h.layout) (omega (arith, is-long h)) g.more_slots index-inside behind
      ⨾ store-entries p.entries p.start p.body (behind (ready v p).layout (ready v p).layout refl refl) last
      g.entries_fit g.sound g.exact room-ready.off_index
    where
      before : Quiet x₀ W v
      before l m a b = passes (with_layout v l) (with_layout v m) 0 0 (omega arith) (none_named l a) (none_named m b)

      behind : Quiet x₀ W (named v p)
      behind l m a b =
          passes (with_layout (named v p) l) (with_layout (named v p) m) (length p.fresh) (length p.fresh) (omega arith) (all_named l a) (all_named m b)
