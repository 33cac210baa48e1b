-- The two blocks of a plan that matches an append: they move as the append says, with the entries that it copies, and end in the
-- image.
use Prim.Native.Nat.{ℕ, ◌+◌, ◌*◌, ◌/◌, ◌≤◌}
use mathlib.Core.Path.{◌≡◌, refl, ◌∙◌, ap}
use mathlib.Core.Bool.{Bool, true, false, cond}
use mathlib.Core.List.{List}
use native.Mathlib.Nat.{mul-zero}
use native.Mathlib.Omega.{arith}
use lib.ListN.{length}
use Rattle.gsd_format.specs.Bytes.{part}
use Rattle.gsd_format.specs.Names.{flat}
use Rattle.gsd_format.proofs.Bytes.{part_length}
use Rattle.gsd_stores.specs.View.{View}
use Rattle.gsd_stores.specs.Sheet.{Row}
use Rattle.gsd_stores.specs.Plan.{Plan, data_end, names_start, names_done, index_start}
use Rattle.gsd_stores.proofs.Texts.{end_more}
use Rattle.gsd_stores.proofs.Plan.{positions, taken}
use Rattle.gsd_stores.proofs.View.{Is, is-long}
use Rattle.gsd_stores.proofs.Valid.{Ready as Accepted}
use Rattle.gsd_matched.specs.Matches.{NumbersMatch}
use Rattle.gsd_steps.specs.Steps.{name_move, index_move, copied_in}
use Rattle.gsd_matched.proofs.Blocks.{Moving, holding, copied-words}

units : (k : ℕ) (flag : Bool) (total : ℕ) → k * cond flag total 0 ≡ cond flag (k * total) 0
units k true total = refl
units k false total = mul-zero k

-- the entries' bytes
abbrev pub entries_in : List ℕ → View → List ℕ
entries_in x v = part x v.layout.index (32 * length v.entries)

module _ {x : List ℕ} {v : View} (is : Is x v) where
  pub entries-inside : v.layout.index + 32 * length v.entries ≤ length x
  entries-inside = omega (arith, is.entries.few, is.blocks.index_high, is-long is)

  pub entries-long : length (entries_in x v) ≡ 32 * length v.entries
  entries-long = part_length x v.layout.index (32 * length v.entries) entries-inside

-- a new block ends in the image
module _ {v : View} {rs : List Row} {d : Plan} (r : Accepted v rs d) where
  pub names-end : d.names_move ≡ true → names_start d + 64 * d.segments ≤ v.layout.len
  names-end e = omega (arith, taken d.names_move (names_start d + 64 * d.segments) (data_end d) e, positions d, r.fits)

  pub index-end : d.index_moves ≡ true → index_start d + 32 * d.slots ≤ v.layout.len
  index-end e = omega (arith, taken d.index_moves (index_start d + 32 * d.slots) (names_done d) e, r.fits)

module _ {x : List ℕ} {v : View} {rs : List Row} {d : Plan} {sheet p : List ℕ} (r : Accepted v rs d) (is : Is x v) (m : NumbersMatch v sheet d p) where
  pub names-move : Moving (name_move p) d.names_move v.layout.namelist (flat v.names) (names_start d) (8 * d.segments) d.segments
  names-move = record {
    from = m.namelist;
    until = m.names_ends;
    to = m.names_at;
    words = ap (λ n. 8 * n) m.segments ∙ units 8 d.names_move d.segments;
    count = m.segments;
    some = omega (arith, r.plan.twice_segments);
    before = omega (arith, is.names.few, r.plan.room.names, end_more d.body d.start);
    fits = omega (arith, is.names.few, r.plan.twice_segments);
  }

  pub index-move : Moving (index_move p) d.index_moves v.layout.index (entries_in x v) (index_start d) (4 * d.slots) d.slots
  index-move = record {
    from = m.index;
    until = omega (arith, m.entries_ends, entries-long is);
    to = m.index_at;
    words = ap (λ n. 4 * n) m.slots ∙ units 4 d.index_moves d.slots;
    count = m.slots;
    some = omega (arith, r.plan.twice_slots);
    before = omega (arith, entries-long is, is.entries.few, r.plan.room.index, end_more d.body d.start, (positions d).0);
    fits = omega (arith, entries-long is, is.entries.few, r.plan.twice_slots);
  }

  -- with the index all listed entries are copied
  pub entries-copied : copied_in p ≡ cond d.index_moves (length v.entries) 0
  entries-copied = ap (λ n. n / 4) (copied-words (index_move p) index-move) ∙ fourth d.index_moves
    where
      fourth : (flag : Bool) → cond flag (holding (entries_in x v)) 0 / 4 ≡ cond flag (length v.entries) 0
      fourth true = omega (arith, entries-long is)
      fourth false = refl
