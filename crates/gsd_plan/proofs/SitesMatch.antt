-- The sites that the code finds for the blocks are the append's.
use Prim.Native.Nat.{ℕ, ◌+◌, ◌*◌, ◌<◌}
use mathlib.Core.Path.{◌≡◌, refl, ◌∙◌, ap}
use mathlib.Core.Bool.{Bool, true, false, cond}
use mathlib.Core.List.{List}
use native.Mathlib.Omega.{arith}
use lib.ListN.{length}
use borrow.Author.Tests.{ne_eqb}
use Rattle.gsd_format.specs.Header.{aligned}
use Rattle.gsd_format.specs.Names.{flat}
use Rattle.gsd_stores.specs.View.{View}
use Rattle.gsd_stores.specs.Sheet.{Row}
use Rattle.gsd_stores.specs.Plan.{Plan, plan_of, data_end, names_done, index_start, final_position}
use Rattle.gsd_stores.specs.Steps.{name_block, index_block}
use Rattle.gsd_stores.proofs.Plan.{Planned, planned as plan-is}
use Rattle.gsd_places.specs.declared.Sites.{Sites}
use Rattle.gsd_places.specs.Sites.{behind_units, sites_of}
use Rattle.gsd_plan.specs.Planning.{block_at}

-- the bytes of all names and the number of all entries that a plan leads to
abbrev pub all_bytes : View → Plan → ℕ
all_bytes v d = length (flat v.names) + length (flat d.fresh)

abbrev pub all_entries : View → Plan → ℕ
all_entries v d = length v.entries + length d.entries

abbrev pub planned_sites : View → Plan → Sites
planned_sites v d = sites_of v.layout (data_end d) (all_bytes v d) (all_entries v d)

-- a count that is 0 where the block stays tells what the Bool tells
behind_moved : (moves : Bool) (n at unit position : ℕ) → 0 < n → behind_units (cond moves n 0) at unit position ≡ cond moves (at + unit * n) position
behind_moved true n at unit position h = rw (ne_eqb n 0 (λ e. omega arith))
behind_moved false n at unit position h = refl

block-moved : (moves : Bool) (n new old : ℕ) → 0 < n → block_at (cond moves n 0) new old ≡ cond moves new old
block-moved true n new old h = rw (ne_eqb n 0 (λ e. omega arith))
block-moved false n new old h = refl

module _ (v : View) (rs : List Row) where
  abbrev d : Plan
  d = plan_of v rs

  planned : Planned v rs d
  planned = plan-is v rs

  some-segments : 0 < d.segments
  some-segments = omega (arith, planned.twice_segments)

  some-slots : 0 < d.slots
  some-slots = omega (arith, planned.twice_slots)

  pub sites-segments : (planned_sites v d).segments ≡ cond d.names_move d.segments 0
  unfolding plan_of
  sites-segments = refl

  pub sites-slots : (planned_sites v d).slots ≡ cond d.index_moves d.slots 0
  unfolding plan_of
  sites-slots = refl

  pub sites-done : (planned_sites v d).names_done ≡ names_done d
  sites-done =
      ap (λ n. behind_units n (aligned (data_end d)) 64 (data_end d)) sites-segments
      ∙ behind_moved d.names_move d.segments (aligned (data_end d)) 64 (data_end d) some-segments

  pub sites-index : (planned_sites v d).index_at ≡ index_start d
  sites-index = ap aligned sites-done

  pub sites-last : (planned_sites v d).last ≡ final_position d
  sites-last =
      (λ i. behind_units (sites-slots i) (sites-index i) 32 (sites-done i))
      ∙ behind_moved d.index_moves d.slots (index_start d) 32 (names_done d) some-slots

  -- the blocks that hold the new names and entries
  pub name-block : block_at (planned_sites v d).segments (planned_sites v d).names_at v.layout.namelist ≡ name_block v d
  name-block =
      ap (λ n. block_at n (aligned (data_end d)) v.layout.namelist) sites-segments
      ∙ block-moved d.names_move d.segments (aligned (data_end d)) v.layout.namelist some-segments

  pub index-block : block_at (planned_sites v d).slots (planned_sites v d).index_at v.layout.index ≡ index_block v d
  index-block =
      (λ i. block_at (sites-slots i) (sites-index i) v.layout.index)
      ∙ block-moved d.index_moves d.slots (index_start d) v.layout.index some-slots
