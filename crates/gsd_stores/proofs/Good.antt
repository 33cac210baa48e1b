-- What a plan must be for its stores to be safe: the data lie behind all that is in use, both lists fit their blocks, the blocks fit
-- the slice, and the new entries are sound in the view that the moves lead to.
use Prim.Native.Nat.{ℕ, ◌+◌, ◌*◌, ◌%◌, ◌≤◌, ◌<◌}
use mathlib.Core.Path.{◌≡◌}
use mathlib.Core.List.{◌++◌}
use lib.ListN.{length, get_or}
use Rattle.gsd_format.specs.Names.{flat}
use Rattle.gsd_format.specs.Lookup.{none}
use Rattle.gsd_format.proofs.Lists.{Each}
use Rattle.gsd_format.proofs.Names.{Named}
use Rattle.gsd_format.proofs.Entries.{Fits}
use Rattle.gsd_format.proofs.Verdict.{AllSound}
use Rattle.gsd_stores.specs.View.{View}
use Rattle.gsd_stores.specs.Plan.{Plan, final_position}
use Rattle.gsd_stores.specs.Steps.{name_block, index_block}
use Rattle.gsd_stores.proofs.Plan.{segments_after, slots_after}
use Rattle.gsd_stores.proofs.View.{with_name_block, with_index_block, with_names, Room}

-- the view after step 3, after step 4 and after step 5
abbrev pub roomy : View → Plan → View
roomy v p = with_name_block v (name_block v p) (segments_after v p)

abbrev pub named : View → Plan → View
named v p = with_names (roomy v p) (v.names ++ p.fresh)

abbrev pub ready : View → Plan → View
ready v p = with_index_block (named v p) (index_block v p) (slots_after v p)

pub record Good (v : View) (p : Plan) : Type 0 where
  pub namelist_even : v.layout.namelist % 8 ≡ 0
  pub body_even : Each (λ b. length b % 8 ≡ 0) p.body
  pub room : Room v p.start 0 p.start
  pub fresh : Each Named p.fresh
  pub more_segments : v.layout.segments ≤ segments_after v p
  pub names_fit : length (flat v.names) + length (flat p.fresh) ≤ 64 * segments_after v p
  pub more_slots : v.layout.slots ≤ slots_after v p
  pub entries_fit : length v.entries + length p.entries ≤ slots_after v p
  pub fits : final_position p ≤ v.layout.len
  pub sound : AllSound (ready v p).layout (length (v.names ++ p.fresh)) p.entries
  pub exact : (i : ℕ) → i < length p.entries → Fits (get_or p.entries i none)
