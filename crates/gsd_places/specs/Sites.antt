-- Where the blocks go that do not suffice: behind the data, the name block first.
use Rattle.std.specs.Prelude.{ℕ, ◌+◌, ◌*◌, ◌/◌, Bool, cond, ltb, eqb}
use Rattle.gsd_format.specs.declared.Layout.{Layout}
use Rattle.gsd_format.specs.Header.{aligned}
use Rattle.gsd_stores.specs.Plan.{grown}
use Rattle.gsd_places.specs.declared.Sites.{Sites}

-- the count of a new block, 0 if the old one stays
abbrev pub new_count : Bool → ℕ → ℕ → ℕ
new_count moves need old = cond moves (grown need old) 0

-- the position behind so many units from `at` on, or the old one if there are none
abbrev pub behind_units : ℕ → ℕ → ℕ → ℕ → ℕ
behind_units count at unit position = cond (eqb count 0) position (at + unit * count)

-- position: behind the data; bytes: of all names; count: of all entries
abbrev pub sites_of : Layout → ℕ → ℕ → ℕ → Sites
sites_of l position bytes count =
    let segments : ℕ = new_count (ltb (64 * l.segments) bytes) ((bytes + 63) / 64) l.segments in
    let slots : ℕ = new_count (ltb l.slots count) count l.slots in
    let names : ℕ = behind_units segments (aligned position) 64 position in
    record {
      names_at = aligned position;
      segments = segments;
      names_done = names;
      index_at = aligned names;
      slots = slots;
      last = behind_units slots (aligned names) 32 names;
    }
