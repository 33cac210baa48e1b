-- What an append will do, from what it sees of the image and the rows: data, new names, new entries, and which blocks move.
use Rattle.std.specs.Prelude.{ℕ, zero, suc, ◌+◌, ◌*◌, ◌-◌, ◌/◌, max, List, [], ◌∷◌, ◌++◌, Bool, true, false, cond, length, take, ltb, leb}
use Rattle.gsd_format.specs.declared.Entry.{Entry}
use Rattle.gsd_format.specs.Bytes.{zeros, round_up}
use Rattle.gsd_format.specs.Header.{slot_size, segment_size, aligned}
use Rattle.gsd_format.specs.Names.{flat, index_of}
use Rattle.gsd_format.specs.Entries.{frames_of}
use Rattle.gsd_stores.specs.Sheet.{Row}
use Rattle.gsd_stores.specs.Stores.{word_size}
use Rattle.gsd_stores.specs.View.{View, end_of_use}

pub record Plan : Type 0 where
  -- where the data begin: the end of use
  pub start : ℕ
  -- the data, row by row, each padded to whole words
  pub body : List (List ℕ)
  -- the new names in row order
  pub fresh : List (List ℕ)
  -- whether the name block moves, and the segments of the new one
  pub names_move : Bool
  pub segments : ℕ
  -- whether the index block moves, and the slots of the new one
  pub index_moves : Bool
  pub slots : ℕ
  -- the new entries, sorted by id
  pub entries : List Entry

-- data padded with zeros to whole words
abbrev pub padded : List ℕ → List ℕ
padded b = b ++ zeros (round_up word_size (length b) - length b)

unfoldable pub bodies : List Row → List (List ℕ)
bodies [] = []
bodies (r ∷ rs) = padded r.body ∷ bodies rs

-- the position behind texts that lie one behind the other from pos on, each at the next aligned place
unfoldable pub end_from : ℕ → List (List ℕ) → ℕ
end_from pos [] = pos
end_from pos (b ∷ bs) = end_from (aligned pos + length b) bs

-- where the i-th row's data lie, if the data lie from pos on
abbrev pub body_place : ℕ → List Row → ℕ → ℕ
body_place pos rs i = aligned (end_from pos (bodies (take i rs)))

unfoldable pub new_names : List (List ℕ) → List Row → List (List ℕ)
new_names names [] = []
new_names names (r ∷ rs) = elim (ltb (index_of r.name names) (length names)) [ true ↦ new_names names rs | false ↦ r.name ∷ new_names names rs ]

-- the rows' entries in row order, their data from pos on; an empty chunk too has the next aligned place as its location
unfoldable pub new_entries : ℕ → ℕ → List (List ℕ) → List Row → List Entry
new_entries pos frame names [] = []
new_entries pos frame names (r ∷ rs) =
    record { frame = frame; n = r.n; location = aligned pos; m = r.m; id = index_of r.name names; kind = r.kind; flags = 0 }
    ∷ new_entries (aligned pos + length (padded r.body)) frame names rs

-- sorted by id
unfoldable pub inserted : Entry → List Entry → List Entry
inserted e [] = e ∷ []
inserted e (x ∷ xs) = elim (leb e.id x.id) [ true ↦ e ∷ x ∷ xs | false ↦ x ∷ inserted e xs ]

unfoldable pub sorted : List Entry → List Entry
sorted [] = []
sorted (e ∷ es) = inserted e (sorted es)

-- c doubled until it is at least need, with fuel for so many doublings
unfoldable pub doubled : ℕ → ℕ → ℕ → ℕ
doubled zero need c = c
doubled (suc fuel) need c = elim (leb need c) [ true ↦ c | false ↦ doubled fuel need (2 * c) ]

-- the old count (at least 1) doubled as often as needed, at least once
abbrev pub grown : ℕ → ℕ → ℕ
grown need old = doubled need need (2 * max 1 old)

unfoldable pub plan_of : View → List Row → Plan
plan_of v rs =
    let fresh : List (List ℕ) = new_names v.names rs in
    let entries : List Entry = sorted (new_entries (end_of_use v) (frames_of v.entries) (v.names ++ fresh) rs) in
    let name_bytes : ℕ = length (flat v.names) + length (flat fresh) in
    let count : ℕ = length v.entries + length entries in
    record {
      start = end_of_use v;
      body = bodies rs;
      fresh = fresh;
      names_move = ltb (segment_size * v.layout.segments) name_bytes;
      segments = grown ((name_bytes + (segment_size - 1)) / segment_size) v.layout.segments;
      index_moves = ltb v.layout.slots count;
      slots = grown count v.layout.slots;
      entries = entries;
    }

-- the current position after the data, after a new name block, and at the end: the final position
abbrev pub data_end : Plan → ℕ
data_end p = end_from p.start p.body

-- where a new name block starts, and a new index block
abbrev pub names_start : Plan → ℕ
names_start p = aligned (data_end p)

abbrev pub names_done : Plan → ℕ
names_done p = cond p.names_move (names_start p + segment_size * p.segments) (data_end p)

abbrev pub index_start : Plan → ℕ
index_start p = aligned (names_done p)

abbrev pub final_position : Plan → ℕ
final_position p = cond p.index_moves (index_start p + slot_size * p.slots) (names_done p)
