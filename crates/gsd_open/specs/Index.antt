-- The tests of one index entry in parts, what the walk over the entries keeps on its way, and what it answers.
use Rattle.std.specs.Prelude.{ℕ, ◌+◌, ◌*◌, ◌-◌, ◌/◌, ◌^◌, ◌≤◌, ◌<◌, ◌≡◌, Bool, true, false, not, ◌||◌, List, length, get_or, set, ltb, leb, eqb}
use Rattle.gsd_format.specs.declared.Entry.{Entry}
use Rattle.gsd_format.specs.declared.Layout.{Layout}
use Rattle.gsd_format.specs.Bytes.{meets}
use Rattle.gsd_format.specs.Types.{known, chunk_size}
use Rattle.gsd_format.specs.Refusals.{◌⇒◌, ◌▹◌}
use Rattle.gsd_format.specs.Header.{v10, header_size, greatest_length}
use Rattle.gsd_format.specs.Entries.{id_range, key_of, key, frames_of, chunks_end}
use Rattle.gsd_format.specs.Opening.{most_names, greatest_frame}
use Rattle.gsd_open.specs.declared.index.Walk.{Walk}

-- above the key of every entry that passes: the most that can be least, which the walk keeps on its way, one more than the key
-- of the entry before or 0 for the first
abbrev pub keys_end : ℕ
keys_end = key_of (greatest_frame + 1) 0

-- the frame of the entry before plus 1, or 0: an id has 16 bits, so the next multiple of their range tells it
abbrev pub frames_to : ℕ → ℕ
frames_to least = (least + (id_range - 1)) / id_range

-- r stands for a whole number of bytes: it is that number, or both are more than any slice has
pub record Capped (whole r : ℕ) : Type 0 where
  pub exact : whole ≤ greatest_length → r ≡ whole
  pub beyond : greatest_length < whole → greatest_length < r
  pub fits : r ≤ 2 ^ 63

-- 12 to 14: the entry by itself
unfoldable pub fields_test : ℕ → ℕ → Entry → ℕ
fields_test version names e =
    (ltb e.location header_size || leb (2 ^ 63) e.location ⇒ 12)
    ▹ (not (known version e.kind) ⇒ 13)
    ▹ (leb names e.id ⇒ 14)

-- 16 and 17: n bytes from place a lie in the slice and outside both blocks
unfoldable pub room_test : Layout → ℕ → ℕ → ℕ
room_test l a n =
    (ltb l.len (a + n) ⇒ 16)
    ▹ (meets a n l.index (32 * l.slots) || meets a n l.namelist (64 * l.segments) ⇒ 17)

-- May the entry not stand there? By what the walk keeps: least, and in 1.0 for each id one more than the frame of the last entry
-- with it, or 0. A frame falls where even the keys of the next one begin below least
unfoldable pub misplaced_by : ℕ → ℕ → List ℕ → Entry → Bool
misplaced_by version least last e = elim (v10 version) [
  | true ↦ ltb (key_of (e.frame + 1) 0) least || eqb (get_or last e.id 0) (e.frame + 1)
  | false ↦ ltb (key e) least
]

-- 12 to 18 for one entry that may not stand there, or may
abbrev pub entry_test_if : Layout → ℕ → Bool → Entry → ℕ
entry_test_if l names bad e =
    fields_test l.version names e ▹ (bad ⇒ 15) ▹ room_test l e.location (chunk_size e) ▹ (ltb greatest_frame e.frame ⇒ 18)

-- by what the walk keeps
unfoldable pub entry_test_by : Layout → ℕ → ℕ → List ℕ → Entry → ℕ
entry_test_by l names least last e = entry_test_if l names (misplaced_by l.version least last e) e

-- an entry is noted among the last frames
unfoldable pub noted : ℕ → List ℕ → Entry → List ℕ
noted version last e = elim (v10 version) [ true ↦ set last e.id (e.frame + 1) | false ↦ last ]

-- in 1.0 the first n ids have a place among them
abbrev pub Places : ℕ → ℕ → List ℕ → Type 0
Places version n last = v10 version ≡ true → n ≤ length last

-- no entry is noted: in 1.0 there is a place for every id, and it has 0
abbrev pub Unnoted : ℕ → List ℕ → Type 0
Unnoted version last = v10 version ≡ true → (length last ≡ most_names) × ((id : ℕ) → id < most_names → get_or last id 0 ≡ 0)

-- what the walk over the listed entries es finds, where it refuses none
pub record Walks (es : List Entry) (r : Walk) : Type 0 where
  pub entries : r.entries ≡ length es
  pub high : r.least ≤ keys_end
  pub frames : frames_to r.least ≡ frames_of es
  pub chunks : r.chunks_end ≡ chunks_end es
