-- The slots that a query searches, in any bytes, and the probes that it makes of them.
use Rattle.std.specs.Prelude.{ℕ, ◌+◌, ◌*◌, ◌^◌, ◌≤◌, ◌<◌, min, ◌≡◌, true, false, List, length, get_or, Result}
use Rattle.gsd_format.specs.declared.Entry.{Entry}
use Rattle.gsd_format.specs.Header.{v10}
use Rattle.gsd_format.specs.Entries.{id_range, slots_at}
use Rattle.gsd_format.specs.Search.{Halved, halved, probed, searched}
use Rattle.gsd_search.specs.declared.probing.Query.{Query}

-- its slots
abbrev pub slots_for : List ℕ → Query → List Entry
slots_for img q = slots_at img q.index q.count

-- their halving
abbrev pub halved_for : List ℕ → Query → Halved
halved_for img q = halved q.version q.frame q.id (slots_for img q)

-- where the slots end that its walk from a place may read: in 2.x it reads one
unfoldable pub walk_end : ℕ → ℕ → ℕ → ℕ
walk_end version place count = elim (v10 version) [ true ↦ count | false ↦ min (place + 1) count ]

-- the numbers of the slots that it probes, in their order
abbrev pub probes_for : List ℕ → Query → List ℕ
probes_for img q = probed q.version q.frame q.id (slots_for img q)

-- what it answers
abbrev pub answer_for : List ℕ → Query → Result Entry ℕ
answer_for img q = searched q.version q.frame q.id (slots_for img q)

-- the slots lie in the image, no place of them wraps, and the id has 16 bits
pub record Fits (img : List ℕ) (q : Query) : Type 0 where
  pub slots : q.index + 32 * q.count ≤ length img
  pub end : q.index + 32 * q.count < 2 ^ 64
  pub short : q.id < id_range

-- i is the next of the probes after so many of them
pub record Next (probes : List ℕ) (made i : ℕ) : Type 0 where
  pub more : made < length probes
  pub next : get_or probes made 0 ≡ i
