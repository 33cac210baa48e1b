-- The name list as code keeps it, in an array of places: the first is that of the block, and place i + 1 lies behind the i-th
-- name's zero. By the version a name starts behind the one before it, or at a segment of its own.
use Rattle.std.specs.Prelude.{ℕ, zero, suc, ◌+◌, ◌*◌, ◌-◌, ◌≤◌, ◌<◌, ◌≡◌, Bool, true, false, List, [], ◌∷◌, map, length, get_or}
use Rattle.gsd_format.specs.declared.Layout.{Layout}
use Rattle.gsd_format.specs.declared.Part.{Part}
use Rattle.gsd_format.specs.Header.{v10, segment_size}
use Rattle.gsd_format.specs.Names.{block_parts, bytes_of, flat, block_names}
use Rattle.gsd_format.specs.Opening.{most_names, open_name}
use Rattle.gsd_names.specs.declared.list.NameList.{NameList}

-- where the i-th name starts, in 1.0 (true) or 2.x
abbrev pub start_at : Bool → List ℕ → ℕ → ℕ
start_at v starts i = elim v [ true ↦ get_or starts 0 0 + segment_size * i | false ↦ get_or starts i 0 ]

-- the i-th name goes from there up to the byte before place i + 1
abbrev pub part_at : Bool → List ℕ → ℕ → Part
part_at v starts i = record { start = start_at v starts i; size = get_or starts (i + 1) 0 - 1 - start_at v starts i }

-- n names from the i-th on
unfoldable pub parts_from : Bool → List ℕ → ℕ → ℕ → List Part
parts_from v starts i zero = []
parts_from v starts i (suc n) = part_at v starts i ∷ parts_from v starts (i + 1) n

abbrev pub names_in : Bool → List ℕ → List ℕ → ℕ → List (List ℕ)
names_in v img starts count = map (bytes_of img) (parts_from v starts 0 count)

-- the i-th name's place is kept, and lies in an image of len bytes
pub record Span (v : Bool) (starts : List ℕ) (i len : ℕ) : Type 0 where
  pub kept : i < most_names
  pub some : start_at v starts i < get_or starts (i + 1) 0
  pub within : get_or starts (i + 1) 0 ≤ len

abbrev pub Spans : Bool → List ℕ → ℕ → ℕ → Type 0
Spans v starts count len = (i : ℕ) → i < count → Span v starts i len

-- a name of so many bytes stands at start, with a zero behind it
pub record Closed (img : List ℕ) (start size : ℕ) : Type 0 where
  pub some : 0 < size
  pub full : (k : ℕ) → k < size → get_or img (start + k) 0 ≡ 0 → ⊥
  pub closed : get_or img (start + size) 0 ≡ 0

-- r is behind the zero of the name at start; or it is start, and where no zero stands there, none stands before stop
pub record Past (img : List ℕ) (start stop r : ℕ) : Type 0 where
  pub above : start ≤ r
  pub within : r ≤ stop
  pub one : start < r → Closed img start (r - 1 - start)
  pub none : r ≡ start → (get_or img start 0 ≡ 0 → ⊥) → (k : ℕ) → k < stop - start → get_or img (start + k) 0 ≡ 0 → ⊥

-- r tells whether a name of the block is open; if none is, it is the list of the names, and starts has their places
pub record NamesFound (img : List ℕ) (l : Layout) (starts : List ℕ) (r : NameList) : Type 0 where
  pub «open» : r.«open» ≡ open_name img l (block_names img l)
  pub count : r.«open» ≡ false → r.count ≡ length (block_parts img l)
  pub parts : r.«open» ≡ false → r.count ≤ most_names → parts_from (v10 l.version) starts 0 r.count ≡ block_parts img l
  pub spans : r.«open» ≡ false → r.count ≤ most_names → Spans (v10 l.version) starts r.count (length img)
  pub above : l.namelist ≤ r.list_end
  pub list_end : v10 l.version ≡ false → r.list_end ≡ l.namelist + length (flat (block_names img l))
