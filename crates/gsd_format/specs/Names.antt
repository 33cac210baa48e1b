-- The name list: in 2.x names follow one another from the start of the name block, each closed by a zero byte; in 1.0 each has a
-- segment of its own. It ends at the first name that would start with zero, or at the end of the block. The n-th name has id n.
use Rattle.std.specs.Prelude.{ℕ, zero, suc, ◌+◌, ◌*◌, ◌-◌, ◌/◌, ◌≤◌, ◌<◌, List, [], ◌∷◌, ◌++◌, map, true, false, get_or, length, eqb}
use Rattle.gsd_format.specs.declared.Layout.{Layout}
use Rattle.gsd_format.specs.declared.Part.{Part}
use Rattle.gsd_format.specs.Bytes.{part, same}
use Rattle.gsd_format.specs.Header.{v10, segment_size, layout_of}

-- 2.x: the closed names among the n bytes from at, where the name at hand began at start
unfoldable pub parts_at : List ℕ → ℕ → ℕ → ℕ → List Part
parts_at img start at zero = []
parts_at img start at (suc n) = elim (eqb (get_or img at 0) 0) [
  | true ↦ elim (eqb start at) [ true ↦ [] | false ↦ record { start = start; size = at - start } ∷ parts_at img (at + 1) (at + 1) n ]
  | false ↦ parts_at img start (at + 1) n
]

-- how many of the n bytes from at stand before the first zero among them
unfoldable pub before_zero : List ℕ → ℕ → ℕ → ℕ
before_zero img at zero = 0
before_zero img at (suc n) = elim (eqb (get_or img at 0) 0) [ true ↦ 0 | false ↦ suc (before_zero img (at + 1) n) ]

-- 1.0: the names in the n segments from at, each up to the first zero of its segment; bytes behind that zero mean nothing
unfoldable pub segments_at : List ℕ → ℕ → ℕ → List Part
segments_at img at zero = []
segments_at img at (suc n) = elim (eqb (get_or img at 0) 0) [
  | true ↦ []
  | false ↦ record { start = at; size = before_zero img at segment_size } ∷ segments_at img (at + segment_size) n
]

-- where the names of a name block lie, each without its zero
unfoldable pub block_parts : List ℕ → Layout → List Part
block_parts img l = elim (v10 l.version) [
  | true ↦ segments_at img l.namelist l.segments
  | false ↦ parts_at img l.namelist l.namelist (segment_size * l.segments)
]

-- where the listed names lie
unfoldable pub name_parts : List ℕ → List Part
name_parts img = block_parts img (layout_of img)

abbrev pub bytes_of : List ℕ → Part → List ℕ
bytes_of img p = part img p.start p.size

unfoldable pub names_of : List ℕ → List (List ℕ)
names_of img = map (bytes_of img) (name_parts img)

-- the names of a name block
abbrev pub block_names : List ℕ → Layout → List (List ℕ)
block_names img l = map (bytes_of img) (block_parts img l)

-- 2.x: the closed names among the n bytes from at
abbrev pub names_at : List ℕ → ℕ → ℕ → List (List ℕ)
names_at img at n = map (bytes_of img) (parts_at img at at n)

-- the bytes of a name list: each name and its zero
unfoldable pub flat : List (List ℕ) → List ℕ
flat [] = []
flat (n ∷ ns) = n ++ 0 ∷ flat ns

-- how many bytes a list takes: in 1.0 all of each name's segment
unfoldable pub list_size : ℕ → List (List ℕ) → ℕ
list_size version names = elim (v10 version) [ true ↦ segment_size * length names | false ↦ length (flat names) ]

-- where the names of n bytes from at lie, each without its zero; a name or segment that these do not hold whole is none
unfoldable pub list_parts : ℕ → List ℕ → ℕ → ℕ → List Part
list_parts version img at n = elim (v10 version) [ true ↦ segments_at img at (n / segment_size) | false ↦ parts_at img at at n ]

-- the place of a name in the list, that is its id; the list's length if it is not there
unfoldable pub index_of : List ℕ → List (List ℕ) → ℕ
index_of b [] = 0
index_of b (n ∷ ns) = elim (same b n) [ true ↦ 0 | false ↦ suc (index_of b ns) ]

-- b is one of the names, or none of them
abbrev pub Has : List ℕ → List (List ℕ) → Type 0
Has b ns = index_of b ns < length ns

abbrev pub Lacks : List ℕ → List (List ℕ) → Type 0
Lacks b ns = length ns ≤ index_of b ns

-- no two of the names are equal
abbrev pub Distinct : List (List ℕ) → Type 0
Distinct [] = Unit
Distinct (n ∷ ns) = Lacks n ns × Distinct ns
