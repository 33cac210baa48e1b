-- The search of the index by halving: which entries it probes on the way to the place of a frame and an id, and what it
-- finds from there on. A probe reads one entry; an entry that is probed twice stands in the list twice.
use Rattle.std.specs.Prelude.{ℕ, zero, suc, ◌+◌, ◌-◌, ◌/◌, List, [], ◌∷◌, ◌++◌, true, false, get_or, length, take, drop, ltb, eqb, Result, Ok, Err}
use lib.Ieee.{size}
use Rattle.gsd_format.specs.declared.Entry.{Entry}
use Rattle.gsd_format.specs.Header.{v10}
use Rattle.gsd_format.specs.Entries.{id_range, key_of, key}
use Rattle.gsd_format.specs.Lookup.{none}

-- how many binary digits a number has, 0 none: the least d with n below 2 ^ d (size-lt, size-le of lib.Ieee.Digits)
abbrev pub binary_digits : ℕ → ℕ
binary_digits n = size n

-- a halving: the numbers of the entries probed, in their order, and the place where it ends
pub record Halved : Type 0 where
  pub probes : List ℕ
  pub place : ℕ

abbrev pub ended : ℕ → Halved
ended at = record { probes = []; place = at }

abbrev pub probing : ℕ → Halved → Halved
probing i h = record { probes = i ∷ h.probes; place = h.place }

-- The n entries from lo are halved until none is left, in at most `most` steps: the entry in the middle is probed, and
-- those behind it are left where its key is below least, else those before it
unfoldable pub halve : ℕ → List Entry → ℕ → ℕ → ℕ → Halved
halve zero es least lo n = ended lo
halve (suc most) es least lo zero = ended lo
halve (suc most) es least lo (suc n) = probing (lo + suc n / 2) (elim (ltb (key (get_or es (lo + suc n / 2) none)) least) [
  | true ↦ halve most es least (lo + suc n / 2 + 1) (suc n - suc n / 2 - 1)
  | false ↦ halve most es least lo (suc n / 2)
])

-- the least and the greatest id of the entries in whose place one with this id would stand: in 2.x the id itself, in 1.0, where
-- ids are in no order, all that a frame can have
unfoldable pub first_id : ℕ → ℕ → ℕ
first_id version id = elim (v10 version) [ true ↦ 0 | false ↦ id ]

unfoldable pub last_id : ℕ → ℕ → ℕ
last_id version id = elim (v10 version) [ true ↦ id_range - 1 | false ↦ id ]

-- all entries are halved to the place of a frame and an id: that of the first entry which is not below the frame and that least id
abbrev pub halved : ℕ → ℕ → ℕ → List Entry → Halved
halved version frame id es = halve (length es) es (key_of frame (first_id version id)) 0 (length es)

-- a walk: the numbers of the entries probed, in their order, and the answer
pub record Walk : Type 0 where
  pub probes : List ℕ
  pub answer : Result Entry ℕ

abbrev pub stopped : List ℕ → Result Entry ℕ → Walk
stopped probes answer = record { probes = probes; answer = answer }

abbrev pub stepping : ℕ → Walk → Walk
stepping i w = record { probes = i ∷ w.probes; answer = w.answer }

-- The entries, the first of which has the number at, are read one by one: up to the one with the frame and the id, or to the
-- first of another frame
unfoldable pub walk : ℕ → ℕ → ℕ → List Entry → Walk
walk frame id at [] = stopped [] (Err 42)
walk frame id at (e ∷ es) = elim (eqb e.frame frame) [
  | true ↦ elim (eqb e.id id) [ true ↦ stopped (at ∷ []) (Ok e) | false ↦ stepping at (walk frame id (at + 1) es) ]
  | false ↦ stopped (at ∷ []) (Err 42)
]

-- how far: in 2.x no entry behind the one at the place can be it
unfoldable pub reach : ℕ → List Entry → List Entry
reach version es = elim (v10 version) [ true ↦ es | false ↦ take 1 es ]

-- from the place on
abbrev pub walked : ℕ → ℕ → ℕ → List Entry → Walk
walked version frame id es =
    let place : ℕ = (halved version frame id es).place in
    walk frame id place (reach version (drop place es))

-- the numbers of the entries that the search probes, in their order
unfoldable pub probed : ℕ → ℕ → ℕ → List Entry → List ℕ
probed version frame id es = (halved version frame id es).probes ++ (walked version frame id es).probes

-- what it answers
unfoldable pub searched : ℕ → ℕ → ℕ → List Entry → Result Entry ℕ
searched version frame id es = (walked version frame id es).answer
