-- What is promised of the entries that a lookup probes: the one it finds is among them, or else those where it would stand and
-- those next to its place; they are few; and without a search there is none.
use Rattle.std.specs.Prelude.{ℕ, suc, ◌+◌, ◌-◌, ◌≤◌, ◌<◌, ◌≡◌, true, false, List, [], ◌∷◌, get_or, length, eqb, Ok, Err}
use Rattle.gsd_format.specs.declared.Entry.{Entry}
use Rattle.gsd_format.specs.Header.{v10, layout_of}
use Rattle.gsd_format.specs.Names.{names_of, index_of}
use Rattle.gsd_format.specs.Entries.{key_of, key, entries_of}
use Rattle.gsd_format.specs.Lookup.{none, nth_entry, lookup}
use Rattle.gsd_format.specs.Search.{binary_digits, first_id, last_id}
use Rattle.gsd_format.specs.Calls.{search_test, probes_of}

-- how many entries a frame has
unfoldable pub in_frame : ℕ → List Entry → ℕ
in_frame frame [] = 0
in_frame frame (e ∷ es) = elim (eqb e.frame frame) [ true ↦ suc (in_frame frame es) | false ↦ in_frame frame es ]

-- how many entries stand where one of a frame and an id that none has would stand: in 1.0 all of the frame
unfoldable pub spread : ℕ → ℕ → List Entry → ℕ
spread version frame es = elim (v10 version) [ true ↦ in_frame frame es | false ↦ 0 ]

-- i is one of the numbers
abbrev pub Among : ℕ → List ℕ → Type 0
Among i ps = (k : ℕ) × (k < length ps) × (get_or ps k 0 ≡ i)

-- of n entries the k from place p on and those on both sides of them are among the numbers, where they exist
pub record Around (p k n : ℕ) (ps : List ℕ) : Type 0 where
  pub inside : (i : ℕ) → p ≤ i → i < p + k → Among i ps
  pub next : p + k < n → Among (p + k) ps
  pub before : 0 < p → Among (p - 1) ps

-- a frame and an id that no entry has belong among the k entries from p on: those before them are below all that they could
-- stand among, those behind are above
pub record Belongs (version frame id : ℕ) (es : List Entry) (p k : ℕ) : Type 0 where
  pub high : p + k ≤ length es
  pub before : (i : ℕ) → i < p → key (get_or es i none) < key_of frame (first_id version id)
  pub inside : (i : ℕ) → p ≤ i → i < p + k → (get_or es i none).frame ≡ frame
  pub behind : (i : ℕ) → p + k ≤ i → i < length es → key_of frame (last_id version id) < key (get_or es i none)

pub record Probes (img : List ℕ) (frame : ℕ) (name : List ℕ) : Type 0 where
  -- the entry found is probed
  pub found : (e : Entry) → lookup img frame name ≡ Ok e → (i : ℕ) × (nth_entry img i ≡ Ok e) × Among i (probes_of img frame name)
  -- where there is none, those are that it would stand among, and those next to them
  pub missing : lookup img frame name ≡ Err 42 →
      (p : ℕ) × Belongs (layout_of img).version frame (index_of name (names_of img)) (entries_of img) p (spread (layout_of img).version frame (entries_of img))
      × Around p (spread (layout_of img).version frame (entries_of img)) (length (entries_of img)) (probes_of img frame name)
  -- only listed entries are, and at most one more than their number has binary digits; in 1.0 as many more as the frame has entries
  pub within : (i : ℕ) → Among i (probes_of img frame name) → i < length (entries_of img)
  pub few : length (probes_of img frame name) ≤ binary_digits (length (entries_of img)) + 1 + spread (layout_of img).version frame (entries_of img)
  -- the image's number, 40 and 41 come without a search
  pub unsought : (search_test img frame name ≡ 0 → ⊥) → probes_of img frame name ≡ []
