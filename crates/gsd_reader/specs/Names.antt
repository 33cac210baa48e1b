-- One name of a list: where it ends, and where the next one may start; and the first that a test takes.
use Rattle.std.specs.Prelude.{ℕ, ◌+◌, ◌-◌, ◌≤◌, ◌<◌, ◌≡◌, Bool, true, false, List, [], ◌∷◌, length, get_or, Option, Some, None}
use Rattle.gsd_format.specs.declared.Part.{Part}
use Rattle.gsd_format.specs.declared.Reader.{Reader}
use Rattle.gsd_format.specs.Names.{list_parts}
use Rattle.gsd_format.specs.Lookup.{nowhere}
use Rattle.gsd_reader.specs.declared.names.Listed.{Listed}
use Rattle.gsd_reader.specs.declared.names.Name.{Name}

-- r is the first name of the list from start up to stop, and the rest starts at the next place
pub record NextName (version : ℕ) (img : List ℕ) (start stop : ℕ) (r : Name) : Type 0 where
  pub above : start ≤ r.«end»
  pub short : r.«end» ≤ r.next
  pub low : start < r.next
  pub high : r.next ≤ stop
  pub one : list_parts version img start (stop - start) ≡ record { start = start; size = r.«end» - start } ∷ list_parts version img r.next (stop - r.next)

-- the list has that name, or it is empty
abbrev pub NextIf : ℕ → List ℕ → ℕ → ℕ → Option Name → Type 0
NextIf version img start stop (Some r) = NextName version img start stop r
NextIf version img start stop None = list_parts version img start (stop - start) ≡ []

-- a reader's names from a place in its list on
abbrev pub rest_of : Reader → List ℕ → ℕ → List Part
rest_of r img start = list_parts r.version img start (r.namelist + r.size - start)

-- p is the first of them, and the others start at the next place
pub record NextPart (r : Reader) (img : List ℕ) (start : ℕ) (p : Part) (next : ℕ) : Type 0 where
  pub inside : p.start + p.size ≤ next
  pub high : next ≤ r.namelist + r.size
  pub one : rest_of r img start ≡ p ∷ rest_of r img next

-- A test of names is given by what it may say of each. It says no to each of the first n of these parts
abbrev pub NoneTaken : (Listed → Bool → Type 0) → List Part → ℕ → Type 0
NoneTaken Says ps n = (i : ℕ) → i < n → Says (record { id = i; part = get_or ps i nowhere }) false

-- this name is the first of them to which it says yes
pub record Taken (Says : Listed → Bool → Type 0) (ps : List Part) (name : Listed) : Type 0 where
  pub there : name.id < length ps
  pub here : name.part ≡ get_or ps name.id nowhere
  pub before : NoneTaken Says ps name.id
  pub yes : Says name true

-- that name, or it says no to all
abbrev pub FirstTaken : (Listed → Bool → Type 0) → List Part → Option Listed → Type 0
FirstTaken Says ps (Some name) = Taken Says ps name
FirstTaken Says ps None = NoneTaken Says ps (length ps)
