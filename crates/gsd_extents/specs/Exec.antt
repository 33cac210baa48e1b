-- The stores of extents, made one after the other: each word is read in the image as the stores before it left it.
use Rattle.std.specs.Prelude.{ℕ, zero, suc, ◌+◌, ◌*◌, ◌-◌, ◌%◌, ◌≤◌, ◌≡◌, Bool, true, ◌&&◌, List, [], ◌∷◌, ◌++◌, take, eqb, leb}
use Rattle.gsd_format.specs.Bytes.{le, le_bytes, part, stored}
use Rattle.gsd_stores.specs.Stores.{Store}
use Rattle.gsd_extents.specs.declared.extent.Extent.{Extent}
use Rattle.gsd_extents.specs.declared.extent.Kind.{Kind}

-- where word w of an extent goes; the words of a name go from the last to the first
unfoldable pub place_of : Extent → ℕ → ℕ
place_of x w = elim x.kind [ Kind.Name ↦ x.to + 8 * (x.words - 1 - w) | _ ↦ x.to + 8 * w ]

-- the image with a part of the sheet laid over it from place at on
abbrev pub over : List ℕ → List ℕ → ℕ → ℕ → ℕ → List ℕ
over img sheet at from until = stored img at (part sheet from (until - from))

-- the text in which an extent's words are read, and the place of word w there
unfoldable pub text_of : List ℕ → List ℕ → Extent → List ℕ
text_of sheet img x =
    elim x.kind [ Kind.Copy ↦ take x.until img | Kind.Data ↦ take x.until sheet | _ ↦ over img sheet x.value x.from x.until ]

unfoldable pub source_of : Extent → ℕ → ℕ
source_of x w = elim x.kind [ Kind.Name ↦ place_of x w | _ ↦ x.from + 8 * w ]

-- word w of an extent, with the image as it is then
unfoldable pub word_of : List ℕ → List ℕ → Extent → ℕ → ℕ
word_of sheet img x w = elim x.kind [ Kind.Number ↦ x.value | _ ↦ le 8 (text_of sheet img x) (source_of x w) ]

-- its store, and the image after that
abbrev pub store_of : List ℕ → List ℕ → Extent → ℕ → Store
store_of sheet img x w = record { place = place_of x w; bytes = le_bytes 8 (word_of sheet img x w) }

abbrev pub applied : List ℕ → List ℕ → Extent → ℕ → List ℕ
applied sheet img x w = stored img (place_of x w) (le_bytes 8 (word_of sheet img x w))

-- what an extent needs of an image of n bytes and a sheet of m
pub record Good (n m : ℕ) (x : Extent) : Type 0 where
  pub aligned : x.to % 8 ≡ 0
  pub room : x.to + 8 * x.words ≤ n
  pub order : x.from ≤ x.until
  pub image : x.kind ≡ Kind.Copy → x.until ≤ n
  pub sheet : x.kind ≡ Kind.Data → x.until ≤ m
  pub name : x.kind ≡ Kind.Name → (x.until ≤ m) × (x.value + (x.until - x.from) ≤ n)

-- and the same as a test: what the kind reads lies in image and sheet; and so does all of it
unfoldable pub source_keeps : ℕ → ℕ → Extent → Bool
source_keeps n m x =
    elim x.kind [
      | Kind.Copy ↦ leb x.until n
      | Kind.Data ↦ leb x.until m
      | Kind.Number ↦ true
      | Kind.Name ↦ leb x.until m && leb (x.value + (x.until - x.from)) n
    ]

unfoldable pub keeps_to : ℕ → ℕ → Extent → Bool
keeps_to n m x = eqb (x.to % 8) 0 && leb (x.to + 8 * x.words) n && leb x.from x.until && source_keeps n m x

-- a word that is a number, or lies whole before the cut
pub record Near (x : Extent) (w : ℕ) : Type 0 where
  pub known : x.kind ≡ Kind.Name → ⊥
  pub whole : (x.kind ≡ Kind.Number → ⊥) → x.from + 8 * w + 8 ≤ x.until

-- a task: one word of an extent that is to be stored
pub record Task : Type 0 where
  pub extent : Extent
  pub word : ℕ

-- n words of an extent from word w on; all words of all extents; what is left of them at word w of the first extent
unfoldable pub tasks_from : Extent → ℕ → ℕ → List Task
tasks_from x w zero = []
tasks_from x w (suc n) = record { extent = x; word = w } ∷ tasks_from x (suc w) n

unfoldable pub tasks : List Extent → List Task
tasks [] = []
tasks (x ∷ xs) = tasks_from x 0 x.words ++ tasks xs

unfoldable pub rest : List Extent → ℕ → List Task
rest [] w = []
rest (x ∷ xs) w = tasks_from x w (x.words - w) ++ tasks xs

-- the image after the tasks, and the stores that they make
unfoldable pub exec : List ℕ → List ℕ → List Task → List ℕ
exec sheet img [] = img
exec sheet img (t ∷ ts) = exec sheet (applied sheet img t.extent t.word) ts

unfoldable pub stores_of : List ℕ → List ℕ → List Task → List Store
stores_of sheet img [] = []
stores_of sheet img (t ∷ ts) = store_of sheet img t.extent t.word ∷ stores_of sheet (applied sheet img t.extent t.word) ts
