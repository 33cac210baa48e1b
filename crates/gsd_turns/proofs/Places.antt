-- Where the tasks of a plan store: that follows from the plan alone, whatever the image and the sheet hold by then.
use Prim.Native.Nat.{ℕ, zero, suc, ◌*◌}
use mathlib.Core.Path.{◌≡◌, refl, sym, ◌∙◌, ap}
use mathlib.Core.List.{List, [], ◌∷◌, ◌++◌, map, map-append}
use lib.ListN.{length}
use Rattle.gsd_format.proofs.Bytes.{le_bytes-length}
use Rattle.gsd_format.proofs.Lists.{Each}
use Rattle.gsd_stores.specs.Stores.{Store}
use Rattle.gsd_extents.specs.Exec.{place_of, word_of, applied, Task, tasks_from, tasks, stores_of}
use Rattle.gsd_extents.proofs.Tasks.{tasks-append}
use Rattle.gsd_steps.specs.Numbers.{rows_in}
use Rattle.gsd_steps.specs.Steps.{entry_extent, tab, front_of, extents_of}

abbrev pub places_of : List Task → List ℕ
places_of ts = map (λ t. place_of t.extent t.word) ts

abbrev pub store_places : List Store → List ℕ
store_places xs = map (λ s. s.place) xs

-- the stores lie where the tasks say, a word each
pub stores-places : (sheet img : List ℕ) (ts : List Task) → store_places (stores_of sheet img ts) ≡ places_of ts
unfolding stores_of
stores-places sheet img [] = refl
stores-places sheet img (t ∷ ts) =
    ap {B = List ℕ} (λ l. place_of t.extent t.word ∷ l) (stores-places sheet (applied sheet img t.extent t.word) ts)

pub stores-eight : (sheet img : List ℕ) (ts : List Task) → Each (λ s. length s.bytes ≡ 8) (stores_of sheet img ts)
unfolding stores_of
stores-eight sheet img [] = tt
stores-eight sheet img (t ∷ ts) =
    (le_bytes-length 8 (word_of sheet img t.extent t.word), stores-eight sheet (applied sheet img t.extent t.word) ts)

-- the words of the entries go to the same places whatever sheet has their numbers
entries-any : (a b p : List ℕ) (i n : ℕ) → places_of (tasks (tab (entry_extent a p) i n)) ≡ places_of (tasks (tab (entry_extent b p) i n))
unfolding tab tasks tasks_from entry_extent place_of
entries-any a b p i zero = refl
entries-any a b p i (suc n) =
    ap {B = List ℕ} (λ l. place_of (entry_extent a p i) 0 ∷ l) (entries-any a b p (suc i) n)

split-tasks : (s p : List ℕ) → tasks (extents_of s p) ≡ tasks (front_of p) ++ tasks (tab (entry_extent s p) 0 (4 * rows_in p))
unfolding extents_of
split-tasks s p = tasks-append (front_of p) (tab (entry_extent s p) 0 (4 * rows_in p))

pub places-any : (a b p : List ℕ) → places_of (tasks (extents_of a p)) ≡ places_of (tasks (extents_of b p))
places-any a b p = split a ∙ ap (λ l. places_of (tasks (front_of p)) ++ l) (entries-any a b p 0 (4 * rows_in p)) ∙ sym (split b)
  where
    split : (s : List ℕ) → places_of (tasks (extents_of s p)) ≡ places_of (tasks (front_of p)) ++ places_of (tasks (tab (entry_extent s p) 0 (4 * rows_in p)))
    split s = ap places_of (split-tasks s p) ∙ map-append _ (tasks (front_of p)) (tasks (tab (entry_extent s p) 0 (4 * rows_in p)))
