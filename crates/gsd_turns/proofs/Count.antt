-- How many stores a plan makes: the words of its extents, and one for each word of the entries.
use Prim.Native.Nat.{ℕ, zero, suc, ◌+◌, ◌*◌, ◌≤◌, ◌<◌}
use mathlib.Core.Path.{◌≡◌, refl, ap}
use mathlib.Core.List.{List, [], ◌∷◌, ◌++◌}
use native.Mathlib.Numerals.{add-one}
use native.Mathlib.Omega.{arith}
use lib.ListN.{length, get_or, take, drop, length-append, take-append-drop}
use lib.Seq.{take-suc, take_all}
use Rattle.gsd_extents.specs.declared.extent.Extent.{Extent}
use Rattle.gsd_extents.specs.Exec.{tasks}
use Rattle.gsd_extents.specs.Extents.{none}
use Rattle.gsd_extents.proofs.Tasks.{tasks_from-length, tasks-append}
use Rattle.gsd_steps.specs.Numbers.{rows_in}
use Rattle.gsd_steps.specs.Steps.{entry_extent, tab, front_of, front_count, extents_of}
use Rattle.gsd_steps.proofs.Steps.{front_length}
use Rattle.gsd_turns.specs.Turns.{whole_of}

-- the tasks of extents in a row, and of one more extent
pub count-append : (a b : List Extent) → length (tasks (a ++ b)) ≡ length (tasks a) + length (tasks b)
count-append a b = rw (tasks-append a b, length-append)

pub count-cons : (x : Extent) (xs : List Extent) → length (tasks (x ∷ xs)) ≡ x.words + length (tasks xs)
unfolding tasks
count-cons x xs = rw (length-append, tasks_from-length)

count_next : (xs : List Extent) (i : ℕ) → i < length xs → length (tasks (take (i + 1) xs)) ≡ length (tasks (take i xs)) + (get_or xs i none).words
unfolding tasks
count_next xs i h =
    rw (add-one, take-suc xs i none h)
    (omega (arith, count-append (take i xs) (get_or xs i none ∷ []), count-cons (get_or xs i none) []))

count-take : (xs : List Extent) (i : ℕ) → length (tasks (take i xs)) ≤ length (tasks xs)
count-take xs i = omega (arith, count-append (take i xs) (drop i xs), ap (λ l. length (tasks l)) (take-append-drop i xs))

-- extents of one word each
count_ones : (f : ℕ → Extent) (i n : ℕ) → ((k : ℕ) → (f k).words ≡ 1) → length (tasks (tab f i n)) ≡ n
unfolding tab tasks
count_ones f i zero h = refl
count_ones f i (suc n) h = omega (arith, count-cons (f i) (tab f (suc i) n), h i, count_ones f (suc i) n h)

-- the words of the entries do not hang on the sheet, so neither do all
pub count-extents : (sheet p : List ℕ) → length (tasks (extents_of sheet p)) ≡ whole_of p
unfolding extents_of entry_extent
count-extents sheet p =
    omega (
      arith,
      count-append (front_of p) (tab (entry_extent sheet p) 0 (4 * rows_in p)),
      count_ones (entry_extent sheet p) 0 (4 * rows_in p) (λ k. refl),
    )

-- the entries' words, and the words of the first r extents of steps 1 to 5
module _ (p : List ℕ) where
  abbrev pub counted : ℕ → ℕ
  counted r = 4 * rows_in p + length (tasks (take r (front_of p)))

  pub counted_none : counted 0 ≡ 4 * rows_in p
  unfolding tasks
  counted_none = omega arith

  pub counted-more : (r : ℕ) (x : Extent) → x ≡ get_or (front_of p) r none → r < front_count p → counted (r + 1) ≡ counted r + x.words
  counted-more r x e h = rw e (omega (arith, count_next (front_of p) r (rw front_length h)))

  pub counted-within : (r : ℕ) → counted r ≤ whole_of p
  counted-within r = omega (arith, count-take (front_of p) r)

  pub counted-all : counted (front_count p) ≡ whole_of p
  counted-all = ap (λ l. 4 * rows_in p + length (tasks l)) (take_all (front_count p) (front_of p) (omega (arith, front_length p)))
