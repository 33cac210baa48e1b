-- Laws of a turn: the cursor goes from extent to extent until the limit or the extents end, and turns in a row are one. Where
-- the cursor stands before each task.
use Prim.Native.Nat.{ℕ, suc, ◌+◌, ◌-◌, ◌≤◌, ◌<◌, min}
use mathlib.Core.Path.{◌≡◌, refl, sym, ◌∙◌, ap}
use mathlib.Core.List.{List, [], ◌∷◌}
use native.Mathlib.Nat.{add-zero, zero-add, sub_self}
use native.Mathlib.Numerals.{add-one}
use native.Mathlib.Decide.{dec_le}
use native.Mathlib.Omega.{arith}
use lib.ListN.{length, get_or, take, drop, length-drop, drop_of_length-le, get_or-eq_default}
use lib.Seq.{drop-cons, drop-drop, drop-nil, drop-append-add, take-add, get_or-take, get_or-drop}
use Rattle.gsd_stores.specs.Stores.{Store, after}
use Rattle.gsd_extents.specs.declared.extent.Extent.{Extent}
use Rattle.gsd_extents.specs.Exec.{Good, Task, tasks_from, tasks, rest, exec, stores_of}
use Rattle.gsd_extents.specs.Extents.{none}
use Rattle.gsd_extents.proofs.Tasks.{tasks_from-length, tasks-rest, rest-take, rest-drop, rest-next, rest-length}
use Rattle.gsd_extents.proofs.Tasks.{exec-append, exec-length, exec-after, stores_of-length}
use Rattle.gsd_steps.specs.Steps.{extents_of, extent_count, Ready}
use Rattle.gsd_steps.proofs.Steps.{extents-length}
use Rattle.gsd_turns.specs.declared.turn.Cursor.{Cursor}
use Rattle.gsd_turns.specs.declared.turn.Turned.{Turned}
use Rattle.gsd_turns.specs.Turns.{ahead, IsCursor, Stands, Walked, TurnSays}
use Rattle.gsd_turns.proofs.Count.{count-cons}

-- the cursor at word w of the r-th extent
abbrev pub word_at : ℕ → ℕ → Cursor
word_at r w = record { extent = r; word = w }

-- Some of the tasks are done

pub walked_none : (sheet img : List ℕ) (all : List Task) → Walked sheet img all 0 img all
unfolding exec
walked_none sheet img all = record { image = refl; left = refl; within = omega arith }

pub walked_more : (sheet img₀ : List ℕ) (all : List Task) (k : ℕ) (img : List ℕ) (here : List Task) (n : ℕ)
    → Walked sheet img₀ all k img here → n ≤ length here → Walked sheet img₀ all (k + n) (exec sheet img (take n here)) (drop n here)
walked_more sheet img₀ all k img here n h l = record {
  image = rw (h.image, h.left, ← exec-append sheet img₀ (take k all) (take n (drop k all)), ← take-add k n all);
  left = rw (h.left, drop-drop);
  within = omega (arith, h.within, ap length h.left ∙ length-drop k all);
}

-- The loop over the extents

pub record Turning (sheet img₀ p : List ℕ) (c₀ : Cursor) (limit : ℕ) (img : List ℕ) (r w left : ℕ) : Type 0 where
  pub walked : Walked sheet img₀ (ahead sheet p c₀) (limit - left) img (ahead sheet p (word_at r w))
  pub free : left ≤ limit
  pub cursor : IsCursor sheet p (word_at r w)
  pub long : length img ≡ length img₀

pub turning-none : {sheet img p : List ℕ} {r w limit : ℕ} → IsCursor sheet p (word_at r w) → Turning sheet img p (word_at r w) limit img r w limit
turning-none {sheet} {img} {p} {r} {w} c = record {
  walked = rw sub_self (walked_none sheet img (ahead sheet p (word_at r w)));
  free = omega arith;
  cursor = c;
  long = refl;
}

-- the extent x at the cursor
module _ (sheet p : List ℕ) (r w : ℕ) (x : Extent) (here : x ≡ get_or (extents_of sheet p) r none) (inside : r < extent_count p) where
  abbrev later : List Extent
  later = drop (r + 1) (extents_of sheet p)

  first-extent : drop r (extents_of sheet p) ≡ x ∷ later
  first-extent = rw (add-one, here) (drop-cons (extents_of sheet p) r none (rw extents-length inside))

  ahead-take : (n : ℕ) → n ≤ x.words - w → take n (ahead sheet p (word_at r w)) ≡ tasks_from x w n
  ahead-take n h = rw first-extent (rest-take x later w n h)

  ahead-drop : (n : ℕ) → n ≤ x.words - w → drop n (ahead sheet p (word_at r w)) ≡ ahead sheet p (word_at r (w + n))
  ahead-drop n h = rw first-extent (rest-drop x later w n h)

  ahead-next : x.words ≤ w → ahead sheet p (word_at r w) ≡ ahead sheet p (word_at (r + 1) 0)
  ahead-next h = rw first-extent (rest-next x later w h)

  ahead-length : x.words - w ≤ length (ahead sheet p (word_at r w))
  ahead-length = rw first-extent (omega (arith, rest-length x later w))

-- behind all extents nothing is left
ahead-end : (sheet p : List ℕ) (r w : ℕ) → extent_count p ≤ r → ahead sheet p (word_at r w) ≡ []
unfolding rest
ahead-end sheet p r w h =
    let over : length (extents_of sheet p) ≤ r = rw extents-length h in
    rw (drop_of_length-le (extents_of sheet p) over)

module _ {sheet img₀ p : List ℕ} {c₀ : Cursor} {limit : ℕ} {img : List ℕ} {r w left : ℕ} (h : Turning sheet img₀ p c₀ limit img r w left) where
  module _ {x : Extent} (here : x ≡ get_or (extents_of sheet p) r none) (inside : r < extent_count p) where
    extent-some : (n : ℕ) → n ≤ x.words - w
        → Walked sheet img₀ (ahead sheet p c₀) (limit - left + n) (exec sheet img (tasks_from x w n)) (ahead sheet p (word_at r (w + n)))
    extent-some n l =
        let few : n ≤ length (ahead sheet p (word_at r w)) = omega (arith, ahead-length sheet p r w x here inside) in
        rw (← ahead-take sheet p r w x here inside n l, ← ahead-drop sheet p r w x here inside n l)
        (walked_more sheet img₀ (ahead sheet p c₀) (limit - left) img (ahead sheet p (word_at r w)) n h.walked few)

    pub extent-word : w ≤ x.words
    extent-word = rw here h.cursor.word

    pub extent-good : Ready (length img₀) sheet p → Good (length img) (length sheet) x
    extent-good g = rw (here, h.long) (g.good r inside)

    -- as many of its words as the limit lets be made
    pub extent-made : (n : ℕ) → n ≡ min left (x.words - w)
        → Turning sheet img₀ p c₀ limit (exec sheet img (tasks_from x w n)) r (w + n) (left - n)
    extent-made n e =
        let made : limit - (left - n) ≡ limit - left + n = omega (arith, h.free) in
        record {
          walked = rw made (extent-some n (omega arith));
          free = omega (arith, h.free);
          cursor = record { extent = h.cursor.extent; word = rw (← here) (omega (arith, extent-word)) };
          long = exec-length sheet img (tasks_from x w n) ∙ h.long;
        }

    -- all its words are made
    pub extent-over : x.words ≤ w → Turning sheet img₀ p c₀ limit img (r + 1) 0 left
    extent-over l = record {
      walked = rw (← ahead-next sheet p r w x here inside l) h.walked;
      free = h.free;
      cursor = record { extent = omega (arith, extents-length sheet p); word = omega arith };
      long = h.long;
    }

  -- the limit is reached
  pub turn-stop : left ≡ 0 → TurnSays sheet img₀ p c₀ limit (record { cursor = word_at r w; made = limit - left }) img
  turn-stop e = record { walked = h.walked; made = omega (arith, h.free, h.walked.within); cursor = h.cursor }

  -- all extents are made
  pub turn_end : (n : ℕ) → n ≡ extent_count p → n ≤ r → TurnSays sheet img₀ p c₀ limit (record { cursor = word_at n 0; made = limit - left }) img
  turn_end n e l =
      let none_left : [] ≡ drop (limit - left) (ahead sheet p c₀) = sym (ahead-end sheet p r w (omega (arith, e))) ∙ h.walked.left in
      record {
        walked = record { image = h.walked.image; left = ahead-end sheet p n 0 (omega (arith, e)) ∙ none_left; within = h.walked.within };
        made = omega (arith, h.free, h.walked.within, ap length none_left ∙ length-drop (limit - left) (ahead sheet p c₀));
        cursor = record { extent = omega (arith, e, extents-length sheet p); word = omega arith };
      }

-- A turn from the beginning, by the stores of all tasks

pub first-cursor : (sheet p : List ℕ) → IsCursor sheet p (word_at 0 0)
first-cursor sheet p = record { extent = omega arith; word = omega arith }

module _ (sheet img p : List ℕ) (limit : ℕ) (t : Turned) (img' : List ℕ) (h : TurnSays sheet img p (word_at 0 0) limit t img') where
  abbrev all-stores : List Store
  all-stores = stores_of sheet img (tasks (extents_of sheet p))

  all-ahead : ahead sheet p (word_at 0 0) ≡ tasks (extents_of sheet p)
  all-ahead = sym (tasks-rest (extents_of sheet p))

  pub turn-made : t.made ≡ min limit (length all-stores)
  turn-made = rw (stores_of-length sheet img (tasks (extents_of sheet p)), ← all-ahead) h.made

  pub turn-image : img' ≡ after img (take t.made all-stores)
  turn-image = rw (← exec-after sheet img (tasks (extents_of sheet p)) t.made, ← all-ahead) h.walked.image

-- turns in a row are one with the sum of their limits
pub turns-join : (sheet img p : List ℕ) (c : Cursor) (l₁ l₂ : ℕ) (t u : Turned) (img₁ img₂ : List ℕ)
    → TurnSays sheet img p c l₁ t img₁ → TurnSays sheet img₁ p t.cursor l₂ u img₂
    → TurnSays sheet img p c (l₁ + l₂) (record { cursor = u.cursor; made = t.made + u.made }) img₂
turns-join sheet img p c l₁ l₂ t u img₁ img₂ h g =
    let all : List Task = ahead sheet p c in
    let next : List Task = ahead sheet p t.cursor in
    let there : length next ≡ length all - t.made = ap length h.walked.left ∙ length-drop t.made all in
    record {
      walked = rw (g.walked.image, g.walked.left) (walked_more sheet img all t.made img₁ next u.made h.walked g.walked.within);
      made = omega (arith, h.made, g.made, there, h.walked.within);
      cursor = g.cursor;
    }

-- The cursor behind the first `done` tasks is sought extent by extent: at extent r there are still `left` of them to pass

pub record Sought (sheet p : List ℕ) (done r left : ℕ) : Type 0 where
  pub extent : r ≤ length (extents_of sheet p)
  pub here : drop left (ahead sheet p (word_at r 0)) ≡ drop done (tasks (extents_of sheet p))

pub sought-none : (sheet p : List ℕ) (done : ℕ) → Sought sheet p done 0 done
sought-none sheet p done = record { extent = omega arith; here = ap (drop done) (sym (tasks-rest (extents_of sheet p))) }

module _ {sheet p : List ℕ} {done r left : ℕ} (h : Sought sheet p done r left) where
  module _ (x : Extent) (here : x ≡ get_or (extents_of sheet p) r none) (inside : r < extent_count p) where
    -- the extent is passed
    pub sought-more : x.words ≤ left → Sought sheet p done (r + 1) (left - x.words)
    sought-more l =
        let all : drop x.words (ahead sheet p (word_at r 0)) ≡ ahead sheet p (word_at (r + 1) 0)
        = ahead-drop sheet p r 0 x here inside x.words (omega arith) ∙ ap (λ w. ahead sheet p (word_at r w)) (zero-add x.words)
        ∙ ahead-next sheet p r x.words x here inside (omega arith) in
        let sum : x.words + (left - x.words) ≡ left = omega arith in
        record {
          extent = omega (arith, extents-length sheet p);
          here = ap (drop (left - x.words)) (sym all) ∙ drop-drop (left - x.words) x.words (ahead sheet p (word_at r 0))
              ∙ ap (λ n. drop n (ahead sheet p (word_at r 0))) sum ∙ h.here;
        }

    -- the cursor stands in it
    pub sought-here : left < x.words → Stands sheet p done (word_at r left)
    sought-here l = record {
      cursor = record { extent = h.extent; word = rw (← here) (omega arith) };
      left = ap (λ w. ahead sheet p (word_at r w)) (sym (zero-add left)) ∙ sym (ahead-drop sheet p r 0 x here inside left (omega arith)) ∙ h.here;
    }

  -- or behind all extents
  pub sought-end : (n : ℕ) → n ≡ extent_count p → n ≤ r → Stands sheet p done (word_at n 0)
  sought-end n e l =
      let none_left : ahead sheet p (word_at r 0) ≡ [] = ahead-end sheet p r 0 (omega (arith, e)) in
      record {
        cursor = record { extent = omega (arith, e, extents-length sheet p); word = omega arith };
        left = ahead-end sheet p n 0 (omega (arith, e)) ∙ sym (drop-nil left) ∙ ap (drop left) (sym none_left) ∙ h.here;
      }

-- The cursor before each task

-- k tasks of the extents are done, and the next one is word w of extent r
pub record Reached (xs : List Extent) (k r w : ℕ) : Type 0 where
  pub word : w < (get_or xs r none).words
  pub here : rest (drop r xs) w ≡ drop k (tasks xs)

-- there is one for each task
pub reached : (xs : List Extent) (k : ℕ) → k < length (tasks xs) → (r : ℕ) × ((w : ℕ) × Reached xs k r w)
unfolding tasks
reached [] k h = absurd (omega arith)
reached (x ∷ xs) k h = go (λ l. reached xs (k - x.words) (omega (arith, count-cons x xs))) (dec_le x.words k)
  where
    go : (x.words ≤ k → (r : ℕ) × ((w : ℕ) × Reached xs (k - x.words) r w)) → Dec (x.words ≤ k) → (r : ℕ) × ((w : ℕ) × Reached (x ∷ xs) k r w)
    go more (yes l) =
        let next = more l in
        let past : k ≡ length (tasks_from x 0 x.words) + (k - x.words) = omega (arith, tasks_from-length x 0 x.words) in
        let left : drop k (tasks (x ∷ xs)) ≡ drop (k - x.words) (tasks xs)
        = ap (λ n. drop n (tasks (x ∷ xs))) past ∙ drop-append-add (tasks_from x 0 x.words) (tasks xs) (k - x.words) in
        (suc next.0, (next.1.0, record { word = next.1.1.word; here = next.1.1.here ∙ sym left }))
    go more (no n) =
        let first : 0 + k ≡ k = omega arith in
        (0, (k, record { word = omega arith; here = rw (tasks-rest (x ∷ xs), rest-drop x xs 0 k (omega arith), first) }))

module _ (xs : List Extent) (k r w : ℕ) (h : Reached xs k r w) where
  pub reached-inside : r < length xs
  reached-inside = go (dec_le (length xs) r)
    where
      go : Dec (length xs ≤ r) → r < length xs
      go (yes l) = absurd (omega (arith, h.word, ap (λ x. x.words) (get_or-eq_default xs none l)))
      go (no n) = omega arith

  extent-here : rest (drop r xs) w ≡ rest (get_or xs r none ∷ drop (suc r) xs) w
  extent-here = ap (λ l. rest l w) (drop-cons xs r none reached-inside)

  pub reached-more : k < length (tasks xs)
  reached-more =
      omega (arith, h.word, rest-length (get_or xs r none) (drop (suc r) xs) w, ap length (sym extent-here ∙ h.here), length-drop k (tasks xs))

  pub reached-task : (no-task : Task) → get_or (tasks xs) k no-task ≡ record { extent = get_or xs r none; word = w }
  unfolding tasks_from
  reached-task no-task =
      let ahead-here : List Task = rest (get_or xs r none ∷ drop (suc r) xs) w in
      let first : take 1 ahead-here ≡ tasks_from (get_or xs r none) w 1 = rest-take (get_or xs r none) (drop (suc r) xs) w 1 (omega (arith, h.word)) in
      ap (λ n. get_or (tasks xs) n no-task) (sym (add-zero k))
      ∙ sym (get_or-drop k (tasks xs) 0 no-task)
      ∙ ap (λ l. get_or l 0 no-task) (sym h.here ∙ extent-here)
      ∙ sym (get_or-take 1 ahead-here 0 no-task (omega arith))
      ∙ ap (λ l. get_or l 0 no-task) first

-- a turn from the beginning that stops within an extent stands there
pub turn-reached : (sheet img p : List ℕ) (limit : ℕ) (t : Turned) (img' : List ℕ) → TurnSays sheet img p (word_at 0 0) limit t img'
    → t.cursor.word < (get_or (extents_of sheet p) t.cursor.extent none).words → Reached (extents_of sheet p) t.made t.cursor.extent t.cursor.word
turn-reached sheet img p limit t img' h l = record { word = l; here = h.walked.left ∙ ap (drop t.made) (sym (tasks-rest (extents_of sheet p))) }
