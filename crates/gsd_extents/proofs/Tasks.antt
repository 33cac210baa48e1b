-- Laws of tasks: how many there are, parts of them, what is left at a cursor, and the stores that they make.
use Prim.Native.Nat.{ℕ, zero, suc, ◌+◌, ◌*◌, ◌-◌, ◌≤◌, ◌<◌}
use mathlib.Core.Path.{◌≡◌, refl, ◌∙◌, ap}
use mathlib.Core.List.{List, [], ◌∷◌, ◌++◌, append_assoc}
use native.Mathlib.Nat.{add-zero, sub-zero, sub_self, add-sub_cancel_left, sub-eq-zero_of_le}
use native.Mathlib.Omega.{arith}
use lib.ListN.{length, get_or, take, drop, length-append, take-append-drop}
use lib.Seq.{take-append-le, drop-append-le}
use Rattle.gsd_format.specs.Header.{greatest_length}
use Rattle.gsd_format.proofs.Bytes.{stored-length}
use Rattle.gsd_format.proofs.Lists.{Each}
use Rattle.gsd_stores.specs.Stores.{Store, after}
use Rattle.gsd_extents.specs.declared.extent.Extent.{Extent}
use Rattle.gsd_extents.specs.Exec.{Good, store_of, applied, Task, tasks_from, tasks, rest, exec, stores_of}

-- Words of one extent

pub tasks_from-length : (x : Extent) (w n : ℕ) → length (tasks_from x w n) ≡ n
unfolding tasks_from
tasks_from-length x w zero = refl
tasks_from-length x w (suc n) = ap suc (tasks_from-length x (suc w) n)

tasks_from-none : (x : Extent) (w : ℕ) (ts : List Task) → tasks_from x w 0 ++ ts ≡ ts
unfolding tasks_from
tasks_from-none x w ts = refl

pub tasks_from-take : (x : Extent) (w n m : ℕ) → n ≤ m → take n (tasks_from x w m) ≡ tasks_from x w n
unfolding tasks_from
tasks_from-take x w zero m h = refl
tasks_from-take x w (suc n) zero h = absurd (omega arith)
tasks_from-take x w (suc n) (suc m) h = ap (λ l. record { extent = x; word = w } ∷ l) (tasks_from-take x (suc w) n m (omega arith))

pub tasks_from-drop : (x : Extent) (w n m : ℕ) → n ≤ m → drop n (tasks_from x w m) ≡ tasks_from x (w + n) (m - n)
unfolding tasks_from
tasks_from-drop x w zero m h = rw (add-zero, sub-zero)
tasks_from-drop x w (suc n) zero h = absurd (omega arith)
tasks_from-drop x w (suc n) (suc m) h =
    tasks_from-drop x (suc w) n m (omega arith)
    ∙ ap (λ v. tasks_from x v (m - n)) (let e : suc w + n ≡ w + suc n = omega arith in e)
    ∙ ap (tasks_from x (w + suc n)) (let e : m - n ≡ suc m - suc n = omega arith in e)

-- All words of all extents

pub tasks-append : (a b : List Extent) → tasks (a ++ b) ≡ tasks a ++ tasks b
unfolding tasks
tasks-append [] b = refl
tasks-append (x ∷ a) b = rw (tasks-append a b, append_assoc)

pub tasks-rest : (xs : List Extent) → tasks xs ≡ rest xs 0
unfolding tasks rest
tasks-rest [] = refl
tasks-rest (x ∷ xs) = rw sub-zero

-- extents in an image that opens have few words
pub tasks-few : (n m : ℕ) (es : List Extent) → n ≤ greatest_length → Each (Good n m) es → length (tasks es) ≤ 134217728 * length es
unfolding tasks
tasks-few n m [] s h = omega arith
tasks-few n m (e ∷ es) s h = simp (length-append, tasks_from-length) (omega (arith, h.0.room, tasks-few n m es s h.1))

-- What is left at a cursor

rest_more : (x : Extent) (xs : List Extent) (w : ℕ) → rest (x ∷ xs) w ≡ tasks_from x w (x.words - w) ++ tasks xs
unfolding rest
rest_more x xs w = refl

module _ (x : Extent) (xs : List Extent) (w : ℕ) where
  pub rest-take : (n : ℕ) → n ≤ x.words - w → take n (rest (x ∷ xs) w) ≡ tasks_from x w n
  rest-take n h =
      let l : n ≤ length (tasks_from x w (x.words - w)) = rw tasks_from-length h in
      rw (rest_more x xs w) (take-append-le n (tasks_from x w (x.words - w)) (tasks xs) l ∙ tasks_from-take x w n (x.words - w) h)

  pub rest-drop : (n : ℕ) → n ≤ x.words - w → drop n (rest (x ∷ xs) w) ≡ rest (x ∷ xs) (w + n)
  rest-drop n h =
      let l : n ≤ length (tasks_from x w (x.words - w)) = rw tasks_from-length h in
      let z : x.words - w - n ≡ x.words - (w + n) = omega arith in
      rw (rest_more x xs w, rest_more x xs (w + n), drop-append-le n (tasks_from x w (x.words - w)) (tasks xs) l, tasks_from-drop x w n (x.words - w) h, z)

  pub rest-length : length (rest (x ∷ xs) w) ≡ x.words - w + length (tasks xs)
  rest-length = rw (rest_more x xs w, length-append, tasks_from-length)

-- the next extent
pub rest-next : (x : Extent) (xs : List Extent) (w : ℕ) → x.words ≤ w → rest (x ∷ xs) w ≡ rest xs 0
rest-next x xs w h = rw (rest_more x xs w, sub-eq-zero_of_le h, ← tasks-rest xs) (tasks_from-none x w (tasks xs))

-- The image after the tasks

pub exec-append : (sheet img : List ℕ) (a b : List Task) → exec sheet img (a ++ b) ≡ exec sheet (exec sheet img a) b
unfolding exec
exec-append sheet img [] b = refl
exec-append sheet img (t ∷ a) b = exec-append sheet (applied sheet img t.extent t.word) a b

pub exec-length : (sheet img : List ℕ) (ts : List Task) → length (exec sheet img ts) ≡ length img
unfolding exec
exec-length sheet img [] = refl
exec-length sheet img (t ∷ ts) = exec-length sheet (applied sheet img t.extent t.word) ts ∙ stored-length img _ _

-- The stores of an extent's words from w up to i are made: so many, and of img they left img'
pub record Made (sheet img : List ℕ) (x : Extent) (w i : ℕ) (img' : List ℕ) : Type 0 where
  pub order : w ≤ i
  pub image : img' ≡ exec sheet img (tasks_from x w (i - w))

module _ (sheet img : List ℕ) (x : Extent) (w : ℕ) where
  pub made_none : Made sheet img x w w img
  unfolding exec tasks_from
  made_none = record { order = omega arith; image = rw sub_self }

  pub made_one : Made sheet img x w (w + 1) (applied sheet img x w)
  unfolding exec tasks_from
  made_one = record { order = omega arith; image = rw add-sub_cancel_left }

  pub made_all : (n : ℕ) (img' : List ℕ) → Made sheet img x w (w + n) img' → img' ≡ exec sheet img (tasks_from x w n)
  made_all n img' h = h.image ∙ ap (λ k. exec sheet img (tasks_from x w k)) (add-sub_cancel_left w n)

  module _ (i : ℕ) (img' : List ℕ) (h : Made sheet img x w i img') where
    pub made-length : length img' ≡ length img
    made-length = ap length h.image ∙ exec-length sheet img (tasks_from x w (i - w))

    -- and then those from i up to j
    pub made_more : (j : ℕ) (img'' : List ℕ) → Made sheet img' x i j img'' → Made sheet img x w j img''
    made_more j img'' g =
        let few : i - w ≤ j - w = omega (arith, g.order) in
        let here : w + (i - w) ≡ i = omega (arith, h.order) in
        let left : j - w - (i - w) ≡ j - i = omega (arith, h.order) in
        record {
          order = omega (arith, h.order, g.order);
          image = rw (
            g.image,
            h.image,
            ← exec-append sheet img (tasks_from x w (i - w)) (tasks_from x i (j - i)),
            ← take-append-drop (i - w) (tasks_from x w (j - w)),
            tasks_from-take x w (i - w) (j - w) few,
            tasks_from-drop x w (i - w) (j - w) few,
            here,
            left,
          );
        }

-- The stores that the tasks make

pub stores_of-length : (sheet img : List ℕ) (ts : List Task) → length (stores_of sheet img ts) ≡ length ts
unfolding stores_of
stores_of-length sheet img [] = refl
stores_of-length sheet img (t ∷ ts) = ap suc (stores_of-length sheet (applied sheet img t.extent t.word) ts)

pub stores_of-append : (sheet img : List ℕ) (a b : List Task) → stores_of sheet img (a ++ b) ≡ stores_of sheet img a ++ stores_of sheet (exec sheet img a) b
unfolding stores_of exec
stores_of-append sheet img [] b = refl
stores_of-append sheet img (t ∷ a) b = ap (λ l. store_of sheet img t.extent t.word ∷ l) (stores_of-append sheet (applied sheet img t.extent t.word) a b)

-- the first k tasks are the first k stores
pub exec-after : (sheet img : List ℕ) (ts : List Task) (k : ℕ) → exec sheet img (take k ts) ≡ after img (take k (stores_of sheet img ts))
unfolding exec stores_of after
exec-after sheet img ts zero = refl
exec-after sheet img [] (suc k) = refl
exec-after sheet img (t ∷ ts) (suc k) = exec-after sheet (applied sheet img t.extent t.word) ts k

pub exec-stores : (sheet img : List ℕ) (ts : List Task) → exec sheet img ts ≡ after img (stores_of sheet img ts)
unfolding exec stores_of after
exec-stores sheet img [] = refl
exec-stores sheet img (t ∷ ts) = exec-stores sheet (applied sheet img t.extent t.word) ts

-- the k-th store is that of the k-th task, on the image that the tasks before it left
pub stores_of-at : (sheet img : List ℕ) (ts : List Task) (k : ℕ) (no-task : Task) (no_store : Store) → k < length ts
    → get_or (stores_of sheet img ts) k no_store ≡ store_of sheet (exec sheet img (take k ts)) (get_or ts k no-task).extent (get_or ts k no-task).word
unfolding exec stores_of
stores_of-at sheet img [] k no-task no_store h = absurd (omega arith)
stores_of-at sheet img (t ∷ ts) zero no-task no_store h = refl
stores_of-at sheet img (t ∷ ts) (suc k) no-task no_store h = stores_of-at sheet (applied sheet img t.extent t.word) ts k no-task no_store (omega arith)
