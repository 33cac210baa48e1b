-- Store by store: at the cursor that the first k stores of an append lead to, the contract of `next_store` gives the word and the
-- eight bytes of the k-th store of the defined list, for each k below the whole.
use Prim.Native.Nat.{ℕ, suc, ◌+◌, ◌%◌, ◌≤◌, ◌<◌}
use mathlib.Core.Path.{◌≡◌, sym, ◌∙◌, ap}
use mathlib.Core.List.{List, [], ◌∷◌}
use native.Mathlib.Omega.{arith}
use lib.ListN.{length, get_or, take}
use lib.Seq.{take-suc}
use Rattle.gsd_format.specs.Bytes.{le_bytes, stored}
use Rattle.gsd_stores.specs.Stores.{Store, after}
use Rattle.gsd_stores.specs.Append.{stores_for}
use Rattle.gsd_stores.proofs.Stores.{after-append}
use Rattle.gsd_extents.specs.declared.extent.Extent.{Extent}
use Rattle.gsd_extents.specs.Exec.{place_of, word_of, store_of, Good, Task, tasks}
use Rattle.gsd_extents.specs.Extents.{none}
use Rattle.gsd_extents.proofs.Words.{place-within, place-aligned}
use Rattle.gsd_extents.proofs.Tasks.{stores_of-at}
use Rattle.gsd_extents.proofs.OneStore.{OneStore, one_store}
use Rattle.gsd_steps.specs.Steps.{extents_of}
use Rattle.gsd_steps.proofs.Steps.{extents-length}
use Rattle.gsd_turns.proofs.Turns.{Reached, reached, reached-inside, reached-more, reached-task}
use Rattle.gsd_states.proofs.Appends.{Carried, plan-stores, plan-count, plan-prefix, append-ready}

-- the k-th store of an append; behind the last there is none
abbrev no_store : Store
no_store = record { place = 0; bytes = [] }

abbrev pub kth_store : List ℕ → List ℕ → ℕ → Store
kth_store x sheet k = get_or (stores_for x sheet) k no_store

-- on the image img that the first k stores left of x, word w of the extent e is the k-th
pub record IsStore (x sheet : List ℕ) (k : ℕ) (img : List ℕ) (e : Extent) (w : ℕ) : Type 0 where
  pub place : place_of e w ≡ (kth_store x sheet k).place
  pub bytes : le_bytes 8 (word_of sheet img e w) ≡ (kth_store x sheet k).bytes
  -- it lies at a multiple of 8 inside the slice
  pub aligned : place_of e w % 8 ≡ 0
  pub inside : place_of e w + 8 ≤ length x
  -- and a call of `next_store` makes it and no other
  pub made : {img' : List ℕ} → OneStore img sheet e w img' → img' ≡ stored img (kth_store x sheet k).place (kth_store x sheet k).bytes
  pub left : {img' : List ℕ} → OneStore img sheet e w img' → img' ≡ after x (take (suc k) (stores_for x sheet))

module _ {x sheet p : List ℕ} (carries : Carried x sheet p) where
  -- each store has its cursor
  store-reached : (k : ℕ) → k < length (stores_for x sheet) → (r : ℕ) × ((w : ℕ) × Reached (extents_of sheet p) k r w)
  store-reached k l = reached (extents_of sheet p) k (rw (plan-count carries) l)

  module _ (k r w : ℕ) (h : Reached (extents_of sheet p) k r w) where
    abbrev before : List ℕ
    before = after x (take k (stores_for x sheet))

    below : k < length (stores_for x sheet)
    below = rw (← plan-count carries) (reached-more (extents_of sheet p) k r w h)

    store_is : kth_store x sheet k ≡ store_of sheet before (get_or (extents_of sheet p) r none) w
    store_is =
        let all : List Task = tasks (extents_of sheet p) in
        let no-task : Task = record { extent = none; word = 0 } in
        let task : get_or all k no-task ≡ record { extent = get_or (extents_of sheet p) r none; word = w } = reached-task (extents_of sheet p) k r w h no-task in
        ap (λ l. get_or l k no_store) (sym (plan-stores carries))
        ∙ stores_of-at sheet x all k no-task no_store (reached-more (extents_of sheet p) k r w h)
        ∙ (λ i. store_of sheet (plan-prefix carries k i) (task i).extent (task i).word)

    one_more : after x (take (suc k) (stores_for x sheet)) ≡ stored before (kth_store x sheet k).place (kth_store x sheet k).bytes
    unfolding after
    one_more = ap (after x) (take-suc (stores_for x sheet) k no_store below) ∙ after-append x (take k (stores_for x sheet)) (kth_store x sheet k ∷ [])

    store-made : {img' : List ℕ} → OneStore before sheet (get_or (extents_of sheet p) r none) w img' →
        img' ≡ stored before (kth_store x sheet k).place (kth_store x sheet k).bytes
    store-made q = one_store q ∙ ap (λ s. stored before s.place s.bytes) (sym store_is)

    -- wherever such a cursor is, the next store there is this one
    pub next-store : IsStore x sheet k before (get_or (extents_of sheet p) r none) w
    next-store =
        let inside = rw (extents-length sheet p) at (reached-inside (extents_of sheet p) k r w h) in
        let good : Good (length x) (length sheet) (get_or (extents_of sheet p) r none) = (append-ready carries).good r inside in
        record {
          place = ap (λ s. s.place) (sym store_is);
          bytes = ap (λ s. s.bytes) (sym store_is);
          aligned = place-aligned (get_or (extents_of sheet p) r none) w good.aligned;
          inside = omega (arith, place-within (get_or (extents_of sheet p) r none) w h.word, good.room);
          made = store-made;
          left = λ q. store-made q ∙ sym one_more;
        }

  -- For each k below the whole, at the cursor reached after k stores, the contract of `next_store` gives the word and the eight bytes
  -- of the k-th store of the defined list
  pub each-store : (k : ℕ) → k < length (stores_for x sheet) →
      (r : ℕ) × ((w : ℕ) × (Reached (extents_of sheet p) k r w × IsStore x sheet k (after x (take k (stores_for x sheet))) (get_or (extents_of sheet p) r none) w))
  each-store k l =
      let at = store-reached k l in
      (at.0, (at.1.0, (at.1.1, next-store k at.0 at.1.0 at.1.1)))
