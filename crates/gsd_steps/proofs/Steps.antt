-- Laws of a plan's list of extents: which extent stands where, how many there are, and that those of the entries are good.
use Prim.Native.Nat.{ℕ, zero, suc, ◌+◌, ◌*◌, ◌-◌, ◌%◌, ◌≤◌, ◌<◌}
use mathlib.Core.Path.{◌≡◌, refl, sym, ◌∙◌, ap}
use mathlib.Core.List.{List, [], ◌∷◌, ◌++◌, append_assoc}
use native.Mathlib.Nat.{add-zero}
use native.Mathlib.Omega.{arith}
use lib.ListN.{length, get_or, length-append, get_or-append}
use lib.Seq.{get_or-append-add}
use Rattle.gsd_steps.specs.Numbers.{rows_in, fresh_in, slot_in}
use Rattle.gsd_extents.specs.declared.extent.Extent.{Extent}
use Rattle.gsd_extents.specs.Exec.{Good}
use Rattle.gsd_extents.specs.Extents.{none}
use Rattle.gsd_extents.proofs.Extents.{good-number}
use Rattle.gsd_steps.specs.declared.Move.{Move}
use Rattle.gsd_steps.specs.Steps.{clear_extent, data_extent, name_move, index_move, move_extent, name_extent, of_four, entry_extent}
use Rattle.gsd_steps.specs.Steps.{tab, front_of, front_count, extents_of, extent_count}

-- Tables

pub tab-length : (f : ℕ → Extent) (i n : ℕ) → length (tab f i n) ≡ n
unfolding tab
tab-length f i zero = refl
tab-length f i (suc n) = ap suc (tab-length f (suc i) n)

pub tab-at : (f : ℕ → Extent) (i n k : ℕ) (d : Extent) → k < n → get_or (tab f i n) k d ≡ f (i + k)
unfolding tab
tab-at f i zero k d h = absurd (omega arith)
tab-at f i (suc n) zero d h = ap f (sym (add-zero i))
tab-at f i (suc n) (suc k) d h = tab-at f (suc i) n k d (omega arith) ∙ ap f (omega arith)

tab-first : (f : ℕ → Extent) (n i : ℕ) → i < n → get_or (tab f 0 n) i none ≡ f i
tab-first f n i h = tab-at f 0 n i none h ∙ ap f (omega arith)

-- an extent in a front of n extents, and one behind it
within : (f : ℕ → Extent) (n : ℕ) (b : List Extent) (i : ℕ) → i < n → get_or (tab f 0 n ++ b) i none ≡ f i
within f n b i h = get_or-append (tab f 0 n) b none i (omega (arith, tab-length f 0 n)) ∙ tab-first f n i h

behind : (f : ℕ → Extent) (n : ℕ) (b : List Extent) (i : ℕ) → n ≤ i → get_or (tab f 0 n ++ b) i none ≡ get_or b (i - n) none
behind f n b i h =
    ap (λ k. get_or (tab f 0 n ++ b) k none) (let p : i ≡ length (tab f 0 n) + (i - n) = omega (arith, tab-length f 0 n) in p)
    ∙ get_or-append-add (tab f 0 n) b (i - n) none

-- The extents of a plan, group by group

module _ (p : List ℕ) where
  abbrev from-slots : List Extent
  from-slots = tab (move_extent (index_move p)) 0 4

  abbrev from-names : List Extent
  from-names = tab (name_extent p) 0 (fresh_in p) ++ from-slots

  abbrev from_block : List Extent
  from_block = tab (move_extent (name_move p)) 0 4 ++ from-names

  abbrev from-data : List Extent
  from-data = tab (data_extent p) 0 (rows_in p) ++ from_block

  front-is : front_of p ≡ tab (clear_extent p) 0 3 ++ from-data
  unfolding front_of
  front-is = simp append_assoc

  pub front_length : length (front_of p) ≡ front_count p
  front_length = rw front-is (simp (length-append, tab-length) (omega arith))

  -- the r-th extent of steps 1 to 5, by the number that is left of r behind the groups before its own
  module _ (r : ℕ) where
    pub at_clear : r < 3 → get_or (front_of p) r none ≡ clear_extent p r
    at_clear h = rw front-is (within (clear_extent p) 3 from-data r h)

    module _ (a : 3 ≤ r) where
      to-data : get_or (front_of p) r none ≡ get_or from-data (r - 3) none
      to-data = rw front-is (behind (clear_extent p) 3 from-data r a)

      pub at-data : r - 3 < rows_in p → get_or (front_of p) r none ≡ data_extent p (r - 3)
      at-data h = to-data ∙ within (data_extent p) (rows_in p) from_block (r - 3) h

      module _ (b : rows_in p ≤ r - 3) where
        to_block : get_or (front_of p) r none ≡ get_or from_block (r - 3 - rows_in p) none
        to_block = to-data ∙ behind (data_extent p) (rows_in p) from_block (r - 3) b

        pub at_block : r - 3 - rows_in p < 4 → get_or (front_of p) r none ≡ move_extent (name_move p) (r - 3 - rows_in p)
        at_block h = to_block ∙ within (move_extent (name_move p)) 4 from-names (r - 3 - rows_in p) h

        module _ (c : 4 ≤ r - 3 - rows_in p) where
          to-names : get_or (front_of p) r none ≡ get_or from-names (r - 3 - rows_in p - 4) none
          to-names = to_block ∙ behind (move_extent (name_move p)) 4 from-names (r - 3 - rows_in p) c

          pub at_name : r - 3 - rows_in p - 4 < fresh_in p → get_or (front_of p) r none ≡ name_extent p (r - 3 - rows_in p - 4)
          at_name h = to-names ∙ within (name_extent p) (fresh_in p) from-slots (r - 3 - rows_in p - 4) h

          pub at_slots : fresh_in p ≤ r - 3 - rows_in p - 4 → r - 3 - rows_in p - 4 - fresh_in p < 4
              → get_or (front_of p) r none ≡ move_extent (index_move p) (r - 3 - rows_in p - 4 - fresh_in p)
          at_slots d h =
              to-names ∙ behind (name_extent p) (fresh_in p) from-slots (r - 3 - rows_in p - 4) d
              ∙ tab-first (move_extent (index_move p)) 4 (r - 3 - rows_in p - 4 - fresh_in p) h

-- those of steps 1 to 5 stand first, and behind them the words of the entries
module _ (sheet p : List ℕ) where
  abbrev entries : List Extent
  entries = tab (entry_extent sheet p) 0 (4 * rows_in p)

  pub extents-length : length (extents_of sheet p) ≡ extent_count p
  unfolding extents_of
  extents-length = simp (length-append, tab-length) (omega (arith, front_length p))

  pub at_front : (r : ℕ) → r < front_count p → get_or (extents_of sheet p) r none ≡ get_or (front_of p) r none
  unfolding extents_of
  at_front r h = get_or-append (front_of p) entries none r (omega (arith, front_length p))

  pub at_entry : (r : ℕ) → front_count p ≤ r → r - front_count p < 4 * rows_in p → get_or (extents_of sheet p) r none ≡ entry_extent sheet p (r - front_count p)
  unfolding extents_of
  at_entry r h l =
      ap (λ k. get_or (front_of p ++ entries) k none) (let q : r ≡ length (front_of p) + (r - front_count p) = omega (arith, front_length p) in q)
      ∙ get_or-append-add (front_of p) entries (r - front_count p) none
      ∙ tab-first (entry_extent sheet p) (4 * rows_in p) (r - front_count p) l

-- the places of an entry's words
pub four-fit : (i : ℕ) → (of_four 0 8 24 16 i ≤ 24) × (of_four 0 8 24 16 i % 8 ≡ 0)
unfolding of_four
four-fit zero = (omega arith, refl)
four-fit (suc zero) = (omega arith, refl)
four-fit (suc (suc zero)) = (omega arith, refl)
four-fit (suc (suc (suc i))) = (omega arith, refl)

pub four-read : (i : ℕ) → i < 4 → get_or (0 ∷ 8 ∷ 24 ∷ 16 ∷ []) i 0 ≡ of_four 0 8 24 16 i
unfolding of_four
four-read zero h = refl
four-read (suc zero) h = refl
four-read (suc (suc zero)) h = refl
four-read (suc (suc (suc zero))) h = refl
four-read (suc (suc (suc (suc i)))) h = absurd (omega arith)

-- its extents are good where its slot is
pub good-entry : (n m : ℕ) (sheet p : List ℕ) → slot_in p % 8 ≡ 0 → slot_in p + 32 * rows_in p ≤ n → (k : ℕ) → k < 4 * rows_in p → Good n m (entry_extent sheet p k)
unfolding entry_extent
good-entry n m sheet p a h k l = good-number _ 1 _ (omega (arith, four-fit (k % 4))) (omega (arith, four-fit (k % 4)))

-- Blocks

pub block-stays : (b : Move) (k : ℕ) → b.count ≡ 0 → move_extent b k ≡ none
unfolding move_extent
block-stays b zero e = rw e
block-stays b (suc zero) e = rw e
block-stays b (suc (suc zero)) e = rw e
block-stays b (suc (suc (suc k))) e = rw e
