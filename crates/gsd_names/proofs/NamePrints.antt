-- Laws of prints: they are kept one by one; a print sought among others; where it is none of them, its name is none of theirs.
use Prim.Native.Nat.{ℕ, zero, suc, ◌+◌, ◌-◌, ◌≤◌, ◌<◌}
use mathlib.Core.Path.{◌≡◌, refl, sym, ◌∙◌, ap}
use mathlib.Core.Bool.{Bool, true, false, ◌||◌}
use mathlib.Core.List.{List, [], ◌∷◌}
use native.Mathlib.Decide.{ℕ_discrete}
use native.Mathlib.Omega.{arith}
use lib.ListN.{length, get_or, set}
use lib.Seq.{get_or-set_same, get_or-set_other}
use lib.Dec.{eqb}
use borrow.Author.Count.{below_more}
use borrow.Author.Tests.{eqb-false}
use Rattle.gsd_format.specs.Names.{bytes_of}
use Rattle.gsd_format.specs.Opening.{twins}
use Rattle.gsd_format.proofs.Refusals.{neither}
use Rattle.gsd_names.specs.NameLists.{part_at}
use Rattle.gsd_names.specs.NamePrints.{small_print, Printed, Telling, Paired, among}
use Rattle.gsd_names.proofs.NameLists.{names, twins-apart}

-- an empty name's
pub small-none : (b : List ℕ) → length b ≡ 0 → 0 ≡ small_print b
unfolding small_print
small-none [] e = refl
small-none (x ∷ b) e = absurd (omega arith)

-- Prints kept one by one

pub printed-none : (print : List ℕ → ℕ) (v : Bool) (img starts prints : List ℕ) → Printed print v img starts 0 prints
printed-none print v img starts prints = record { each = λ i l. absurd (omega arith) }

pub printed-more : (print : List ℕ → ℕ) (v : Bool) (img starts prints : List ℕ) (i r : ℕ) → i < length prints → Printed print v img starts i prints →
    r ≡ print (bytes_of img (part_at v starts i)) → Printed print v img starts (i + 1) (set prints i r)
printed-more print v img starts prints i r l h e = record {
  each = below_more (λ k. get_or (set prints i r) k 0 ≡ print (bytes_of img (part_at v starts k))) i
      (λ k m. get_or-set_other prints i k r 0 (λ q. omega arith) ∙ h.each k m)
      (get_or-set_same prints i r 0 l ∙ e);
}

-- equal names have equal prints
pub printed-tell : (print : List ℕ → ℕ) (v : Bool) (img starts : List ℕ) (count : ℕ) (prints : List ℕ) → count ≤ length prints →
    Printed print v img starts count prints → Telling v img starts count prints
printed-tell print v img starts count prints l h = record { room = l; tell = λ i j a b e. h.each i a ∙ ap (print) e ∙ sym (h.each j b) }

-- all are kept
pub printed-all : (print : List ℕ → ℕ) (v : Bool) (img starts prints : List ℕ) (i count : ℕ) → count ≤ i → i ≤ count → Printed print v img starts i prints →
    Printed print v img starts count prints
printed-all print v img starts prints i count l m h = record { each = λ k n. h.each k (omega arith) }

pub paired : (v : Bool) (img starts : List ℕ) (count : ℕ) (prints : List ℕ) (i j : ℕ) →
    Telling v img starts count prints → i < count → j < count → Paired v img starts count prints i j
paired v img starts count prints i j t a b = record {
  kept = (a, b);
  room = (omega (arith, t.room), omega (arith, t.room));
  tell = t.tell i j a b;
}

-- A print sought among those up to count

among-on : (p : ℕ) (prints : List ℕ) (j count : ℕ) → j < count →
    among p prints j (count - j) ≡ (eqb (get_or prints j 0) p || among p prints (j + 1) (count - (j + 1)))
unfolding among
among-on p prints j count h = ap (among p prints j) (let e : count - j ≡ suc (count - (j + 1)) = omega arith in e)

-- found so far, or among those to come
pub among-more : (found : Bool) (p : ℕ) (prints : List ℕ) (j count : ℕ) → j < count →
    (found || among p prints j (count - j)) ≡ (found || eqb (get_or prints j 0) p || among p prints (j + 1) (count - (j + 1)))
among-more true p prints j count h = refl
among-more false p prints j count h = among-on p prints j count h

among-end : (p : ℕ) (prints : List ℕ) (j count : ℕ) → count ≤ j → among p prints j (count - j) ≡ false
unfolding among
among-end p prints j count h = ap (among p prints j) (let e : count - j ≡ 0 = omega arith in e)

pub among-found : (found : Bool) (p : ℕ) (prints : List ℕ) (j count : ℕ) → count ≤ j → (found || among p prints j (count - j)) ≡ found
among-found true p prints j count h = refl
among-found false p prints j count h = among-end p prints j count h

among_none : (n : ℕ) (p : ℕ) (prints : List ℕ) (at : ℕ) → among p prints at n ≡ false → (k : ℕ) → at ≤ k → k < at + n → get_or prints k 0 ≡ p → ⊥
unfolding among
among_none zero p prints at h k l m e = omega arith
among_none (suc n) p prints at h k l m e = go (among_none n p prints (at + 1)) (neither _ _ h) (ℕ_discrete k at)
  where
    go : (among p prints (at + 1) n ≡ false → (i : ℕ) → at + 1 ≤ i → i < at + 1 + n → get_or prints i 0 ≡ p → ⊥) →
        (eqb (get_or prints at 0) p ≡ false) × (among p prints (at + 1) n ≡ false) → Dec (k ≡ at) → ⊥
    go f (a, b) (yes q) = eqb-false (get_or prints at 0) p a (ap (λ i. get_or prints i 0) (sym q) ∙ e)
    go f (a, b) (no q) = f b k (omega arith) (omega arith) e

-- a name whose print is none of those behind it has no twin there
pub twins-silent : (v : Bool) (img starts : List ℕ) (count : ℕ) (prints : List ℕ) (i : ℕ) → Telling v img starts count prints → i < count →
    among (get_or prints i 0) prints (i + 1) (count - (i + 1)) ≡ false → twins (names v img starts count i) ≡ twins (names v img starts count (i + 1))
twins-silent v img starts count prints i h l e =
    twins-apart v img starts count i l
    (λ j a b q. among_none (count - (i + 1)) (get_or prints i 0) prints (i + 1) e j (omega arith) (omega arith) (sym (h.tell i j l b q)))
