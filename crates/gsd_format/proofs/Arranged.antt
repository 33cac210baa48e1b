-- The order of entries by the version: 2.x sorts them by their keys, 1.0 keeps the order of writing. What both have in common:
-- frames never decrease, and a frame and an id stand at one place at most.
use Prim.Native.Nat.{ℕ, zero, suc, ◌+◌, ◌≤◌, ◌<◌}
use mathlib.Core.Path.{◌≡◌, refl, sym, ◌∙◌, ap}
use mathlib.Core.Logic.{◌↔◌}
use mathlib.Core.Bool.{Bool, true, false, true≢false, ◌&&◌, ◌||◌}
use mathlib.Core.List.{List, [], ◌∷◌}
use native.Mathlib.Decide.{dec_lt}
use native.Mathlib.Omega.{arith}
use lib.ListN.{length, get_or}
use lib.Dec.{ltb, leb, eqb}
use borrow.Author.Tests.{ltb-false, eq-eqb, lt-leb, le-leb, lt-ltb, le-ltb}
use Rattle.gsd_format.specs.declared.Entry.{Entry}
use Rattle.gsd_format.specs.Header.{v10}
use Rattle.gsd_format.specs.Entries.{key_of, key}
use Rattle.gsd_format.specs.Opening.{repeated, misplaced}
use Rattle.gsd_format.specs.Lookup.{none}
use Rattle.gsd_format.proofs.Refusals.{same_test, neither}
use Rattle.gsd_format.proofs.Entries.{Ordered, ShortIds, keys-rise}

-- 15 of one entry

-- the least key that may follow in 2.x: one above that of the last entry
unfoldable pub least_of : List Entry → ℕ
least_of [] = 0
least_of (b ∷ before) = key b + 1

not-above : (a b : ℕ) → leb a b ≡ ltb a (b + 1)
not-above a b = go (dec_lt b a)
  where
    go : Dec (b < a) → leb a b ≡ ltb a (b + 1)
    go (yes h) = lt-leb a b h ∙ sym (le-ltb a (b + 1) (omega arith))
    go (no h) = le-leb a b (omega arith) ∙ sym (lt-ltb a (b + 1) (omega arith))

pub misplaced-recent : (version : ℕ) (before : List Entry) (e : Entry) → v10 version ≡ false →
    misplaced version before e ≡ ltb (key e) (least_of before)
unfolding misplaced least_of
misplaced-recent version [] e r = sym (le-ltb (key e) 0 (omega arith))
misplaced-recent version (b ∷ before) e r = rw (r, misplaced) (not-above (key e) (key b))

-- the last entry's id has 16 bits
abbrev pub ShortLast : List Entry → Type 0
ShortLast [] = Unit
ShortLast (b ∷ before) = b.id < 65536

-- a frame falls where even the next one's keys begin below that least
pub misplaced-10 : (version : ℕ) (before : List Entry) (e : Entry) → v10 version ≡ true → ShortLast before →
    misplaced version before e ≡ (ltb (key_of (e.frame + 1) 0) (least_of before) || repeated before e)
unfolding misplaced least_of repeated
misplaced-10 version [] e r s = rw (le-ltb (key_of (e.frame + 1) 0) 0 (omega arith))
misplaced-10 version (b ∷ before) e r s =
    rw (r, misplaced)
    (ap (λ t. t || repeated (b ∷ before) e)
    (same_test e.frame b.frame (key_of (e.frame + 1) 0) (key b + 1) (λ h. omega arith) (λ h. omega arith)))

-- 15 from entry to entry
abbrev pub Arranged : ℕ → List Entry → List Entry → Type 0
Arranged version before [] = Unit
Arranged version before (e ∷ es) = (misplaced version before e ≡ false) × Arranged version (e ∷ before) es

-- 2.x: the keys rise
pub arranged-ordered : (es : List Entry) (version : ℕ) (before : List Entry) → v10 version ≡ false →
    Arranged version before es ↔ Ordered (least_of before) es
unfolding least_of
arranged-ordered [] version before r = (λ h. tt, λ h. tt)
arranged-ordered (e ∷ es) version before r = go (arranged-ordered es version (e ∷ before) r)
  where
    go : Arranged version (e ∷ before) es ↔ Ordered (key e + 1) es → Arranged version before (e ∷ es) ↔ Ordered (least_of before) (e ∷ es)
    go (to, from) = (
      λ h. (ltb-false (key e) (least_of before) (sym (misplaced-recent version before e r) ∙ h.0), to h.1),
      λ h. (misplaced-recent version before e r ∙ le-ltb (key e) (least_of before) h.0, from h.1),
    )

-- 1.0: no frame is below that of the entry before, and none of those before has the frame and the id
frame-10 : (version : ℕ) (b : Entry) (before : List Entry) (e : Entry) → v10 version ≡ true → misplaced version (b ∷ before) e ≡ false →
    b.frame ≤ e.frame
unfolding misplaced
frame-10 version b before e r h = ltb-false e.frame b.frame (neither _ _ (rw (r, misplaced) at h)).0

new-10 : (version : ℕ) (before : List Entry) (e : Entry) → v10 version ≡ true → misplaced version before e ≡ false → repeated before e ≡ false
unfolding misplaced repeated
new-10 version [] e r h = refl
new-10 version (b ∷ before) e r h = (neither (ltb e.frame b.frame) _ (rw (r, misplaced) at h)).1

-- In every version

frame_on : (version : ℕ) (b : Entry) (before : List Entry) (e : Entry) → e.id < 65536 → misplaced version (b ∷ before) e ≡ false →
    b.frame ≤ e.frame
unfolding least_of
frame_on version b before e s h = go (v10 version) refl
  where
    go : (v : Bool) → v10 version ≡ v → b.frame ≤ e.frame
    go true r = frame-10 version b before e r h
    go false r = omega (arith, ltb-false (key e) (key b + 1) (sym (misplaced-recent version (b ∷ before) e r) ∙ h))

-- frames never decrease
module _ (version : ℕ) where
  frames-from : (es : List Entry) (b : Entry) (before : List Entry) → Arranged version (b ∷ before) es → ShortIds es → (i : ℕ) → i < length es →
      b.frame ≤ (get_or es i none).frame
  frames-from [] b before h s i l = absurd (omega arith)
  frames-from (e ∷ es) b before h s zero l = frame_on version b before e (s 0 (omega arith)) h.0
  frames-from (e ∷ es) b before h s (suc i) l =
      omega (
        arith,
        frame_on version b before e (s 0 (omega arith)) h.0,
        frames-from es e (b ∷ before) h.1 (λ j u. s (suc j) (omega arith)) i (omega arith),
      )

  pub arranged-rise : (es before : List Entry) → Arranged version before es → ShortIds es → (i j : ℕ) → i ≤ j → j < length es →
      (get_or es i none).frame ≤ (get_or es j none).frame
  arranged-rise [] before h s i j l u = absurd (omega arith)
  arranged-rise (e ∷ es) before h s zero zero l u = omega arith
  arranged-rise (e ∷ es) before h s zero (suc j) l u = frames-from es e before h.1 (λ k v. s (suc k) (omega arith)) j (omega arith)
  arranged-rise (e ∷ es) before h s (suc i) zero l u = absurd (omega arith)
  arranged-rise (e ∷ es) before h s (suc i) (suc j) l u =
      arranged-rise es (e ∷ before) h.1 (λ k v. s (suc k) (omega arith)) i j (omega arith) (omega arith)

  -- an entry's frame and id are none of those before
  new-from : (es before : List Entry) → v10 version ≡ true → Arranged version before es → (i : ℕ) → i < length es →
      repeated before (get_or es i none) ≡ false
  unfolding repeated
  new-from [] before r h i l = absurd (omega arith)
  new-from (e ∷ es) before r h zero l = new-10 version before e r h.0
  new-from (e ∷ es) before r h (suc i) l =
      (neither (eqb e.frame (get_or es i none).frame && eqb e.id (get_or es i none).id) _ (new-from es (e ∷ before) r h.1 i (omega arith))).1

  repeats : (e f : Entry) → e.frame ≡ f.frame → e.id ≡ f.id → (before : List Entry) → repeated (e ∷ before) f ≡ true
  unfolding repeated
  repeats e f g d before = rw (eq-eqb e.frame f.frame g, eq-eqb e.id f.id d, repeated)

  apart-10 : (es before : List Entry) → v10 version ≡ true → Arranged version before es → (i j : ℕ) → i < j → j < length es →
      (get_or es i none).frame ≡ (get_or es j none).frame → (get_or es i none).id ≡ (get_or es j none).id → ⊥
  apart-10 [] before r h i j l u f d = omega arith
  apart-10 (e ∷ es) before r h i zero l u f d = omega arith
  apart-10 (e ∷ es) before r h zero (suc j) l u f d =
      true≢false (sym (repeats e (get_or es j none) f d before) ∙ new-from es (e ∷ before) r h.1 j (omega arith))
  apart-10 (e ∷ es) before r h (suc i) (suc j) l u f d = apart-10 es (e ∷ before) r h.1 i j (omega arith) (omega arith) f d

  -- a frame and an id stand at one place at most
  module _ (es before : List Entry) (h : Arranged version before es) where
    apart : (i j : ℕ) → i < j → j < length es → (get_or es i none).frame ≡ (get_or es j none).frame → (get_or es i none).id ≡ (get_or es j none).id → ⊥
    apart i j l u f d = go (v10 version) refl
      where
        go : (v : Bool) → v10 version ≡ v → ⊥
        go true r = apart-10 es before r h i j l u f d
        go false r = omega (arith, keys-rise es (least_of before) ((arranged-ordered es version before r).0 h) i j l u)

    pub arranged-once : (i j : ℕ) → i < length es → j < length es →
        (get_or es i none).frame ≡ (get_or es j none).frame → (get_or es i none).id ≡ (get_or es j none).id → i ≡ j
    arranged-once i j l u f d = go (dec_lt i j) (dec_lt j i)
      where
        go : Dec (i < j) → Dec (j < i) → i ≡ j
        go (yes a) b = absurd (apart i j a u f d)
        go (no a) (yes b) = absurd (apart j i b l (sym f) (sym d))
        go (no a) (no b) = omega arith
