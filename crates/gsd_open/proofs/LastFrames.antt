-- The last frame of each id tells whether an entry of 1.0 repeats a frame and an id: frames never decrease, so a second entry of
-- the frame could only follow one whose frame is the last of that id.
use Prim.Native.Nat.{ℕ, ◌+◌, ◌≤◌, ◌<◌}
use mathlib.Core.Path.{◌≡◌, refl, sym, ◌∙◌, ap}
use mathlib.Core.Bool.{true, false}
use mathlib.Core.List.{List, [], ◌∷◌}
use native.Mathlib.Decide.{ℕ_discrete}
use native.Mathlib.Omega.{arith}
use lib.ListN.{length, get_or, set}
use lib.Seq.{get_or-set_same, get_or-set_other}
use lib.Dec.{eqb}
use borrow.Author.Tests.{eq-eqb, ne_eqb}
use Rattle.gsd_format.specs.declared.Entry.{Entry}
use Rattle.gsd_format.specs.Opening.{repeated}

-- the entries before, the last of them first: none has a frame above top or above that of an entry behind it
abbrev pub Down : ℕ → List Entry → Type 0
Down top [] = Unit
Down top (b ∷ before) = (b.frame ≤ top) × Down b.frame before

pub down-weaker : (before : List Entry) (low top : ℕ) → low ≤ top → Down low before → Down top before
down-weaker [] low top l d = tt
down-weaker (b ∷ before) low top l d = (omega (arith, d.0), d.1)

-- one more than the frame of the last entry with this id, 0 where none has it
unfoldable pub last_of : ℕ → List Entry → ℕ
last_of id [] = 0
last_of id (b ∷ before) = elim (eqb b.id id) [ true ↦ b.frame + 1 | false ↦ last_of id before ]

pub last_none : (id : ℕ) → last_of id [] ≡ 0
unfolding last_of
last_none id = refl

last-here : (b : Entry) (before : List Entry) (id : ℕ) → b.id ≡ id → last_of id (b ∷ before) ≡ b.frame + 1
unfolding last_of
last-here b before id h = rw (eq-eqb b.id id h, last_of)

last_on : (b : Entry) (before : List Entry) (id : ℕ) → (b.id ≡ id → ⊥) → last_of id (b ∷ before) ≡ last_of id before
unfolding last_of
last_on b before id h = rw (ne_eqb b.id id h, last_of)

repeated-none : (e : Entry) → repeated [] e ≡ false
unfolding repeated
repeated-none e = refl

repeated-here : (b : Entry) (before : List Entry) (e : Entry) → b.frame ≡ e.frame → b.id ≡ e.id → repeated (b ∷ before) e ≡ true
unfolding repeated
repeated-here b before e f d = rw (eq-eqb b.frame e.frame f, eq-eqb b.id e.id d, repeated)

repeated-on : (b : Entry) (before : List Entry) (e : Entry) → (b.frame ≡ e.frame → b.id ≡ e.id → ⊥) → repeated (b ∷ before) e ≡ repeated before e
unfolding repeated
repeated-on b before e n = go (ℕ_discrete b.frame e.frame)
  where
    go : Dec (b.frame ≡ e.frame) → repeated (b ∷ before) e ≡ repeated before e
    go (yes f) = rw (eq-eqb b.frame e.frame f, ne_eqb b.id e.id (n f), repeated)
    go (no f) = rw (ne_eqb b.frame e.frame f, repeated)

-- above all frames before, nothing is repeated
never : (before : List Entry) (top : ℕ) (e : Entry) → Down top before → top < e.frame → repeated before e ≡ false
never [] top e d l = repeated-none e
never (b ∷ before) top e d l = repeated-on b before e (λ f i. omega (arith, d.0)) ∙ never before b.frame e d.1 (omega (arith, d.0))

-- the test of a repeated frame and id is one look at the last frame of the id
pub repeated-last : (before : List Entry) (e : Entry) → Down e.frame before → repeated before e ≡ eqb (last_of e.id before) (e.frame + 1)
repeated-last [] e d = repeated-none e ∙ sym (ne_eqb (last_of e.id []) (e.frame + 1) (λ z. omega (arith, last_none e.id)))
repeated-last (b ∷ before) e d =
    go (repeated-last before e (down-weaker before b.frame e.frame d.0 d.1)) (ℕ_discrete b.id e.id) (ℕ_discrete b.frame e.frame)
  where
    at_last : (n : ℕ) → last_of e.id (b ∷ before) ≡ n → eqb n (e.frame + 1) ≡ eqb (last_of e.id (b ∷ before)) (e.frame + 1)
    at_last n q = ap (λ k. eqb k (e.frame + 1)) (sym q)

    go : repeated before e ≡ eqb (last_of e.id before) (e.frame + 1) → Dec (b.id ≡ e.id) → Dec (b.frame ≡ e.frame) →
        repeated (b ∷ before) e ≡ eqb (last_of e.id (b ∷ before)) (e.frame + 1)
    go r (yes q) (yes f) =
        repeated-here b before e f q ∙ sym (eq-eqb (b.frame + 1) (e.frame + 1) (omega arith)) ∙ at_last _ (last-here b before e.id q)
    go r (yes q) (no f) =
        repeated-on b before e (λ g i. f g) ∙ never before b.frame e d.1 (omega (arith, d.0))
        ∙ sym (ne_eqb (b.frame + 1) (e.frame + 1) (λ z. f (omega arith))) ∙ at_last _ (last-here b before e.id q)
    go r (no q) f = repeated-on b before e (λ g i. q i) ∙ r ∙ at_last _ (last_on b before e.id q)

-- a table of the last frames, with a place for each of so many ids
abbrev pub LastFrames : ℕ → List ℕ → List Entry → Type 0
LastFrames names table before = (id : ℕ) → id < names → get_or table id 0 ≡ last_of id before

-- an entry is noted in it
pub last-noted : (names : ℕ) (table : List ℕ) (before : List Entry) (e : Entry) → e.id < length table →
    LastFrames names table before → LastFrames names (set table e.id (e.frame + 1)) (e ∷ before)
last-noted names table before e h t id m = go (ℕ_discrete e.id id)
  where
    go : Dec (e.id ≡ id) → get_or (set table e.id (e.frame + 1)) id 0 ≡ last_of id (e ∷ before)
    go (yes q) = rw (last-here e before id q, ← q) (get_or-set_same table e.id (e.frame + 1) 0 h)
    go (no q) = rw (last_on e before id q) (get_or-set_other table e.id id (e.frame + 1) 0 (λ z. q (sym z)) ∙ t id m)
