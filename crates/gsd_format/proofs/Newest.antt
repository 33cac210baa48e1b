-- The newest entry of an id at or below a frame: what it is, where there is one and where there is none; and in a list as 15 leaves
-- it a reader's way to it finds it.
use Rattle.std.specs.Prelude.{Result, Ok, Err}
use Prim.Native.Nat.{ℕ, zero, suc, ◌+◌, ◌≤◌, ◌<◌}
use mathlib.Core.Path.{◌≡◌, refl, sym, ◌∙◌, ap}
use mathlib.Core.Bool.{Bool, true, false, ◌&&◌}
use mathlib.Core.List.{List, [], ◌∷◌}
use native.Mathlib.Decide.{ℕ_discrete, dec_le, dec_lt}
use native.Mathlib.Omega.{arith}
use lib.ListN.{length, get_or}
use lib.Dec.{leb, eqb}
use borrow.Author.Tests.{le-leb, lt-leb, eq-eqb, ne_eqb}
use Rattle.gsd_format.specs.declared.Entry.{Entry}
use Rattle.gsd_format.specs.Header.{v10}
use Rattle.gsd_format.specs.Lookup.{none}
use Rattle.gsd_format.specs.Search.{halved}
use Rattle.gsd_format.specs.Readers.{place_behind, last_before, or_entry, newest_entry}
use Rattle.gsd_format.proofs.Entries.{ShortIds}
use Rattle.gsd_format.proofs.Arranged.{Arranged}
use Rattle.gsd_format.proofs.Search.{halved-ends, place-before, place-behind, first-10, first-recent}

-- an entry with the id at or below the frame
abbrev pub Candidate : ℕ → ℕ → Entry → Type 0
Candidate frame id e = (e.frame ≤ frame) × (e.id ≡ id)

candidate : (frame id : ℕ) (e : Entry) → Candidate frame id e → (leb e.frame frame && eqb e.id id) ≡ true
candidate frame id e (f, d) = rw (le-leb e.frame frame f, eq-eqb e.id id d)

no-candidate : (frame id : ℕ) (e : Entry) → (Candidate frame id e → ⊥) → (leb e.frame frame && eqb e.id id) ≡ false
no-candidate frame id e n = go (dec_le e.frame frame)
  where
    go : Dec (e.frame ≤ frame) → (leb e.frame frame && eqb e.id id) ≡ false
    go (yes f) = rw (le-leb e.frame frame f, ne_eqb e.id id (λ d. n (f, d)))
    go (no f) = rw (lt-leb e.frame frame (omega arith))

module _ (frame id : ℕ) where
  newest-none : newest_entry frame id [] ≡ Err 42
  unfolding newest_entry
  newest-none = refl

  newest-on : (e : Entry) (es : List Entry) → newest_entry frame id (e ∷ es) ≡ or_entry (newest_entry frame id es) (leb e.frame frame && eqb e.id id) e
  unfolding newest_entry
  newest-on e es = refl

  or_later : (l : Result Entry ℕ) (later : Entry) (b : Bool) (e : Entry) → l ≡ Ok later → or_entry l b e ≡ Ok later
  unfolding or_entry
  or_later l later b e h = rw (h, or_entry)

  or-here : (l : Result Entry ℕ) (n : ℕ) (b : Bool) (e : Entry) → l ≡ Err n → b ≡ true → or_entry l b e ≡ Ok e
  unfolding or_entry
  or-here l n b e h t = rw (h, t, or_entry)

  or-none : (l : Result Entry ℕ) (n : ℕ) (b : Bool) (e : Entry) → l ≡ Err n → b ≡ false → or_entry l b e ≡ Err n
  unfolding or_entry
  or-none l n b e h t = rw (h, t, or_entry)

  -- none is one
  pub newest-absent : (es : List Entry) → ((j : ℕ) → j < length es → Candidate frame id (get_or es j none) → ⊥) → newest_entry frame id es ≡ Err 42
  newest-absent [] n = newest-none
  newest-absent (e ∷ es) n =
      newest-on e es ∙ or-none _ 42 _ e (newest-absent es (λ j l. n (suc j) (omega arith))) (no-candidate frame id e (n 0 (omega arith)))

  -- the i-th is one, and none behind it
  pub newest-found : (es : List Entry) (i : ℕ) → i < length es → Candidate frame id (get_or es i none) →
      ((j : ℕ) → i < j → j < length es → Candidate frame id (get_or es j none) → ⊥) → newest_entry frame id es ≡ Ok (get_or es i none)
  newest-found [] i l c n = absurd (omega arith)
  newest-found (e ∷ es) zero l c n =
      newest-on e es ∙ or-here _ 42 _ e (newest-absent es (λ j u. n (suc j) (omega arith) (omega arith))) (candidate frame id e c)
  newest-found (e ∷ es) (suc i) l c n =
      newest-on e es ∙ or_later _ (get_or es i none) _ e (newest-found es i (omega arith) c (λ j u v. n (suc j) (omega arith) (omega arith)))

-- The walk down

module _ (id : ℕ) (es : List Entry) where
  pub last_none : last_before id es 0 ≡ Err 42
  unfolding last_before
  last_none = refl

  pub last-here : (p : ℕ) → (get_or es p none).id ≡ id → last_before id es (suc p) ≡ Ok (get_or es p none)
  unfolding last_before
  last-here p d = rw (eq-eqb (get_or es p none).id id d, last_before)

  pub last_on : (p : ℕ) → ((get_or es p none).id ≡ id → ⊥) → last_before id es (suc p) ≡ last_before id es p
  unfolding last_before
  last_on p d = rw (ne_eqb (get_or es p none).id id d, last_before)

-- from a place with no frame above before it, and none to be found from it on
last-newest : (frame id : ℕ) (es : List Entry) (p : ℕ) → p ≤ length es → ((i : ℕ) → i < p → (get_or es i none).frame ≤ frame) →
    ((i : ℕ) → p ≤ i → i < length es → Candidate frame id (get_or es i none) → ⊥) → last_before id es p ≡ newest_entry frame id es
last-newest frame id es zero l before behind = last_none id es ∙ sym (newest-absent frame id es (λ j u. behind j (omega arith) u))
last-newest frame id es (suc p) l before behind =
    go (λ d. last-newest frame id es p (omega arith) (λ i u. before i (omega arith)) (λ i u v. on d i u v (dec_lt p i))) (ℕ_discrete (get_or es p none).id id)
  where
    on : ((get_or es p none).id ≡ id → ⊥) → (i : ℕ) → p ≤ i → i < length es → Dec (p < i) → Candidate frame id (get_or es i none) → ⊥
    on d i u v (yes w) c = behind i w v c
    on d i u v (no w) c = d (ap (λ j. (get_or es j none).id) (let q : p ≡ i = omega arith in q) ∙ c.1)

    go : (((get_or es p none).id ≡ id → ⊥) → last_before id es p ≡ newest_entry frame id es) → Dec ((get_or es p none).id ≡ id) →
        last_before id es (suc p) ≡ newest_entry frame id es
    go r (yes d) = last-here id es p d ∙ sym (newest-found frame id es p l (before p (omega arith), d) (λ j u v. behind j u v))
    go r (no d) = last_on id es p d ∙ r d

-- By the version

pub behind-10 : (version frame id : ℕ) (es : List Entry) → v10 version ≡ true → place_behind version frame id es ≡ (halved version (frame + 1) 0 es).place
unfolding place_behind
behind-10 version frame id es r = rw (r, place_behind)

pub behind-recent : (version frame id : ℕ) (es : List Entry) → v10 version ≡ false → place_behind version frame id es ≡ (halved version frame (id + 1) es).place
unfolding place_behind
behind-recent version frame id es r = rw (r, place_behind)

-- in a list as 15 leaves it, with ids of 16 bits
pub newest-is : (version frame id : ℕ) (es : List Entry) → Arranged version [] es → ShortIds es → id + 1 < 65536 →
    last_before id es (place_behind version frame id es) ≡ newest_entry frame id es
newest-is version frame id es arranged ids short = go (v10 version) refl
  where
    go : (v : Bool) → v10 version ≡ v → last_before id es (place_behind version frame id es) ≡ newest_entry frame id es
    go true r =
        let first = first-10 version r 0 in
        rw (behind-10 version frame id es r) (last-newest frame id es (halved version (frame + 1) 0 es).place
        (omega (arith, (halved-ends version (frame + 1) 0 es).high))
        (λ i l. omega (arith, place-before version (frame + 1) 0 es arranged ids (omega arith) i l, first))
        (λ i l u c. omega (arith, place-behind version (frame + 1) 0 es arranged ids (omega arith) i l u, first, c.0, ids i u)))
    go false r =
        let first = first-recent version r (id + 1) in
        rw (behind-recent version frame id es r) (last-newest frame id es (halved version frame (id + 1) es).place
        (omega (arith, (halved-ends version frame (id + 1) es).high))
        (λ i l. omega (arith, place-before version frame (id + 1) es arranged ids short i l, first))
        (λ i l u c. omega (arith, place-behind version frame (id + 1) es arranged ids short i l u, first, c.0, c.1)))
