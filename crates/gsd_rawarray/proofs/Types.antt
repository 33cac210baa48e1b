-- Laws of the types, ours and RawArray's: each that is read has the width that was said, and what is written comes back.
use Prim.Native.Nat.{ℕ, zero, suc, ◌+◌, ◌≤◌, ◌<◌}
use mathlib.Core.Path.{◌≡◌, refl, sym, ◌∙◌, ap}
use mathlib.Core.Bool.{Bool, true, false, ◌&&◌, ◌||◌}
use mathlib.Core.List.{List, [], ◌∷◌}
use native.Mathlib.Nat.{zero-add}
use native.Mathlib.Decide.{ℕ_discrete}
use native.Mathlib.Omega.{arith}
use lib.ListN.{get_or, get_or-eq_default}
use lib.Dec.{leb, eqb}
use borrow.Author.Tests.{eqb-true, leb-true, ne_eqb}
use Rattle.gsd_format.specs.Types.{size_of}
use Rattle.gsd_format.proofs.Refusals.{both_true, right-decides}
use Rattle.gsd_rawarray.specs.File.{raw_type}
use Rattle.gsd_rawarray.specs.Said.{types_of, kind_of}
use Rattle.gsd_rawarray.specs.Back.{plain}

-- What is read

-- is each of a table's types, from this width on, 0 or one of 1 to 10 with the width of its place?
unfoldable sized : ℕ → List ℕ → Bool
sized width [] = true
sized width (k ∷ ks) = (eqb k 0 || (leb k 10 && eqb (size_of k) width)) && sized (width + 1) ks

abbrev Sized : ℕ → ℕ → Type 0
Sized kind width = (kind ≡ 0 → ⊥) → (kind ≤ 10) × (size_of kind ≡ width)

at_width : (ks : List ℕ) (from i : ℕ) → sized from ks ≡ true → Sized (get_or ks i 0) (from + i)
unfolding sized
at_width [] from i h n = absurd (n refl)
at_width (k ∷ ks) from zero h n =
    let some = sym (right-decides (eqb k 0) (leb k 10 && eqb (size_of k) from) (ne_eqb k 0 n)) ∙ (both_true (eqb k 0 || (leb k 10 && eqb (size_of k) from)) _ h).0 in
    let fits = both_true (leb k 10) (eqb (size_of k) from) some in
    (leb-true k 10 fits.0, eqb-true (size_of k) from fits.1 ∙ (let e : from ≡ from + 0 = omega arith in e))
at_width (k ∷ ks) from (suc i) h n =
    let r = at_width ks (from + 1) i (both_true (eqb k 0 || (leb k 10 && eqb (size_of k) from)) _ h).1 n in
    (r.0, r.1 ∙ (let e : from + 1 + i ≡ from + suc i = omega arith in e))

all-sized : (type : ℕ) → sized 0 (types_of type) ≡ true
unfolding sized size_of types_of
all-sized type = go (eqb type 2) (eqb type 1) (eqb type 3)
  where
    go : (a b c : Bool) → sized 0 (elim a [
      | true ↦ 0 ∷ 1 ∷ 2 ∷ 0 ∷ 3 ∷ 0 ∷ 0 ∷ 0 ∷ 4 ∷ []
      | false ↦ elim b [ true ↦ 0 ∷ 5 ∷ 6 ∷ 0 ∷ 7 ∷ 0 ∷ 0 ∷ 0 ∷ 8 ∷ [] | false ↦ elim c [ true ↦ 0 ∷ 0 ∷ 0 ∷ 0 ∷ 9 ∷ 0 ∷ 0 ∷ 0 ∷ 10 ∷ [] | false ↦ [] ] ]
    ]) ≡ true
    go true b c = refl
    go false true c = refl
    go false false true = refl
    go false false false = refl

pub kind-sized : (type width : ℕ) → Sized (kind_of type width) width
kind-sized type width = rw zero-add at (at_width (types_of type) 0 width (all-sized type))

-- What is written

-- does each type below n come back, a character as u8, by one of RawArray's types up to 3?
unfoldable comes_back : ℕ → Bool
comes_back zero = true
comes_back (suc k) = (leb (raw_type k) 3 && eqb (kind_of (raw_type k) (size_of k)) (plain k)) && comes_back k

all_back : comes_back 12 ≡ true
unfolding comes_back plain raw_type size_of types_of
all_back = refl

abbrev Back : ℕ → Type 0
Back kind = (raw_type kind ≤ 3) × (kind_of (raw_type kind) (size_of kind) ≡ plain kind)

back_below : (n kind : ℕ) → comes_back n ≡ true → kind < n → Back kind
unfolding comes_back
back_below zero kind h l = absurd (omega arith)
back_below (suc n) kind h l =
    go (both_true (leb (raw_type n) 3 && eqb (kind_of (raw_type n) (size_of n)) (plain n)) (comes_back n) h) (back_below n kind) (ℕ_discrete kind n)
  where
    go : ((leb (raw_type n) 3 && eqb (kind_of (raw_type n) (size_of n)) (plain n)) ≡ true) × (comes_back n ≡ true) →
        (comes_back n ≡ true → kind < n → Back kind) → Dec (kind ≡ n) → Back kind
    go t next (yes e) =
        let here = both_true (leb (raw_type n) 3) (eqb (kind_of (raw_type n) (size_of n)) (plain n)) t.0 in
        rw e (leb-true (raw_type n) 3 here.0, eqb-true (kind_of (raw_type n) (size_of n)) (plain n) here.1)
    go t next (no e) = next t.1 (omega arith)

pub kind-back : (kind : ℕ) → kind ≤ 11 → Back kind
kind-back kind l = back_below 12 kind all_back (omega arith)

pub plain-some : (kind : ℕ) → 0 < kind → plain kind ≡ 0 → ⊥
unfolding plain
plain-some kind l = go (eqb kind 11)
  where
    go : (t : Bool) → ◌≡◌ {A = ℕ} (elim t [ true ↦ 1 | false ↦ kind ]) 0 → ⊥
    go true h = omega (arith, h)
    go false h = omega (arith, h)

-- a type that RawArray has and we have not
pub other-type : (type width : ℕ) → (type ≡ 2 → ⊥) → (type ≡ 1 → ⊥) → (type ≡ 3 → ⊥) → kind_of type width ≡ 0
unfolding types_of
other-type type width a b c = rw (ne_eqb type 2 a, ne_eqb type 1 b, ne_eqb type 3 c, types_of)

-- What code finds

-- is each of a table's types 0 or one of this type of RawArray's?
unfoldable typed : ℕ → List ℕ → Bool
typed type [] = true
typed type (k ∷ ks) = (eqb k 0 || eqb (raw_type k) type) && typed type ks

at_typed : (type : ℕ) (ks : List ℕ) (i : ℕ) → typed type ks ≡ true → (get_or ks i 0 ≡ 0 → ⊥) → raw_type (get_or ks i 0) ≡ type
unfolding typed
at_typed type [] i h n = absurd (n refl)
at_typed type (k ∷ ks) zero h n =
    eqb-true (raw_type k) type (sym (right-decides (eqb k 0) (eqb (raw_type k) type) (ne_eqb k 0 n)) ∙ (both_true (eqb k 0 || eqb (raw_type k) type) _ h).0)
at_typed type (k ∷ ks) (suc i) h n = at_typed type ks i (both_true (eqb k 0 || eqb (raw_type k) type) _ h).1 n

kind-typed : (type width : ℕ) → (kind_of type width ≡ 0 → ⊥) → raw_type (kind_of type width) ≡ type
unfolding typed raw_type types_of
kind-typed type width n = go (ℕ_discrete type 2) (ℕ_discrete type 1) (ℕ_discrete type 3)
  where
    unsigned : typed 2 (types_of 2) ≡ true
    unsigned = refl

    signed : typed 1 (types_of 1) ≡ true
    signed = refl

    floats : typed 3 (types_of 3) ≡ true
    floats = refl

    at : (t : ℕ) → type ≡ t → typed t (types_of t) ≡ true → raw_type (kind_of type width) ≡ type
    at t e h =
        let same : kind_of type width ≡ kind_of t width = ap (λ x. kind_of x width) e in
        ap raw_type same ∙ at_typed t (types_of t) width h (λ z. n (same ∙ z)) ∙ sym e

    go : Dec (type ≡ 2) → Dec (type ≡ 1) → Dec (type ≡ 3) → raw_type (kind_of type width) ≡ type
    go (yes e) b c = at 2 e unsigned
    go (no a) (yes e) c = at 1 e signed
    go (no a) (no b) (yes e) = at 3 e floats
    go (no a) (no b) (no c) = absurd (n (other-type type width a b c))

module _ (raw width : ℕ) where
  -- a type that is no character and has these two
  pub found-kind : (k : ℕ) → k < 11 → raw_type k ≡ raw → size_of k ≡ width → k ≡ kind_of raw width
  unfolding plain
  found-kind k l r w =
      let back : kind_of (raw_type k) (size_of k) ≡ k = (kind-back k (omega arith)).1 ∙ rw (ne_eqb k 11 (λ e. omega (arith, e)), plain) in
      sym back ∙ (λ i. kind_of (r i) (w i))

  -- and where none has them
  pub no-kind : ((k : ℕ) → 0 < k → k < 11 → raw_type k ≡ raw → size_of k ≡ width → ⊥) → kind_of raw width ≡ 0
  no-kind none = go (ℕ_discrete (kind_of raw width) 0)
    where
      go : Dec (kind_of raw width ≡ 0) → kind_of raw width ≡ 0
      go (yes e) = e
      go (no n) =
          let s = kind-sized raw width n in
          absurd (none (kind_of raw width) (omega arith) (omega arith) (kind-typed raw width n) s.1)

-- What code writes

four_in_a_row : (P : ℕ → Type 0) (from k : ℕ) → from ≤ k → k < from + 4 → P from → P (from + 1) → P (from + 2) → P (from + 3) → P k
four_in_a_row P from k low high a b c d = go (ℕ_discrete k from) (ℕ_discrete k (from + 1)) (ℕ_discrete k (from + 2))
  where
    go : Dec (k ≡ from) → Dec (k ≡ from + 1) → Dec (k ≡ from + 2) → P k
    go (yes e) q r = rw e a
    go (no p) (yes e) r = rw e b
    go (no p) (no q) (yes e) = rw e c
    go (no p) (no q) (no r) = let e : k ≡ from + 3 = omega arith in rw e d

pub unsigned-type : (kind : ℕ) → 1 ≤ kind → kind < 5 → raw_type kind ≡ 2
unfolding raw_type
unsigned-type kind low high = four_in_a_row (λ k. raw_type k ≡ 2) 1 kind low high refl refl refl refl

pub signed-type : (kind : ℕ) → 5 ≤ kind → kind < 9 → raw_type kind ≡ 1
unfolding raw_type
signed-type kind low high = four_in_a_row (λ k. raw_type k ≡ 1) 5 kind low high refl refl refl refl

pub float-type : (kind : ℕ) → 9 ≤ kind → kind < 11 → raw_type kind ≡ 3
unfolding raw_type
float-type kind low high = go (ℕ_discrete kind 9)
  where
    go : Dec (kind ≡ 9) → raw_type kind ≡ 3
    go (yes e) = ap raw_type e
    go (no n) = let e : kind ≡ 10 = omega arith in ap raw_type e

pub no-type : (kind : ℕ) → 12 ≤ kind → raw_type kind ≡ 0
unfolding raw_type
no-type kind l = get_or-eq_default (0 ∷ 2 ∷ 2 ∷ 2 ∷ 2 ∷ 1 ∷ 1 ∷ 1 ∷ 1 ∷ 3 ∷ 3 ∷ 2 ∷ []) 0 {n = kind} (omega arith)
