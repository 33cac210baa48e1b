-- Laws of the types: the size is read off its table, and a type that a version knows has one.
use Prim.Native.Nat.{ℕ, zero, suc, ◌≤◌, ◌<◌}
use mathlib.Core.Path.{◌≡◌, refl, sym, ◌∙◌, ap}
use mathlib.Core.Bool.{Bool, true, false}
use mathlib.Core.List.{[], ◌∷◌}
use native.Mathlib.Decide.{dec_lt}
use native.Mathlib.Omega.{arith}
use lib.ListN.{get_or-eq_default}
use lib.Dec.{ltb, leb, eqb}
use borrow.Author.Tests.{ltb-true, leb-true, lt-ltb, eq-eqb, ne_eqb}
use Rattle.gsd_format.specs.Header.{version21}
use Rattle.gsd_format.specs.Types.{size_of, last_type, known}
use Rattle.gsd_format.proofs.Lists.{each_at}
use Rattle.gsd_format.proofs.Refusals.{both_true}

pub size-at : (k kind : ℕ) → kind ≡ k → size_of k ≡ size_of kind
size-at k kind e = ap size_of (sym e)

pub size_none : (kind : ℕ) → (0 < kind → 11 < kind) → size_of kind ≡ 0
unfolding size_of
size_none zero h = refl
size_none (suc kind) h = let l : 12 ≤ suc kind = h (omega arith) in rw get_or-eq_default

-- a type that has a size is one of 1 to 11
pub size-kind : (kind : ℕ) → 0 < size_of kind → (0 < kind) × (kind ≤ 11)
size-kind kind h = go (dec_lt 0 kind) (dec_lt 11 kind)
  where
    go : Dec (0 < kind) → Dec (11 < kind) → (0 < kind) × (kind ≤ 11)
    go (yes a) (no b) = (a, omega arith)
    go (no a) b = absurd (omega (arith, size_none kind (λ l. absurd (a l))))
    go (yes a) (yes b) = absurd (omega (arith, size_none kind (λ _. b)))

-- and each of these has 1, 2, 4 or 8 bytes
size-of-four : (P : ℕ → Type 0) → P 1 → P 2 → P 4 → P 8 → (kind : ℕ) → 0 < kind → kind ≤ 11 → P (size_of kind)
unfolding size_of
size-of-four P one two four eight zero low high = absurd (omega arith)
size-of-four P one two four eight (suc kind) low high =
    each_at P (1 ∷ 2 ∷ 4 ∷ 8 ∷ 1 ∷ 2 ∷ 4 ∷ 8 ∷ 4 ∷ 8 ∷ 1 ∷ []) 0 (search) kind (omega arith)

pub size-each : (P : ℕ → Type 0) → P 1 → P 2 → P 4 → P 8 → (kind : ℕ) → 0 < size_of kind → P (size_of kind)
size-each P one two four eight kind h = let k = size-kind kind h in size-of-four P one two four eight kind k.0 k.1

pub size-eight : (kind size : ℕ) → size ≡ size_of kind → 0 < size_of kind → (size ≡ 1 → ⊥) → (size ≡ 2 → ⊥) → (size ≡ 4 → ⊥) → size_of kind ≡ 8
size-eight kind size e h one two four =
    size-each (λ n. (n ≡ 1 → ⊥) → (n ≡ 2 → ⊥) → (n ≡ 4 → ⊥) → n ≡ 8) (omega arith) (omega arith) (omega arith) (omega arith) kind h
    (λ z. one (e ∙ z)) (λ z. two (e ∙ z)) (λ z. four (e ∙ z))

-- the last type of a version
pub last-new : (version : ℕ) → version ≡ version21 → last_type version ≡ 11
unfolding last_type
last-new version e = rw (eq-eqb version version21 e, last_type)

pub last-old : (version : ℕ) → (version ≡ version21 → ⊥) → last_type version ≡ 10
unfolding last_type
last-old version e = rw (ne_eqb version version21 e, last_type)

last-most : (version : ℕ) → last_type version ≤ 11
unfolding last_type
last-most version = by-test (eqb version version21)
  where
    by-test : (t : Bool) → elim t [ true ↦ 11 | false ↦ 10 ] ≤ 11
    by-test true = omega arith
    by-test false = omega arith

-- what a version knows
pub known-none : (version kind : ℕ) → kind ≡ 0 → known version kind ≡ false
known-none version kind e = rw e

pub known_some : (version kind : ℕ) → 0 < kind → known version kind ≡ leb kind (last_type version)
known_some version kind h = rw (lt-ltb 0 kind h)

known-kind : (version kind : ℕ) → known version kind ≡ true → (0 < kind) × (kind ≤ 11)
known-kind version kind h =
    let k : (ltb 0 kind ≡ true) × (leb kind (last_type version) ≡ true) = both_true _ _ h in
    let most : kind ≤ last_type version = leb-true _ _ k.1 in
    (ltb-true _ _ k.0, omega (arith, last-most version))

pub known-sized : (version kind : ℕ) → known version kind ≡ true → 0 < size_of kind
known-sized version kind h =
    let k = known-kind version kind h in
    size-of-four (λ n. 0 < n) (omega arith) (omega arith) (omega arith) (omega arith) kind k.0 k.1
