-- Laws of the search for a zero byte: whether a block has one, and how the parts of a search join.
use Rattle.std.proofs.Common.{◌≡◌, ℕ, ◌+◌, ◌-◌, ◌<◌, ◌≤◌, Bool, true, false, ◌||◌, eqb, List, get_or, sym, refl, ap, subst, ◌*◌, ◌∙◌, arith, below_more, eq-eqb, ne_eqb}
use native.Mathlib.Decide.{dec_lt, ℕ_discrete}
use Rattle.gsd_format.specs.Bytes.{zero_in}
use Rattle.gsd_format.proofs.Bytes.{zero-found, no_zero, zero_in_lem, zero-out}
use Rattle.gsd_bytes.specs.Zeros.{FirstZero, Clear}

pub zero_more : (s : List ℕ) (i n : ℕ) (t : Bool) → t ≡ zero_in s i n → (t || eqb (get_or s (i + n) 0) 0) ≡ zero_in s i (n + 1)
zero_more s i n t f = ap (λ b. b || eqb (get_or s (i + n) 0) 0) f ∙ go (zero_in s i n) refl (ℕ_discrete (get_or s (i + n) 0) 0)
  where
    go : (b : Bool) → zero_in s i n ≡ b → Dec (get_or s (i + n) 0 ≡ 0) → (zero_in s i n || eqb (get_or s (i + n) 0) 0) ≡ zero_in s i (n + 1)
    go true e d =
        let r : (k : ℕ) × (k < n) × (get_or s (i + k) 0 ≡ 0) = zero-found s i n e in
        ap (λ b. b || eqb (get_or s (i + n) 0) 0) e ∙ sym (zero_in_lem s i (n + 1) r.0 (omega (arith, r.1)) r.2)
    go false e (yes z) = ap (λ b. b || eqb (get_or s (i + n) 0) 0) e ∙ eq-eqb _ _ z ∙ sym (zero_in_lem s i (n + 1) n (omega arith) z)
    go false e (no z) =
        ap (λ b. b || eqb (get_or s (i + n) 0) 0) e ∙ ne_eqb _ _ z
        ∙ sym (zero-out s i (n + 1) (below_more (λ k. get_or s (i + k) 0 ≡ 0 → ⊥) n (no_zero s i n e) z))

-- a block without a zero is passed
clear-more : (s : List ℕ) (from to i n : ℕ) → Clear s from to i → i + n ≤ to → zero_in s i n ≡ false → Clear s from to (i + n)
clear-more s from to i n c l e = record { above = omega (arith, c.above); within = l; before = λ k m n. go k m n (dec_lt k i) }
  where
    go : (k : ℕ) → from ≤ k → k < i + n → Dec (k < i) → get_or s k 0 ≡ 0 → ⊥
    go k m h (yes b) z = c.before k m b z
    go k m h (no b) z =
        let place : i + (k - i) ≡ k = omega arith in
        no_zero s i n e (k - i) (omega arith) (ap (λ j. get_or s j 0) place ∙ z)

-- the next block of a stretch
pub block-more : (s : List ℕ) (from to k : ℕ) {t : Bool} → Clear s from to (from + 32 * k) → from + 32 * (k + 1) ≤ to
    → t ≡ zero_in s (from + 32 * k) 32 → t ≡ false → Clear s from to (from + 32 * (k + 1))
block-more s from to k c l e f =
    let place : from + 32 * k + 32 ≡ from + 32 * (k + 1) = omega arith in
    subst (Clear s from to) place (clear-more s from to (from + 32 * k) 32 c (omega arith) (sym e ∙ f))

-- a zero that is found in the front of a stretch is the stretch's first
pub first-near : (s : List ℕ) (from near to r : ℕ) → near ≤ to → FirstZero s from near r → r < near → FirstZero s from to r
first-near s from near to r l z h = record { above = z.above; within = omega arith; before = z.before; here = λ k. z.here h }

-- and where there is none, so is the first behind the bytes that are clear
pub first-far : (s : List ℕ) (from near r i to q : ℕ) → FirstZero s from near r → near ≤ r → Clear s near to i → FirstZero s i to q → FirstZero s from to q
first-far s from near r i to q z h c f =
    let above : from ≤ q = omega (arith, z.above, z.within, c.above, f.above) in
    record { above = above; within = f.within; before = λ k m l. go k m l (dec_lt k near) (dec_lt k i); here = f.here }
  where
    go : (k : ℕ) → from ≤ k → k < q → Dec (k < near) → Dec (k < i) → get_or s k 0 ≡ 0 → ⊥
    go k m l (yes b) d = z.before k m (omega arith)
    go k m l (no b) (yes d) = c.before k (omega arith) d
    go k m l (no b) (no d) = f.before k (omega arith) l
