-- Laws of the sign bit, the highest of k + 1, set where a number is above 2 ^ k - 1: of bits joined, and of bits that differ.
use Rattle.std.proofs.Common.{◌≡◌, ℕ, ◌-◌, ◌*◌, ◌/◌, ◌^◌, ◌<◌, ◌≤◌, ◌||◌, ltb, sym, ap, ◌∙◌, le-div_iff_mul-le, arith, pow_pos, le-ltb, lt-ltb}
use native.Mathlib.Decide.{dec_lt}
use lib.Bits.{bit_or, bit_xor, or_lt, or_add_and, and_le_l, and_le_r, xor_add_and, xor_shr, xor_self}
use Rattle.gsd_format.proofs.Refusals.{same_test, left-holds, right-holds, neither-of}

-- set when one of the two has it set
pub or-high : (k a b : ℕ) → ltb (2 ^ k - 1) (bit_or a b) ≡ (ltb (2 ^ k - 1) a || ltb (2 ^ k - 1) b)
or-high k a b = go (dec_lt (2 ^ k - 1) a) (dec_lt (2 ^ k - 1) b)
  where
    go : Dec (2 ^ k - 1 < a) → Dec (2 ^ k - 1 < b) → ltb (2 ^ k - 1) (bit_or a b) ≡ (ltb (2 ^ k - 1) a || ltb (2 ^ k - 1) b)
    go (yes h) g =
        let l : 2 ^ k - 1 < bit_or a b = omega (arith, or_add_and a b, and_le_r a b) in
        lt-ltb _ _ l ∙ sym (left-holds (ltb (2 ^ k - 1) a) _ (lt-ltb _ _ h))
    go (no h) (yes g) =
        let l : 2 ^ k - 1 < bit_or a b = omega (arith, or_add_and a b, and_le_l a b) in
        lt-ltb _ _ l ∙ sym (right-holds (ltb (2 ^ k - 1) a) _ (lt-ltb _ _ g))
    go (no h) (no g) =
        let p : 0 < 2 ^ k = pow_pos k in
        let l : bit_or a b < 2 ^ k = or_lt k a b (omega arith) (omega arith) in
        le-ltb (2 ^ k - 1) (bit_or a b) (omega arith)
        ∙ sym (neither-of (ltb (2 ^ k - 1) a) _ (le-ltb (2 ^ k - 1) a (omega arith)) (le-ltb (2 ^ k - 1) b (omega arith)))

-- set when the highest bits differ
xor-high : (k a b : ℕ) → ltb (2 ^ k - 1) (bit_xor a b) ≡ ltb 0 (bit_xor (a / 2 ^ k) (b / 2 ^ k))
xor-high k a b =
    let p : 0 < 2 ^ k = pow_pos k in
    same_test (2 ^ k - 1) (bit_xor a b) 0 (bit_xor (a / 2 ^ k) (b / 2 ^ k))
    (λ l. rw (← xor_shr a b k) ((le-div_iff_mul-le p).1 (omega arith)))
    (λ l. let h : 1 * 2 ^ k ≤ bit_xor a b = (le-div_iff_mul-le p).0 (rw (xor_shr a b k) l) in omega arith)

bits-differ : (p q : ℕ) → p < 2 → q < 2 → (p ≡ q → ⊥) → 0 < bit_xor p q
bits-differ p q l m f = omega (arith, xor_add_and p q)

-- a and b of k + 1 bits have other signs exactly where x is below y
pub signs-differ : (k a b x y : ℕ) → a / 2 ^ k < 2 → b / 2 ^ k < 2 → (x < y → a / 2 ^ k ≡ b / 2 ^ k → ⊥) → (y ≤ x → a / 2 ^ k ≡ b / 2 ^ k)
    → ltb (2 ^ k - 1) (bit_xor a b) ≡ ltb x y
signs-differ k a b x y p q f g = xor-high k a b ∙ go (dec_lt x y)
  where
    go : Dec (x < y) → ltb 0 (bit_xor (a / 2 ^ k) (b / 2 ^ k)) ≡ ltb x y
    go (yes h) = lt-ltb 0 _ (bits-differ (a / 2 ^ k) (b / 2 ^ k) p q (f h)) ∙ sym (lt-ltb x y h)
    go (no h) =
        let l : y ≤ x = omega arith in
        ap (λ d. ltb 0 (bit_xor d (b / 2 ^ k))) (g l) ∙ ap (ltb 0) (xor_self (b / 2 ^ k)) ∙ sym (le-ltb x y l)
