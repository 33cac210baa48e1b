-- Laws of the finite test: it is std's, a number that is finite is no NaN, and the step's test and the time's at once.
use Prim.Native.Nat.{ℕ, ◌%◌, ◌^◌, ◌<◌, ◌≤◌}
use mathlib.Core.Path.{◌≡◌, refl, sym, ◌∙◌, ap}
use mathlib.Core.Bool.{Bool, true, false, true≢false, not, ◌&&◌}
use native.Mathlib.Decide.{dec_lt, ℕ_discrete}
use native.Mathlib.Omega.{arith}
use borrow.Author.Tests.{lt-ltb}
use lib.Dec.{T}
use lib.Ieee.{Float, nan, inf, fin, binary64, fits, is_nan, of_bits, to_bits}
use lib.Ieee.Bits.{of_bits-to_bits, to_bits-lt, nan_bits_is, nan_bits_above}
use Rattle.std.specs.Float.{float_is_finite}
use Rattle.gsd_nchilada.specs.Request.{finite}

-- the two patterns whose value is infinite
inf-one : of_bits binary64 0x7ff0000000000000 ≡ inf false
unfolding of_bits
inf-one = refl

inf-other : of_bits binary64 0xfff0000000000000 ≡ inf true
unfolding of_bits
inf-other = refl

-- no number of finite size is infinite
not_fin : (s : Bool) (m : ℕ) (e : _) (t : Bool) → inf t ≡ fin s m e → ⊥
unfolding float_is_finite
not_fin s m e t h = true≢false (sym (ap float_is_finite h))

-- what has infinity's pattern or one above, but for the sign, and is no NaN is infinite
high : (v : Float) → T (fits binary64 v) → 0x7ff0000000000000 ≤ to_bits binary64 v % 2 ^ 63 → is_nan v ≡ false → (t : Bool) × (inf t ≡ v)
high v f l n =
    let back = of_bits-to_bits binary64 v f in
    let b = to_bits binary64 v in
    let bound : b < 2 ^ 64 = to_bits-lt binary64 v f in
    go b back bound l (ℕ_discrete b 0x7ff0000000000000) (ℕ_discrete b 0xfff0000000000000)
  where
    go : (b : ℕ) → of_bits binary64 b ≡ v → b < 2 ^ 64 → 0x7ff0000000000000 ≤ b % 2 ^ 63 → Dec (b ≡ 0x7ff0000000000000) → Dec (b ≡ 0xfff0000000000000) → (t : Bool) × (inf t ≡ v)
    go b back bound l (yes p) q = (false, sym inf-one ∙ sym (ap (of_bits binary64) p) ∙ back)
    go b back bound l (no p) (yes q) = (true, sym inf-other ∙ sym (ap (of_bits binary64) q) ∙ back)
    go b back bound l (no p) (no q) =
        let above : 0x7ff0000000000000 < b % 2 ^ 63 = omega arith in
        absurd (true≢false (sym (sym n ∙ sym (ap is_nan back) ∙ sym (nan_bits_is binary64 b) ∙ nan_bits_above binary64 b ∙ lt-ltb _ _ above)))

-- std's test says the same
pub finite_is : (x : Float) → T (fits binary64 x) → float_is_finite x ≡ finite x
unfolding float_is_finite to_bits is_nan
finite_is nan f = refl
finite_is (inf true) f = refl
finite_is (inf false) f = refl
finite_is (fin s m e) f = go (dec_lt (to_bits binary64 (fin s m e) % 2 ^ 63) 0x7ff0000000000000)
  where
    go : Dec (to_bits binary64 (fin s m e) % 2 ^ 63 < 0x7ff0000000000000) → true ≡ finite (fin s m e)
    go (yes l) = sym (lt-ltb _ _ l)
    go (no l) = let h = high (fin s m e) f (omega arith) refl in absurd (not_fin s m e h.0 h.1)

-- the one NaN is not finite
finite-nan : finite nan ≡ false
unfolding to_bits
finite-nan = refl

pub finite_number : (x : Float) → finite x ≡ true → T (not (is_nan x))
unfolding is_nan
finite_number nan h = true≢false (sym h ∙ finite-nan)
finite_number (inf s) h = tt
finite_number (fin s m e) h = tt

-- both tests at once, where time is another name of what was tested
pub both-finite : (step time made : Float) (a b t : Bool) → a ≡ finite step → b ≡ finite time → time ≡ made → (a && b) ≡ t →
    (finite step && finite made) ≡ t
both-finite step time made a b t p q e h = sym (λ i. p i && (q ∙ ap finite e) i) ∙ h
