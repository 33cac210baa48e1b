-- The order of floats, at either width: of two at most one is less; what is less than one is less than all numbers that are not less
-- than that one; and the order turns round with the signs.
use Prim.Native.Nat.{ℕ, zero, suc, ◌+◌, ◌*◌, ◌≤◌, ◌<◌}
use mathlib.Core.Path.{◌≡◌, refl, sym, ap}
use mathlib.Core.Bool.{Bool, true, false, true≢false, not}
use native.Mathlib.Nat.{mul_right_comm, mul-lt-mul_of_pos_right, lt_of_mul-lt-mul_right, mul-le-mul_right, mul-pos, zero-mul, add_comm}
use native.Mathlib.Omega.{arith}
use lib.Dec.{ltb}
use lib.Ieee.{Float, nan, inf, fin, up, down, lt, below, neg, is_nan}
use lib.Ieee.Fits.{down_pos}
use borrow.Author.Tests.{ltb-true, ltb-false, lt-ltb, le-ltb}

-- x / p < y / q ≤ z / r
across : (x y z p q r : ℕ) → 0 < r → x * q < y * p → y * r ≤ z * q → x * r < z * p
across x y z p q r R h k =
    lt_of_mul-lt-mul_right q
    (omega (arith, mul_right_comm x r q, mul-lt-mul_of_pos_right h R, mul_right_comm y p r, mul-le-mul_right p k, mul_right_comm z q p))

-- z / r ≤ y / q < x / p
back : (x y z p q r : ℕ) → 0 < r → y * p < x * q → z * q ≤ y * r → z * p < x * r
back x y z p q r R h k =
    lt_of_mul-lt-mul_right q
    (omega (arith, mul_right_comm z p q, mul-le-mul_right p k, mul_right_comm y r p, mul-lt-mul_of_pos_right h R, mul_right_comm x q r))

-- a product is above 0: so is its first factor
first_pos : (a b : ℕ) → 0 < a * b → 0 < a
first_pos zero b h = absurd (omega (arith, h, zero-mul b))
first_pos (suc a) b h = omega arith

-- ±x / p < ±y / q, and ±z / r not less than that
below-weak : (s t u : Bool) (x y z p q r : ℕ) → 0 < p → 0 < q → 0 < r →
    below s (x * q) t (y * p) ≡ true → below u (z * q) t (y * r) ≡ false → below s (x * r) u (z * p) ≡ true
below-weak false false false x y z p q r P Q R h k = lt-ltb _ _ (across x y z p q r R (ltb-true (x * q) (y * p) h) (ltb-false (z * q) (y * r) k))
below-weak false false true x y z p q r P Q R h k =
    let y₀ : 0 < y = first_pos y p (omega (arith, ltb-true (x * q) (y * p) h)) in
    absurd (omega (arith, ltb-false 0 (z * q + y * r) k, mul-pos y₀ R))
below-weak false true u x y z p q r P Q R h k = absurd (true≢false (sym h))
below-weak true false false x y z p q r P Q R h k = lt-ltb 0 (x * r + z * p) (go x y (ltb-true 0 (x * q + y * p) h) (ltb-false (z * q) (y * r) k))
  where
    go : (x y : ℕ) → 0 < x * q + y * p → y * r ≤ z * q → 0 < x * r + z * p
    go (suc x) y i j = omega (arith, mul-pos {m = suc x} (omega arith) R)
    go zero y i j =
        let y₀ : 0 < y = first_pos y p (omega (arith, zero-mul q)) in
        omega (arith, mul-pos (first_pos z q (omega (arith, mul-pos y₀ R))) P)
below-weak true false true x y z p q r P Q R h k = lt-ltb (z * p) (x * r) (go x y z (ltb-true 0 (x * q + y * p) h) (ltb-false 0 (z * q + y * r) k))
  where
    go : (x y z : ℕ) → 0 < x * q + y * p → z * q + y * r ≤ 0 → z * p < x * r
    go x (suc y) z i j = absurd (omega (arith, mul-pos {m = suc y} (omega arith) R))
    go x zero (suc z) i j = absurd (omega (arith, mul-pos {m = suc z} (omega arith) Q))
    go x zero zero i j =
        let x₀ : 0 < x = first_pos x q (omega (arith, zero-mul p)) in
        omega (arith, mul-pos x₀ R, zero-mul p)
below-weak true true false x y z p q r P Q R h k =
    lt-ltb 0 (x * r + z * p) (omega (arith, mul-pos (first_pos x q (omega (arith, ltb-true (y * p) (x * q) h))) R))
below-weak true true true x y z p q r P Q R h k =
    lt-ltb (z * p) (x * r) (back x y z p q r R (ltb-true (y * p) (x * q) h) (ltb-false (y * r) (z * q) k))

pub lt-weak : (x y z : Float) → is_nan z ≡ false → lt x y ≡ true → lt z y ≡ false → lt x z ≡ true
unfolding lt is_nan
lt-weak nan y z w h k = h
lt-weak (inf true) nan z w h k = absurd (true≢false (sym h))
lt-weak (inf true) (inf true) z w h k = absurd (true≢false (sym h))
lt-weak (inf true) (inf false) nan w h k = absurd (true≢false w)
lt-weak (inf true) (inf false) (inf true) w h k = absurd (true≢false k)
lt-weak (inf true) (inf false) (inf false) w h k = refl
lt-weak (inf true) (inf false) (fin u l c) w h k = refl
lt-weak (inf true) (fin t n d) nan w h k = absurd (true≢false w)
lt-weak (inf true) (fin t n d) (inf true) w h k = absurd (true≢false k)
lt-weak (inf true) (fin t n d) (inf false) w h k = refl
lt-weak (inf true) (fin t n d) (fin u l c) w h k = refl
lt-weak (inf false) nan z w h k = absurd (true≢false (sym h))
lt-weak (inf false) (inf true) z w h k = absurd (true≢false (sym h))
lt-weak (inf false) (inf false) z w h k = absurd (true≢false (sym h))
lt-weak (inf false) (fin t n d) z w h k = absurd (true≢false (sym h))
lt-weak (fin s m e) nan z w h k = absurd (true≢false (sym h))
lt-weak (fin s m e) (inf true) z w h k = absurd (true≢false (sym h))
lt-weak (fin s m e) (inf false) nan w h k = absurd (true≢false w)
lt-weak (fin s m e) (inf false) (inf true) w h k = absurd (true≢false k)
lt-weak (fin s m e) (inf false) (inf false) w h k = refl
lt-weak (fin s m e) (inf false) (fin u l c) w h k = absurd (true≢false k)
lt-weak (fin s m e) (fin t n d) nan w h k = absurd (true≢false w)
lt-weak (fin s m e) (fin t n d) (inf true) w h k = absurd (true≢false k)
lt-weak (fin s m e) (fin t n d) (inf false) w h k = refl
lt-weak (fin s m e) (fin t n d) (fin u l c) w h k =
    below-weak s t u (m * up e) (n * up d) (l * up c) (down e) (down d) (down c) (down_pos e) (down_pos d) (down_pos c) h k

-- of two at most one is less than the other
below-asym : (s t : Bool) (a b : ℕ) → below s a t b ≡ true → below t b s a ≡ false
below-asym false false a b h = le-ltb b a (omega (arith, ltb-true a b h))
below-asym false true a b h = absurd (true≢false (sym h))
below-asym true false a b h = refl
below-asym true true a b h = le-ltb a b (omega (arith, ltb-true b a h))

pub lt-asym : (x y : Float) → lt x y ≡ true → lt y x ≡ false
unfolding lt
lt-asym nan y h = absurd (true≢false (sym h))
lt-asym (inf s) nan h = refl
lt-asym (inf true) (inf true) h = absurd (true≢false (sym h))
lt-asym (inf true) (inf false) h = refl
lt-asym (inf false) (inf t) h = absurd (true≢false (sym h))
lt-asym (inf true) (fin t n d) h = refl
lt-asym (inf false) (fin t n d) h = absurd (true≢false (sym h))
lt-asym (fin s m e) nan h = refl
lt-asym (fin s m e) (inf true) h = absurd (true≢false (sym h))
lt-asym (fin s m e) (inf false) h = refl
lt-asym (fin s m e) (fin t n d) h = below-asym s t (m * up e * down d) (n * up d * down e) h

-- with the signs
below-neg : (s t : Bool) (a b : ℕ) → below (not t) b (not s) a ≡ below s a t b
below-neg false false a b = refl
below-neg false true a b = refl
below-neg true false a b = ap (ltb 0) (add_comm b a)
below-neg true true a b = refl

pub lt-neg : (x y : Float) → lt (neg y) (neg x) ≡ lt x y
unfolding lt neg
lt-neg nan nan = refl
lt-neg nan (inf t) = refl
lt-neg nan (fin t n d) = refl
lt-neg (inf s) nan = refl
lt-neg (inf true) (inf true) = refl
lt-neg (inf true) (inf false) = refl
lt-neg (inf false) (inf true) = refl
lt-neg (inf false) (inf false) = refl
lt-neg (inf true) (fin t n d) = refl
lt-neg (inf false) (fin t n d) = refl
lt-neg (fin s m e) nan = refl
lt-neg (fin s m e) (inf true) = refl
lt-neg (fin s m e) (inf false) = refl
lt-neg (fin s m e) (fin t n d) = below-neg s t (m * up e * down d) (n * up d * down e)

pub nan-neg : (x : Float) → is_nan (neg x) ≡ is_nan x
unfolding neg is_nan
nan-neg nan = refl
nan-neg (inf s) = refl
nan-neg (fin s m e) = refl
