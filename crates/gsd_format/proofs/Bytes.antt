-- Laws of bytes: numbers and parts depend on the bytes they read, a number reads back, and what a store changes.
use Prim.Native.Nat.{ℕ, zero, suc, ◌+◌, ◌*◌, ◌-◌, ◌/◌, ◌%◌, ◌^◌, ◌≤◌, ◌<◌, max, min}
use mathlib.Core.Path.{◌≡◌, refl, sym, ◌∙◌, ap}
use mathlib.Core.Bool.{Bool, true, false, true≢false, ◌&&◌}
use mathlib.Core.List.{List, [], ◌∷◌, ◌++◌, append-nil}
use native.Mathlib.Nat.{add-zero, zero-add, add_assoc, suc-add, pow-suc, pow-succ', div-one, div-div-eq-div-mul}
use native.Mathlib.Numerals.{add-one}
use native.Mathlib.Decide.{ℕ_discrete, dec_lt}
use native.Mathlib.Omega.{arith}
use lib.ListN.{length, get_or, set, take, drop, length-set, length-append, length-take, length-drop, drop_of_length-le}
use lib.Seq.{get_or-set_same, get_or-set_other, get_or-take, get_or-drop, ext_get_or, length-take-le, take-suc, take-add, take_at, drop-drop, sets, sets-eq}
use lib.Dec.{eqb}
use borrow.Author.Tests.{eq-eqb, ne_eqb, ltb-false, le-ltb}
use Rattle.gsd_format.specs.Bytes.{le, le_bytes, part, same, zero_in, stored, meets, Apart}

-- the n bytes of x from a are those of y from b
abbrev pub Same : List ℕ → ℕ → List ℕ → ℕ → ℕ → Type 0
Same x a y b n = (k : ℕ) → k < n → get_or x (a + k) 0 ≡ get_or y (b + k) 0

-- the bytes of the text t stand in x from at
abbrev pub Text : List ℕ → ℕ → List ℕ → Type 0
Text x at t = (k : ℕ) → k < length t → get_or x (at + k) 0 ≡ get_or t k 0

-- every number of the list is a byte
abbrev pub Octets : List ℕ → Type 0
Octets s = (i : ℕ) → get_or s i 0 < 256

-- Numbers

pub same_head : (x : List ℕ) (a : ℕ) (y : List ℕ) (b n : ℕ) → Same x a y b (suc n) → get_or x a 0 ≡ get_or y b 0
same_head x a y b n h = ap (λ i. get_or x i 0) (sym (add-zero a)) ∙ h 0 (omega arith) ∙ ap (λ i. get_or y i 0) (add-zero b)

pub same-tail : (x : List ℕ) (a : ℕ) (y : List ℕ) (b n : ℕ) → Same x a y b (suc n) → Same x (a + 1) y (b + 1) n
same-tail x a y b n h k l =
    ap (λ i. get_or x i 0) (let e : a + 1 + k ≡ a + suc k = omega arith in e) ∙ h (suc k) (omega arith)
    ∙ ap (λ i. get_or y i 0) (let e : b + suc k ≡ b + 1 + k = omega arith in e)

pub same-cons : (x : List ℕ) (a : ℕ) (y : List ℕ) (b n : ℕ) → get_or x a 0 ≡ get_or y b 0 → Same x (a + 1) y (b + 1) n → Same x a y b (suc n)
same-cons x a y b n e h zero l = rw (add-zero a, add-zero b) e
same-cons x a y b n e h (suc k) l =
    ap (λ i. get_or x i 0) (let e : a + suc k ≡ a + 1 + k = omega arith in e) ∙ h k (omega arith)
    ∙ ap (λ i. get_or y i 0) (let e : b + 1 + k ≡ b + suc k = omega arith in e)

-- the same bytes n further on
pub same_from : (x : List ℕ) (a : ℕ) (y : List ℕ) (b i n : ℕ) → Same x a y b (i + n) → Same x (a + i) y (b + i) n
same_from x a y b i n h k l =
    ap (λ j. get_or x j 0) (let e : a + i + k ≡ a + (i + k) = omega arith in e) ∙ h (i + k) (omega arith)
    ∙ ap (λ j. get_or y j 0) (let e : b + (i + k) ≡ b + i + k = omega arith in e)

-- and the n bytes behind i bytes that are the same
pub same-join : (x : List ℕ) (a : ℕ) (y : List ℕ) (b i n : ℕ) → Same x a y b i → Same x (a + i) y (b + i) n → Same x a y b (i + n)
same-join x a y b i n h g k l = go (dec_lt k i)
  where
    go : Dec (k < i) → get_or x (a + k) 0 ≡ get_or y (b + k) 0
    go (yes e) = h k e
    go (no e) =
        ap (λ j. get_or x j 0) (let p : a + k ≡ a + i + (k - i) = omega arith in p) ∙ g (k - i) (omega arith)
        ∙ ap (λ j. get_or y j 0) (let p : b + i + (k - i) ≡ b + k = omega arith in p)

-- a number depends on its bytes alone
pub le_same : (n : ℕ) (x : List ℕ) (a : ℕ) (y : List ℕ) (b : ℕ) → Same x a y b n → le n x a ≡ le n y b
unfolding le
le_same zero x a y b h = refl
le_same (suc n) x a y b h = let e : le n x (a + 1) ≡ le n y (b + 1) = le_same n x (a + 1) y (b + 1) (same-tail x a y b n h) in omega (arith, same_head x a y b n h)

-- equal numbers are equal in their bytes
pub le-inj : (n : ℕ) (x : List ℕ) (a : ℕ) (y : List ℕ) (b : ℕ) → Octets x → Octets y → le n x a ≡ le n y b → Same x a y b n
unfolding le
le-inj zero x a y b p q e = λ k l. absurd (omega arith)
le-inj (suc n) x a y b p q e = same-cons x a y b n (omega (arith, p a, q b)) (le-inj n x (a + 1) y (b + 1) p q (omega (arith, p a, q b)))

-- the same of numbers that stand i bytes further on
pub le-further : (n : ℕ) (x : List ℕ) (a : ℕ) (y : List ℕ) (b i : ℕ) → Same x a y b (i + n) → le n x (a + i) ≡ le n y (b + i)
le-further n x a y b i h = le_same n x (a + i) y (b + i) (same_from x a y b i n h)

pub le-more : (n : ℕ) (x : List ℕ) (a : ℕ) (y : List ℕ) (b i : ℕ) → Octets x → Octets y → Same x a y b i → le n x (a + i) ≡ le n y (b + i) → Same x a y b (i + n)
le-more n x a y b i p q h e = same-join x a y b i n h (le-inj n x (a + i) y (b + i) p q e)

pub le-bound : (n : ℕ) (s : List ℕ) (i : ℕ) → Octets s → le n s i < 256 ^ n
unfolding le
le-bound zero s i h = omega arith
le-bound (suc n) s i h = omega (arith, pow-suc 256 n, le-bound n s (i + 1) h, h i)

pub le_bytes-length : (n w : ℕ) → length (le_bytes n w) ≡ n
unfolding le_bytes
le_bytes-length zero w = refl
le_bytes-length (suc n) w = ap suc (le_bytes-length n (w / 256))

-- a number reads back
pub le-back : (n w : ℕ) → w < 256 ^ n → le n (le_bytes n w) 0 ≡ w
unfolding le le_bytes
le-back zero w h = omega arith
le-back (suc n) w h =
    let e : le n (w % 256 ∷ le_bytes n (w / 256)) 1 ≡ le n (le_bytes n (w / 256)) 0 = le_same n (w % 256 ∷ le_bytes n (w / 256)) 1 (le_bytes n (w / 256)) 0 (λ k l. rw (add-one-left k)) in
    omega (arith, le-back n (w / 256) (omega (arith, pow-suc 256 n)))
  where
    add-one-left : (k : ℕ) → 1 + k ≡ suc (0 + k)
    add-one-left k = omega arith

-- a number stands where its bytes stand
pub le-text : (n w : ℕ) (x : List ℕ) (at : ℕ) → w < 256 ^ n → Text x at (le_bytes n w) → le n x at ≡ w
le-text n w x at h t = le_same n x at (le_bytes n w) 0 (λ k l. t k (rw le_bytes-length l) ∙ ap (λ i. get_or (le_bytes n w) i 0) (omega arith)) ∙ le-back n w h

-- the bytes of a number: the low m, then the n of what is left
pub le_bytes-append : (m n w : ℕ) → le_bytes (m + n) w ≡ le_bytes m w ++ le_bytes n (w / 256 ^ m)
unfolding le_bytes
le_bytes-append zero n w = rw (zero-add, div-one)
le_bytes-append (suc m) n w = rw (suc-add, pow-succ', ← div-div-eq-div-mul, le_bytes) (ap (λ l. w % 256 ∷ l) (le_bytes-append m n (w / 256)))

-- a number is 0 exactly when its bytes are
pub le-zero : (n : ℕ) (x : List ℕ) (a : ℕ) → le n x a ≡ 0 → (k : ℕ) → k < n → get_or x (a + k) 0 ≡ 0
unfolding le
le-zero zero x a h k l = omega arith
le-zero (suc n) x a h zero l = rw add-zero (omega arith)
le-zero (suc n) x a h (suc k) l = ap (λ i. get_or x i 0) (let e : a + suc k ≡ a + 1 + k = omega arith in e) ∙ le-zero n x (a + 1) (omega arith) k (omega arith)

pub zero-le : (n : ℕ) (x : List ℕ) (a : ℕ) → ((k : ℕ) → k < n → get_or x (a + k) 0 ≡ 0) → le n x a ≡ 0
unfolding le
zero-le zero x a h = refl
zero-le (suc n) x a h =
    let e : get_or x a 0 ≡ 0 = ap (λ i. get_or x i 0) (sym (add-zero a)) ∙ h 0 (omega arith) in
    let f : le n x (a + 1) ≡ 0 = zero-le n x (a + 1) (λ k l. ap (λ i. get_or x i 0) (let e : a + 1 + k ≡ a + suc k = omega arith in e) ∙ h (suc k) (omega arith)) in
    omega arith

-- numbers of two, four and eight bytes by their halves
pub le-two : (s : List ℕ) (i : ℕ) → le 2 s i ≡ get_or s i 0 + 256 * get_or s (i + 1) 0
unfolding le
le-two s i = omega arith

pub le_four : (s : List ℕ) (i : ℕ) → le 4 s i ≡ le 2 s i + 65536 * le 2 s (i + 2)
unfolding le
le_four s i = simp add_assoc (omega arith)

pub le-eight : (s : List ℕ) (i : ℕ) → le 8 s i ≡ le 4 s i + 4294967296 * le 4 s (i + 4)
unfolding le
le-eight s i = simp add_assoc (omega arith)

-- Parts

pub part_length : (s : List ℕ) (i n : ℕ) → i + n ≤ length s → length (part s i n) ≡ n
part_length s i n h = simp (length-take, length-drop) (omega arith)

pub part_at : (s : List ℕ) (i n k : ℕ) → k < n → get_or (part s i n) k 0 ≡ get_or s (i + k) 0
part_at s i n k h = rw (get_or-take, get_or-drop)

pub part-append : (s : List ℕ) (a i n : ℕ) → part s a (i + n) ≡ part s a i ++ part s (a + i) n
part-append s a i n = take-add i n (drop a s) ∙ ap (λ l. part s a i ++ take n l) (drop-drop i a s)

-- a part depends on its bytes alone
pub part_same : (x : List ℕ) (a : ℕ) (y : List ℕ) (b n : ℕ) → a + n ≤ length x → b + n ≤ length y → Same x a y b n → part x a n ≡ part y b n
part_same x a y b n f g h =
    ext_get_or 0 (part x a n) (part y b n) (part_length x a n f ∙ sym (part_length y b n g))
    (λ i l. let m : i < n = rw (part_length x a n f) at l in part_at x a n i m ∙ h i m ∙ sym (part_at y b n i m))

pub same-part : (x : List ℕ) (a : ℕ) (y : List ℕ) (b n : ℕ) → part x a n ≡ part y b n → Same x a y b n
same-part x a y b n e k l = sym (part_at x a n k l) ∙ ap (λ s. get_or s k 0) e ∙ part_at y b n k l

-- Comparison, zeros, stretches

pub same_refl : (s : List ℕ) → same s s ≡ true
unfolding same
same_refl [] = refl
same_refl (a ∷ s) = rw (eq-eqb a a refl, same) (same_refl s)

pub eq-same : (s t : List ℕ) → s ≡ t → same s t ≡ true
eq-same s t e = rw (← e) (same_refl s)

pub same-eq : (s t : List ℕ) → same s t ≡ true → s ≡ t
unfolding same
same-eq [] [] h = refl
same-eq [] (b ∷ t) h = absurd (true≢false (sym h))
same-eq (a ∷ s) [] h = absurd (true≢false (sym h))
same-eq (a ∷ s) (b ∷ t) h = go (same-eq s t) (ℕ_discrete a b) h
  where
    go : (same s t ≡ true → s ≡ t) → Dec (a ≡ b) → same (a ∷ s) (b ∷ t) ≡ true → ◌≡◌ {A = List ℕ} (a ∷ s) (b ∷ t)
    go f (yes e) h = let g : s ≡ t = f (rw (eq-eqb a b e, same) at h) in cc
    go f (no e) h = absurd (true≢false (sym (rw (ne_eqb a b e, same) at h)))

pub ne_same : (s t : List ℕ) → (s ≡ t → ⊥) → same s t ≡ false
ne_same s t n = go (same s t) refl
  where
    go : (b : Bool) → same s t ≡ b → same s t ≡ false
    go true e = absurd (n (same-eq s t e))
    go false e = e

-- two texts of which each begins with as many bytes are compared in two halves
pub same-append : (s t s' t' : List ℕ) → length s ≡ length t → same (s ++ s') (t ++ t') ≡ (same s t && same s' t')
unfolding same
same-append [] [] s' t' h = refl
same-append [] (b ∷ t) s' t' h = absurd (omega arith)
same-append (a ∷ s) [] s' t' h = absurd (omega arith)
same-append (a ∷ s) (b ∷ t) s' t' h = go (eqb a b) (same-append s t s' t' (omega arith))
  where
    go : (e : Bool) → same (s ++ s') (t ++ t') ≡ (same s t && same s' t')
        → elim e [ true ↦ same (s ++ s') (t ++ t') | false ↦ false ] ≡ (elim e [ true ↦ same s t | false ↦ false ] && same s' t')
    go true h = h
    go false h = refl

-- parts are the same when their bytes are, and are compared in two halves too
pub same-yes : (x : List ℕ) (a : ℕ) (y : List ℕ) (b n : ℕ) → a + n ≤ length x → b + n ≤ length y → Same x a y b n → same (part x a n) (part y b n) ≡ true
same-yes x a y b n f g h = eq-same (part x a n) (part y b n) (part_same x a y b n f g h)

pub same-no : (x : List ℕ) (a : ℕ) (y : List ℕ) (b n : ℕ) → (Same x a y b n → ⊥) → same (part x a n) (part y b n) ≡ false
same-no x a y b n h = ne_same (part x a n) (part y b n) (λ e. h (same-part x a y b n e))

pub same-halves : (x : List ℕ) (a : ℕ) (y : List ℕ) (b i n : ℕ) → a + i ≤ length x → b + i ≤ length y
    → same (part x a (i + n)) (part y b (i + n)) ≡ (same (part x a i) (part y b i) && same (part x (a + i) n) (part y (b + i) n))
same-halves x a y b i n f g =
    rw (part-append x a i n, part-append y b i n)
    (same-append (part x a i) (part y b i) (part x (a + i) n) (part y (b + i) n) (part_length x a i f ∙ sym (part_length y b i g)))

-- a zero is found, with its place, or there is none
pub zero-found : (s : List ℕ) (i n : ℕ) → zero_in s i n ≡ true → (k : ℕ) × (k < n) × (get_or s (i + k) 0 ≡ 0)
unfolding zero_in
zero-found s i zero h = absurd (true≢false (sym h))
zero-found s i (suc n) h = go (zero-found s (i + 1) n) (ℕ_discrete (get_or s i 0) 0) h
  where
    go : (zero_in s (i + 1) n ≡ true → (k : ℕ) × (k < n) × (get_or s (i + 1 + k) 0 ≡ 0)) → Dec (get_or s i 0 ≡ 0) → zero_in s i (suc n) ≡ true → (k : ℕ) × (k < suc n) × (get_or s (i + k) 0 ≡ 0)
    go f (yes e) h = (0, omega arith, rw add-zero e)
    go f (no e) h =
        let r : (k : ℕ) × (k < n) × (get_or s (i + 1 + k) 0 ≡ 0) = f (rw (ne_eqb (get_or s i 0) 0 e, zero_in) at h) in
        (suc r.0, omega arith, ap (λ j. get_or s j 0) (let q : i + suc r.0 ≡ i + 1 + r.0 = omega arith in q) ∙ r.2)

pub no_zero : (s : List ℕ) (i n : ℕ) → zero_in s i n ≡ false → (k : ℕ) → k < n → get_or s (i + k) 0 ≡ 0 → ⊥
unfolding zero_in
no_zero s i zero h k l z = omega arith
no_zero s i (suc n) h k l z = go (no_zero s (i + 1) n) (ℕ_discrete (get_or s i 0) 0) h k l z
  where
    go : (zero_in s (i + 1) n ≡ false → (k : ℕ) → k < n → get_or s (i + 1 + k) 0 ≡ 0 → ⊥) → Dec (get_or s i 0 ≡ 0) → zero_in s i (suc n) ≡ false → (k : ℕ) → k < suc n → get_or s (i + k) 0 ≡ 0 → ⊥
    go f (yes e) h k l z = true≢false (rw (eq-eqb (get_or s i 0) 0 e, zero_in) at h)
    go f (no e) h zero l z = e (ap (λ j. get_or s j 0) (sym (add-zero i)) ∙ z)
    go f (no e) h (suc k) l z = f (rw (ne_eqb (get_or s i 0) 0 e, zero_in) at h) k (omega arith) (ap (λ j. get_or s j 0) (let q : i + 1 + k ≡ i + suc k = omega arith in q) ∙ z)

pub zero_in_lem : (s : List ℕ) (i n k : ℕ) → k < n → get_or s (i + k) 0 ≡ 0 → zero_in s i n ≡ true
zero_in_lem s i n k l z = go (zero_in s i n) refl
  where
    go : (b : Bool) → zero_in s i n ≡ b → zero_in s i n ≡ true
    go true e = e
    go false e = absurd (no_zero s i n e k l z)

pub zero-out : (s : List ℕ) (i n : ℕ) → ((k : ℕ) → k < n → get_or s (i + k) 0 ≡ 0 → ⊥) → zero_in s i n ≡ false
zero-out s i n f = go (zero_in s i n) refl
  where
    go : (b : Bool) → zero_in s i n ≡ b → zero_in s i n ≡ false
    go true e = let r : (k : ℕ) × (k < n) × (get_or s (i + k) 0 ≡ 0) = zero-found s i n e in absurd (f r.0 r.1 r.2)
    go false e = e

pub zero_in-same : (n : ℕ) (x : List ℕ) (a : ℕ) (y : List ℕ) (b : ℕ) → Same x a y b n → zero_in x a n ≡ zero_in y b n
unfolding zero_in
zero_in-same zero x a y b h = refl
zero_in-same (suc n) x a y b h =
    let e : get_or x a 0 ≡ get_or y b 0 = same_head x a y b n h in
    let t : zero_in x (a + 1) n ≡ zero_in y (b + 1) n = zero_in-same n x (a + 1) y (b + 1) (same-tail x a y b n h) in
    λ i. elim (eqb (e i) 0) [ true ↦ true | false ↦ t i ]

-- two stretches share no byte exactly when the test says so
pub meets-apart : (a n b m : ℕ) → meets a n b m ≡ false → Apart a n b m
meets-apart a n b m h p i j k l = omega (arith, ltb-false (max a b) (min (a + n) (b + m)) h)

pub apart-meets : (a n b m : ℕ) → Apart a n b m → meets a n b m ≡ false
apart-meets a n b m h = le-ltb _ _ (go (dec_lt (max a b) (min (a + n) (b + m))))
  where
    go : Dec (max a b < min (a + n) (b + m)) → min (a + n) (b + m) ≤ max a b
    go (yes e) = absurd (h (max a b) (omega arith) (omega arith) (omega arith) (omega arith))
    go (no e) = omega arith

-- Stores

pub stored-length : (s : List ℕ) (i : ℕ) (bs : List ℕ) → length (stored s i bs) ≡ length s
unfolding stored
stored-length s i [] = refl
stored-length s i (b ∷ bs) = stored-length (set s i b) (i + 1) bs ∙ length-set s i b

pub stored-below : (s : List ℕ) (i : ℕ) (bs : List ℕ) (k : ℕ) → k < i → get_or (stored s i bs) k 0 ≡ get_or s k 0
unfolding stored
stored-below s i [] k h = refl
stored-below s i (b ∷ bs) k h = stored-below (set s i b) (i + 1) bs k (omega arith) ∙ get_or-set_other s i k b 0 (λ e. omega arith)

pub stored-above : (s : List ℕ) (i : ℕ) (bs : List ℕ) (k : ℕ) → i + length bs ≤ k → get_or (stored s i bs) k 0 ≡ get_or s k 0
unfolding stored
stored-above s i [] k h = refl
stored-above s i (b ∷ bs) k h = stored-above (set s i b) (i + 1) bs k (omega arith) ∙ get_or-set_other s i k b 0 (λ e. omega arith)

pub stored-inside : (s : List ℕ) (i : ℕ) (bs : List ℕ) (k : ℕ) → i + length bs ≤ length s → k < length bs → get_or (stored s i bs) (i + k) 0 ≡ get_or bs k 0
unfolding stored
stored-inside s i [] k h l = absurd (omega arith)
stored-inside s i (b ∷ bs) zero h l = rw add-zero (stored-below (set s i b) (i + 1) bs i (omega arith) ∙ get_or-set_same s i b 0 (omega arith))
stored-inside s i (b ∷ bs) (suc k) h l =
    ap (λ (n : ℕ). get_or (stored (set s i b) (i + 1) bs) n 0) (omega arith)
    ∙ stored-inside (set s i b) (i + 1) bs k (simp length-set (omega arith)) (omega arith)

-- a text stored behind another is the two in a row; the next byte of a text, as a loop stores it
pub stored-append : (s : List ℕ) (i : ℕ) (a b : List ℕ) → stored s i (a ++ b) ≡ stored (stored s i a) (i + length a) b
unfolding stored
stored-append s i [] b = rw add-zero
stored-append s i (x ∷ a) b = stored-append (set s i x) (i + 1) a b ∙ ap (λ k. stored (stored (set s i x) (i + 1) a) k b) (omega arith)

pub stored-then : (s : List ℕ) (i : ℕ) (a b : List ℕ) (j : ℕ) → i + length a ≡ j → stored (stored s i a) j b ≡ stored s i (a ++ b)
stored-then s i a b j e = ap (λ k. stored (stored s i a) k b) (sym e) ∙ sym (stored-append s i a b)

pub store-more : (s t u : List ℕ) (i j : ℕ) (a b : List ℕ) → t ≡ stored s i a → i + length a ≡ j → u ≡ stored t j b → u ≡ stored s i (a ++ b)
store-more s t u i j a b e n f = f ∙ ap (λ l. stored l j b) e ∙ stored-then s i a b j n

pub stored_next : (s : List ℕ) (i : ℕ) (t : List ℕ) (n : ℕ) → n < length t → set (stored s i (take n t)) (i + n) (get_or t n 0) ≡ stored s i (take (n + 1) t)
unfolding stored
stored_next s i t n h =
    let next : take (n + 1) t ≡ take n t ++ (get_or t n 0 ∷ []) = rw add-one (take-suc t n 0 h) in
    let place : length (take n t) ≡ n = length-take-le n t (omega arith) in
    rw (next, stored-append s i (take n t), place)

-- four and eight bytes as their stores come
pub stored-four : (s : List ℕ) (i w : ℕ)
    → set (set (set (set s i (w % 256)) (i + 1) (w / 256 % 256)) (i + 2) (w / 256 / 256 % 256)) (i + 3) (w / 256 / 256 / 256 % 256) ≡ stored s i (le_bytes 4 w)
unfolding stored le_bytes
stored-four s i w = simp add_assoc

pub stored-eight : (s : List ℕ) (i w : ℕ) → stored (stored s i (le_bytes 4 w)) (i + 4) (le_bytes 4 (w / 4294967296)) ≡ stored s i (le_bytes 8 w)
stored-eight s i w =
    stored-then s i (le_bytes 4 w) (le_bytes 4 (w / 4294967296)) (i + 4) (ap (λ n. i + n) (le_bytes-length 4 w)) ∙ ap (stored s i) (sym (le_bytes-append 4 4 w))

-- what was stored, between what was before and behind
pub stored-paste : (s : List ℕ) (i : ℕ) (bs : List ℕ) → i + length bs ≤ length s → stored s i bs ≡ take i s ++ bs ++ drop (i + length bs) s
unfolding stored
stored-paste s i bs h = as-sets s i bs ∙ sets-eq bs s i h
  where
    as-sets : (s : List ℕ) (i : ℕ) (bs : List ℕ) → stored s i bs ≡ sets s i bs
    as-sets s i [] = refl
    as-sets s i (b ∷ bs) = rw add-one (as-sets (set s i b) (suc i) bs)

-- a text as long as what it is stored over is all that is left
pub stored-whole : (s t : List ℕ) → length t ≡ length s → stored s 0 t ≡ t
stored-whole s t e = stored-paste s 0 t (omega arith) ∙ ap (λ l. t ++ l) (drop_of_length-le s {i = 0 + length t} (omega arith)) ∙ append-nil t

-- what stands before the place k behind a stored text
pub stored-front : (s : List ℕ) (i : ℕ) (bs t : List ℕ) (k : ℕ) → t ≡ stored s i bs → k ≡ i + length bs → i + length bs ≤ length s → take k t ≡ take i s ++ bs
stored-front s i bs t k e f h =
    let n : length (take i s ++ bs) ≡ i + length bs = length-append (take i s) bs ∙ ap (λ m. m + length bs) (length-take-le i s (omega arith)) in
    rw (f, e, stored-paste s i bs h) (take_at (take i s ++ bs) (drop (i + length bs) s) (i + length bs) n)

-- a word that is stored reads back
pub stored_back : (s : List ℕ) (i n w : ℕ) → i + n ≤ length s → w < 256 ^ n → le n (stored s i (le_bytes n w)) i ≡ w
stored_back s i n w h l =
    le-text n w (stored s i (le_bytes n w)) i l (λ k m. stored-inside s i (le_bytes n w) k (rw le_bytes-length h) m)
