-- Phases: a list of stores taken as one piece, what holds from before each of its stores to behind it, and what after the last.
use Prim.Native.Nat.{ℕ, zero, suc, ◌+◌, ◌*◌, ◌-◌, ◌≤◌, ◌<◌}
use mathlib.Core.Path.{◌≡◌, ◌∙◌, ap}
use mathlib.Core.List.{List, [], ◌++◌}
use native.Mathlib.Decide.{dec_lt}
use native.Mathlib.Omega.{arith}
use lib.ListN.{length, get_or, take, length-append}
use lib.Seq.{take_all}
use Rattle.gsd_stores.specs.Stores.{Store, after, words, up, down, slots_down}
use Rattle.gsd_format.proofs.Lists.{each_take}
use Rattle.gsd_stores.proofs.Stores.{after-append, after-length, after_first, after-second, words-length, words_take, words-off}
use Rattle.gsd_stores.proofs.Stores.{take-up, take-down, Fills, up-fills, down-fills, slots-fills, fills-off, fills-over, slots-gap}
use Rattle.gsd_stores.proofs.Stores.{Over, Misses, up-over, down-over}

-- from every image with P: W from the image before each store to that after it, and Q after all
pub record Phase (P Q : List ℕ → Type 0) (W : List ℕ → List ℕ → Type 0) (xs : List Store) : Type 0 where
  pub during : (img : List ℕ) → P img → (k : ℕ) → k < length xs → W (after img (take k xs)) (after img (take (suc k) xs))
  pub final : (img : List ℕ) → P img → Q (after img xs)

pub phase-nil : {P : List ℕ → Type 0} {W : List ℕ → List ℕ → Type 0} → Phase P P W []
unfolding after
phase-nil = record { during = λ img p k h. absurd (omega arith); final = λ img p. p }

pub phase-weaken : {P P' Q Q' : List ℕ → Type 0} {W : List ℕ → List ℕ → Type 0} {xs : List Store} →
    ((x : List ℕ) → P' x → P x) → ((x : List ℕ) → Q x → Q' x) → Phase P Q W xs → Phase P' Q' W xs
phase-weaken p q f = record { during = λ img h. f.during img (p img h); final = λ img h. q _ (f.final img (p img h)) }

infixl 20 ◌⨾◌
pub ◌⨾◌ : {P Q R : List ℕ → Type 0} {W : List ℕ → List ℕ → Type 0} {xs ys : List Store} → Phase P Q W xs → Phase Q R W ys → Phase P R W (xs ++ ys)
◌⨾◌ {P} {Q} {R} {W} {xs} {ys} f g = record {
  during = λ img p k h. go img p k h (dec_lt k (length xs));
  final = λ img p. rw after-append (g.final (after img xs) (f.final img p));
}
  where
    go : (img : List ℕ) → P img → (k : ℕ) → k < length (xs ++ ys) → Dec (k < length xs) →
        W (after img (take k (xs ++ ys))) (after img (take (suc k) (xs ++ ys)))
    go img p k h (yes l) = rw (after_first img k xs ys (omega arith), after_first img (suc k) xs ys (omega arith)) (f.during img p k l)
    go img p k h (no l) =
        let j : ℕ = k - length xs in
        let before : after img (take k (xs ++ ys)) ≡ after (after img xs) (take j ys)
        = ap (λ n. after img (take n (xs ++ ys))) (let e : k ≡ length xs + j = omega arith in e) ∙ after-second img j xs ys in
        let behind : after img (take (suc k) (xs ++ ys)) ≡ after (after img xs) (take (suc j) ys)
        = ap (λ n. after img (take n (xs ++ ys))) (let e : suc k ≡ length xs + suc j = omega arith in e) ∙ after-second img (suc j) xs ys in
        rw (before, behind) (g.during (after img xs) (f.final img p) j (omega (arith, length-append xs ys)))

-- Extents. Before each store the image is that after the words at the first k places, which has M; W holds from M to M, and from M to Q,
-- which the image after the last store has

module _ {P Q M : List ℕ → Type 0} {W : List ℕ → List ℕ → Type 0}
    (on : (a b : List ℕ) → M a → M b → W a b) (out : (a b : List ℕ) → M a → Q b → W a b) where
  pub phase-fills : {lo n : ℕ} {l : List ℕ} → Fills lo n l → (t : List ℕ) (base : ℕ) → base ≤ lo → ((x : List ℕ) → P x → lo + 8 * n ≤ length x) →
      ((x : List ℕ) → P x → (k : ℕ) → k < n → M (after x (words t base (take k l)))) →
      ((x : List ℕ) → P x → (y : List ℕ) → Over x t base lo (lo + 8 * n) y → Q y) →
      Phase P Q W (words t base l)
  phase-fills {n = n} {l = l} f t base b r m q = record {
    during = λ x p k h. rw (words_take k, words_take (suc k)) (go x p k (omega (arith, words-length t base l, f.size)) (dec_lt (suc k) n));
    final = last;
  }
    where
      last : (x : List ℕ) → P x → Q (after x (words t base l))
      last x p = q x p _ (fills-over f x t base b (r x p))

      go : (x : List ℕ) → P x → (k : ℕ) → k < n → Dec (suc k < n) → W (after x (words t base (take k l))) (after x (words t base (take (suc k) l)))
      go x p k h (yes u) = on _ _ (m x p k h) (m x p (suc k) u)
      go x p k h (no u) = out _ _ (m x p k h) (rw (take_all (suc k) l (omega (arith, f.size))) (last x p))

  module _ (t : List ℕ) (base lo n : ℕ) (b : base ≤ lo) (r : (x : List ℕ) → P x → lo + 8 * n ≤ length x) where
    pub phase-up : ((x : List ℕ) → P x → (m : ℕ) → m < n → (y : List ℕ) → Over x t base lo (lo + 8 * m) y → M y) →
        ((x : List ℕ) → P x → (y : List ℕ) → Over x t base lo (lo + 8 * n) y → Q y) →
        Phase P Q W (words t base (up lo n))
    phase-up w = phase-fills (up-fills lo n) t base b r (λ x p k m.
        rw (take-up k lo n (omega arith)) (w x p k m _ (up-over k x t base lo b (omega (arith, r x p)))))

    pub phase-down : ((x : List ℕ) → P x → (m : ℕ) → m < n → (y : List ℕ) → Over x t base (lo + 8 * (n - m)) (lo + 8 * n) y → M y) →
        ((x : List ℕ) → P x → (y : List ℕ) → Over x t base lo (lo + 8 * n) y → Q y) →
        Phase P Q W (words t base (down lo n))
    phase-down w = phase-fills (down-fills lo n) t base b r (λ x p k m.
        let e : lo + 8 * (n - k) + 8 * k ≡ lo + 8 * n = omega arith in
        rw (take-down k lo n (omega arith)) (w x p k m _ (rw e at (down-over k x t base (lo + 8 * (n - k)) (omega arith) (omega (arith, r x p))))))

  -- one word
  pub phase-one : (t : List ℕ) (a : ℕ) → ((x : List ℕ) → P x → a + 8 ≤ length x) → ((x : List ℕ) → P x → M x) →
      ((x : List ℕ) → P x → (y : List ℕ) → Over x t a a (a + 8) y → Q y) → Phase P Q W (words t a (up a 1))
  unfolding after words
  phase-one t a r m q = phase-fills (up-fills a 1) t a (omega arith) r (λ x p. elim [ zero ↦ λ h. m x p | suc k ↦ λ h. absurd (omega arith) ]) q

-- slots are begun: nothing outside them is touched, nor the first one's location
pub record Begun (img : List ℕ) (lo n : ℕ) (x : List ℕ) : Type 0 where
  pub long : length x ≡ length img
  pub outside : (p : ℕ) → (lo ≤ p → p < lo + 32 * n → ⊥) → get_or x p 0 ≡ get_or img p 0
  pub gap : (p : ℕ) → lo + 16 ≤ p → p < lo + 24 → get_or x p 0 ≡ get_or img p 0

pub phase-slots : {P Q M : List ℕ → Type 0} {W : List ℕ → List ℕ → Type 0} →
    ((a b : List ℕ) → M a → M b → W a b) → ((a b : List ℕ) → M a → Q b → W a b) →
    (t : List ℕ) (base lo n : ℕ) → base ≤ lo → ((x : List ℕ) → P x → lo + 32 * n ≤ length x) →
    ((x : List ℕ) → P x → (y : List ℕ) → Begun x lo n y → M y) →
    ((x : List ℕ) → P x → (y : List ℕ) → Over x t base lo (lo + 32 * n) y → Q y) →
    Phase P Q W (words t base (slots_down lo n))
phase-slots on out t base lo n b r w q =
    phase-fills on out (slots-fills lo n) t base b (λ x p. omega (arith, r x p))
    (λ x p k m. w x p _ (record {
      long = after-length x (words t base (take k (slots_down lo n)));
      outside = λ i o. words-off x t base i (take k (slots_down lo n))
          (each_take (Misses i) k (slots_down lo n) (fills-off (slots-fills lo n) i (λ c d. o c (omega arith))));
      gap = λ i c d. words-off x t base i (take k (slots_down lo n)) (slots-gap n lo i k c d m);
    }))
    (λ x p y o. q x p y (let e : lo + 8 * (4 * n) ≡ lo + 32 * n = omega arith in rw e at o))
