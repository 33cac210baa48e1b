-- An extreme is a value of its column, none there comes before it, and it comes before all that were met earlier; extremes of values
-- and of later ones join.
use Prim.Native.Nat.{ℕ, zero, suc, ◌+◌, ◌-◌, ◌<◌}
use mathlib.Core.Path.{◌≡◌, refl, sym, ◌∙◌, ap}
use mathlib.Core.Bool.{Bool, true, false, true≢false, cond}
use native.Mathlib.Nat.{add-zero}
use native.Mathlib.Numerals.{add-one}
use native.Mathlib.Decide.{ℕ_discrete}
use native.Mathlib.Omega.{arith}
use lib.Ieee.{Float, neg, is_nan}
use Rattle.gsd_columns.specs.Columns.{less, more, kept, foremost, extreme, Foremost}
use Rattle.gsd_columns.specs.Scans.{Extremes, Joined, Rows, RowsJoined}
use Rattle.gsd_columns.specs.declared.scan.Three.{Three}
use Rattle.gsd_columns.proofs.Order.{lt-weak, lt-asym, lt-neg, nan-neg}

-- of two values at most one comes before the other, and what comes before one comes before all numbers that do not
pub record Orders (before : Float → Float → Bool) : Type 0 where
  pub asym : (x y : Float) → before x y ≡ true → before y x ≡ false
  pub weak : (x y z : Float) → is_nan z ≡ false → before x y ≡ true → before z y ≡ false → before x z ≡ true

pub less-orders : Orders less
less-orders = record { asym = lt-asym; weak = lt-weak }

pub more-orders : Orders more
more-orders = record {
  asym = λ x y h. lt-asym y x h;
  weak = λ x y z w h k. sym (lt-neg z x) ∙ lt-weak (neg x) (neg y) (neg z) (nan-neg z ∙ w) (lt-neg y x ∙ h) (lt-neg y z ∙ k);
}

pub refuted : (b : Bool) → (b ≡ true → ⊥) → b ≡ false
refuted true h = absurd (h refl)
refuted false h = refl

module _ (before : Float → Float → Bool) (orders : Orders before) where
  itself : (x : Float) → before x x ≡ false
  itself x = refuted (before x x) (λ h. true≢false (sym h ∙ orders.asym x x h))

  pub foremost-first : (x : ℕ → Float) (n : ℕ) → ((i : ℕ) → i < suc n → is_nan (x i) ≡ false) → Foremost before x (suc n) (foremost before x n)
  unfolding foremost
  foremost-first x zero numbers = record {
    place = 0;
    within = omega arith;
    there = refl;
    none = λ i l. ap (λ k. before (x k) (x 0)) (omega arith) ∙ itself (x 0);
    first = λ i l. absurd (omega arith);
  }
  foremost-first x (suc n) numbers =
      go (foremost before x n) (foremost-first x n (λ i l. numbers i (omega arith))) (before (x (suc n)) (foremost before x n)) refl
    where
      go : (best : Float) → Foremost before x (suc n) best → (t : Bool) → before (x (suc n)) best ≡ t →
          Foremost before x (suc (suc n)) (cond t (x (suc n)) best)
      go best f true e = record {
        place = suc n;
        within = omega arith;
        there = refl;
        none = λ i l. none i l (ℕ_discrete i (suc n));
        first = λ i l. orders.weak (x (suc n)) best (x i) (numbers i (omega arith)) e (f.none i l);
      }
        where
          number : is_nan best ≡ false
          number = ap is_nan f.there ∙ numbers f.place (omega (arith, f.within))

          none : (i : ℕ) → i < suc (suc n) → Dec (i ≡ suc n) → before (x i) (x (suc n)) ≡ false
          none i l (yes p) = ap (λ k. before (x k) (x (suc n))) p ∙ itself (x (suc n))
          none i l (no p) =
              refuted (before (x i) (x (suc n)))
              (λ h. true≢false (sym (orders.weak (x i) (x (suc n)) best number h (orders.asym (x (suc n)) best e)) ∙ f.none i (omega arith)))
      go best f false e = record {
        place = f.place;
        within = omega (arith, f.within);
        there = f.there;
        none = λ i l. none i l (ℕ_discrete i (suc n));
        first = f.first;
      }
        where
          none : (i : ℕ) → i < suc (suc n) → Dec (i ≡ suc n) → before (x i) best ≡ false
          none i l (yes p) = ap (λ k. before (x k) best) p ∙ e
          none i l (no p) = f.none i (omega arith)

  -- of the first n values, of which there is one at least
  pub extreme-first : (x : ℕ → Float) (n : ℕ) → 0 < n → ((i : ℕ) → i < n → is_nan (x i) ≡ false) → Foremost before x n (extreme before x n)
  extreme-first x zero h numbers = absurd (omega arith)
  extreme-first x (suc n) h numbers = ap-last (foremost-first x n numbers)
    where
      ap-last : Foremost before x (suc n) (foremost before x n) → Foremost before x (suc n) (extreme before x (suc n))
      ap-last f = let e : suc n - 1 ≡ n = omega arith in rw e f

  pub extreme-number : (x : ℕ → Float) (n : ℕ) → 0 < n → ((i : ℕ) → i < n → is_nan (x i) ≡ false) → is_nan (extreme before x n) ≡ false
  extreme-number x n h numbers = let f = extreme-first x n h numbers in ap is_nan f.there ∙ numbers f.place f.within

  -- joining

  trans : (x y z : Float) → is_nan z ≡ false → before x y ≡ true → before y z ≡ true → before x z ≡ true
  trans x y z w h k = orders.weak x y z w h (orders.asym y z k)

  -- what is kept of three does not depend on which two meet first
  kept-assoc : (a b c : Float) → is_nan a ≡ false → is_nan b ≡ false → kept before (kept before a b) c ≡ kept before a (kept before b c)
  kept-assoc a b c p q = go (before b a) refl (before c b) refl
    where
      go : (t : Bool) → before b a ≡ t → (u : Bool) → before c b ≡ u → kept before (cond t b a) c ≡ kept before a (cond u c b)
      go true e true f = rw (f, trans c b a p f e)
      go true e false f = rw (f, e)
      go false e true f = refl
      go false e false f = rw (e, refuted (before c a) (λ h. true≢false (sym (orders.weak c a b q h e) ∙ f)))

  next : (x : ℕ → Float) (n : ℕ) → 0 < n → extreme before x (n + 1) ≡ kept before (extreme before x n) (x n)
  unfolding foremost
  next x zero h = absurd (omega arith)
  next x (suc n) h =
      let e : suc n + 1 - 1 ≡ suc n = omega arith in
      let f : suc n - 1 ≡ n = omega arith in
      ap (foremost before x) e ∙ ap (λ m. kept before (foremost before x m) (x (suc n))) (sym f)

  -- the extreme of i values and of k behind them
  extreme-join : (x : ℕ → Float) (i k : ℕ) → 0 < i → ((j : ℕ) → j < i + suc k → is_nan (x j) ≡ false) →
      extreme before x (i + suc k) ≡ kept before (extreme before x i) (extreme before (λ j. x (i + j)) (suc k))
  unfolding foremost
  extreme-join x i zero h numbers = next x i h ∙ ap (λ j. kept before (extreme before x i) (x j)) (sym (add-zero i))
  extreme-join x i (suc k) h numbers =
      let behind : ℕ → Float = λ j. x (i + j) in
      let a : is_nan (extreme before x i) ≡ false = extreme-number x i h (λ j l. numbers j (omega arith)) in
      let b : is_nan (extreme before behind (suc k)) ≡ false = extreme-number behind (suc k) (omega arith) (λ j l. numbers (i + j) (omega arith)) in
      ap (extreme before x) (let e : i + suc (suc k) ≡ i + suc k + 1 = omega arith in e)
      ∙ next x (i + suc k) (omega arith)
      ∙ ap (λ v. kept before v (x (i + suc k))) (extreme-join x i k h (λ j l. numbers j (omega arith)))
      ∙ kept-assoc (extreme before x i) (extreme before behind (suc k)) (x (i + suc k)) a b
      ∙ ap (kept before (extreme before x i)) (sym (next behind (suc k) (omega arith)) ∙ ap (extreme before behind) (add-one (suc k)))

-- Both extremes

pub extremes-one : (x : ℕ → Float) (v a b : Float) → v ≡ x 0 → a ≡ v → b ≡ v → Extremes x 1 a b
unfolding foremost
extremes-one x v a b e p q = record { smallest = p ∙ e; largest = q ∙ e }

pub extremes-join : (x y : ℕ → Float) (i k : ℕ) (a b c d a' b' : Float) → 0 < i → 0 < k → ((j : ℕ) → j < i + k → is_nan (x j) ≡ false) →
    ((j : ℕ) → y j ≡ x (i + j)) → Extremes x i a b → Extremes y k c d → Joined a b c d a' b' → Extremes x (i + k) a' b'
extremes-join x y i zero a b c d a' b' h l numbers same e f g = absurd (omega arith)
extremes-join x y i (suc k) a b c d a' b' h l numbers same e f g = record {
  smallest = g.smallest ∙ (λ t. kept less (e.smallest t) ((f.smallest ∙ (λ t. extreme less (λ j. same j t) (suc k))) t))
      ∙ sym (extreme-join less less-orders x i k h numbers);
  largest = g.largest ∙ (λ t. kept more (e.largest t) ((f.largest ∙ (λ t. extreme more (λ j. same j t) (suc k))) t))
      ∙ sym (extreme-join more more-orders x i k h numbers);
}

pub extremes-same : (x y : ℕ → Float) (i n : ℕ) (a b : Float) → ((j : ℕ) → x j ≡ y j) → i ≡ n → Extremes x i a b → Extremes y n a b
extremes-same x y i n a b f e h = record {
  smallest = h.smallest ∙ (λ t. extreme less (λ j. f j t) (e t));
  largest = h.largest ∙ (λ t. extreme more (λ j. f j t) (e t));
}

-- of four, two and two joined
pub extremes-four : (x : ℕ → Float) (a a' b b' c c' d d' e e' f f' r r' : Float) → ((j : ℕ) → j < 4 → is_nan (x j) ≡ false) →
    Extremes x 1 a a' → Extremes (λ j. x (1 + j)) 1 b b' → Extremes (λ j. x (2 + j)) 1 c c' → Extremes (λ j. x (3 + j)) 1 d d' →
    Joined a a' b b' e e' → Joined c c' d d' f f' → Joined e e' f f' r r' → Extremes x 4 r r'
extremes-four x a a' b b' c c' d d' e e' f f' r r' numbers p q s t g h k =
    let two = extremes-join x (λ j. x (1 + j)) 1 1 _ _ _ _ _ _ (omega arith) (omega arith) (λ j l. numbers j (omega arith)) (λ j. refl) p q g in
    let later =
    extremes-join (λ j. x (2 + j)) (λ j. x (3 + j)) 1 1 _ _ _ _ _ _ (omega arith) (omega arith) (λ j l. numbers (2 + j) (omega arith))
    (λ j. ap x (omega arith)) s t h in
    extremes-join x (λ j. x (2 + j)) 2 2 _ _ _ _ _ _ (omega arith) (omega arith) numbers (λ j. refl) two later k

-- Those of three columns, row by row

pub rows-join : {F : Type 0} (value : F → Float) (columns : ℕ → ℕ → Float) (i k : ℕ) (t u t' : Three F) → 0 < i → 0 < k →
    ((c j : ℕ) → c < 3 → j < i + k → is_nan (columns c j) ≡ false) → Rows value columns i t → Rows value (λ c j. columns c (i + j)) k u →
    RowsJoined value t u t' → Rows value columns (i + k) t'
rows-join value columns i k t u t' h l numbers e f g = record {
  x = extremes-join (columns 0) (λ j. columns 0 (i + j)) i k _ _ _ _ _ _ h l (λ j. numbers 0 j (omega arith)) (λ j. refl) e.x f.x g.x;
  y = extremes-join (columns 1) (λ j. columns 1 (i + j)) i k _ _ _ _ _ _ h l (λ j. numbers 1 j (omega arith)) (λ j. refl) e.y f.y g.y;
  z = extremes-join (columns 2) (λ j. columns 2 (i + j)) i k _ _ _ _ _ _ h l (λ j. numbers 2 j (omega arith)) (λ j. refl) e.z f.z g.z;
}

pub rows-same : {F : Type 0} (value : F → Float) (columns columns' : ℕ → ℕ → Float) (i n : ℕ) (t : Three F) →
    ((c j : ℕ) → columns c j ≡ columns' c j) → i ≡ n → Rows value columns i t → Rows value columns' n t
rows-same value columns columns' i n t f e rows = record {
  x = extremes-same _ _ _ _ _ _ (f 0) e rows.x;
  y = extremes-same _ _ _ _ _ _ (f 1) e rows.y;
  z = extremes-same _ _ _ _ _ _ (f 2) e rows.z;
}
