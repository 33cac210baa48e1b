-- Every element of a list, or one of them: laws over places, appends, parts, maps and tests.
use Prim.Native.Nat.{ℕ, zero, suc, ◌+◌, ◌≤◌, ◌<◌}
use mathlib.Core.Path.{◌≡◌, refl, sym, ◌∙◌, ap}
use mathlib.Core.Bool.{Bool, true, false, true≢false, ◌||◌}
use mathlib.Core.Logic.{◌⊎◌, inl, inr}
use mathlib.Core.List.{List, [], ◌∷◌, ◌++◌, map}
use native.Mathlib.Numerals.{add-one}
use native.Mathlib.Omega.{arith}
use lib.ListN.{length, get_or, take, drop, drop_of_length-le}
use lib.Seq.{drop-cons}
use Rattle.gsd_format.specs.Refusals.{one_of}
use Rattle.gsd_format.proofs.Refusals.{neither, neither-of, left-holds, right-holds, right-decides}

-- P holds of each element
abbrev pub Each : {A : Type 0} → (A → Type 0) → List A → Type 0
Each P [] = Unit
Each P (x ∷ xs) = P x × Each P xs

-- P holds of one element
abbrev pub Any : {A : Type 0} → (A → Type 0) → List A → Type 0
Any P [] = ⊥
Any P (x ∷ xs) = P x ⊎ Any P xs

module _ {A : Type 0} (P : A → Type 0) where
  -- by place; d stands behind the list's end
  pub each_at : (l : List A) (d : A) → Each P l → (i : ℕ) → i < length l → P (get_or l i d)
  each_at [] d h i l = absurd (omega arith)
  each_at (x ∷ xs) d h zero l = h.0
  each_at (x ∷ xs) d h (suc i) l = each_at xs d h.1 i (omega arith)

  pub at_each : (l : List A) (d : A) → ((i : ℕ) → i < length l → P (get_or l i d)) → Each P l
  at_each [] d h = tt
  at_each (x ∷ xs) d h = (h 0 (omega arith), at_each xs d (λ i l. h (suc i) (omega arith)))

  pub any_at : (l : List A) (d : A) → Any P l → (i : ℕ) × (i < length l) × P (get_or l i d)
  any_at [] d h = absurd h
  any_at (x ∷ xs) d (inl p) = (0, omega arith, p)
  any_at (x ∷ xs) d (inr h) = let r : (i : ℕ) × (i < length xs) × P (get_or xs i d) = any_at xs d h in (suc r.0, omega arith, r.2)

  pub at-any : (l : List A) (d : A) (i : ℕ) → i < length l → P (get_or l i d) → Any P l
  at-any [] d i l p = absurd (omega arith)
  at-any (x ∷ xs) d zero l p = inl p
  at-any (x ∷ xs) d (suc i) l p = inr (at-any xs d i (omega arith) p)

  pub each_append : (a b : List A) → Each P a → Each P b → Each P (a ++ b)
  each_append [] b h g = g
  each_append (x ∷ a) b h g = (h.0, each_append a b h.1 g)

  pub each-front : (a b : List A) → Each P (a ++ b) → Each P a
  each-front [] b h = tt
  each-front (x ∷ a) b h = (h.0, each-front a b h.1)

  pub each_back : (a b : List A) → Each P (a ++ b) → Each P b
  each_back [] b h = h
  each_back (x ∷ a) b h = each_back a b h.1

  pub any-front : (a b : List A) → Any P a → Any P (a ++ b)
  any-front [] b h = absurd h
  any-front (x ∷ a) b (inl p) = inl p
  any-front (x ∷ a) b (inr h) = inr (any-front a b h)

  pub any-back : (a b : List A) → Any P b → Any P (a ++ b)
  any-back [] b h = h
  any-back (x ∷ a) b h = inr (any-back a b h)

  pub each_take : (n : ℕ) (l : List A) → Each P l → Each P (take n l)
  each_take zero l h = tt
  each_take (suc n) [] h = tt
  each_take (suc n) (x ∷ xs) h = (h.0, each_take n xs h.1)

  pub each-drop : (n : ℕ) (l : List A) → Each P l → Each P (drop n l)
  each-drop zero l h = h
  each-drop (suc n) [] h = tt
  each-drop (suc n) (x ∷ xs) h = each-drop n xs h.1

  -- a map's elements
  pub each_map : {B : Type 0} (f : B → A) (l : List B) → Each (λ x. P (f x)) l → Each P (map f l)
  each_map f [] h = tt
  each_map f (x ∷ xs) h = (h.0, each_map f xs h.1)

  pub map_each : {B : Type 0} (f : B → A) (l : List B) → Each P (map f l) → Each (λ x. P (f x)) l
  map_each f [] h = tt
  map_each f (x ∷ xs) h = (h.0, map_each f xs h.1)

  pub any-map : {B : Type 0} (f : B → A) (l : List B) → Any (λ x. P (f x)) l → Any P (map f l)
  any-map f [] h = absurd h
  any-map f (x ∷ xs) (inl p) = inl p
  any-map f (x ∷ xs) (inr h) = inr (any-map f xs h)

module _ {A : Type 0} (P Q : A → Type 0) where
  -- what follows for any element follows for each
  pub each-so : ((x : A) → P x → Q x) → (l : List A) → Each P l → Each Q l
  each-so f [] h = tt
  each-so f (x ∷ xs) h = (f x h.0, each-so f xs h.1)

  pub any-so : ((x : A) → P x → Q x) → (l : List A) → Any P l → Any Q l
  any-so f [] h = absurd h
  any-so f (x ∷ xs) (inl p) = inl (f x p)
  any-so f (x ∷ xs) (inr h) = inr (any-so f xs h)

  -- one of a list all of whose elements are P
  pub any-each : (l : List A) → Each P l → Any Q l → (x : A) × P x × Q x
  any-each [] h g = absurd g
  any-each (x ∷ xs) h (inl q) = (x, h.0, q)
  any-each (x ∷ xs) h (inr g) = any-each xs h.1 g

-- whether a test holds of one
module _ {A : Type 0} (p : A → Bool) where
  pub one-false : (l : List A) → one_of p l ≡ false → Each (λ x. p x ≡ false) l
  unfolding one_of
  one-false [] h = tt
  one-false (x ∷ xs) h = let r = neither (p x) _ h in (r.0, one-false xs r.1)

  pub false-one : (l : List A) → Each (λ x. p x ≡ false) l → one_of p l ≡ false
  unfolding one_of
  false-one [] h = refl
  false-one (x ∷ xs) h = neither-of (p x) _ h.0 (false-one xs h.1)

  pub one-true : (l : List A) → one_of p l ≡ true → Any (λ x. p x ≡ true) l
  unfolding one_of
  one-true [] h = absurd (true≢false (sym h))
  one-true (x ∷ xs) h = go (one-true xs) (p x) refl
    where
      go : (one_of p xs ≡ true → Any (λ y. p y ≡ true) xs) → (b : Bool) → p x ≡ b → Any (λ y. p y ≡ true) (x ∷ xs)
      go f true e = inl e
      go f false e = inr (f (sym (right-decides (p x) _ e) ∙ h))

  pub true-one : (l : List A) → Any (λ x. p x ≡ true) l → one_of p l ≡ true
  unfolding one_of
  true-one [] h = absurd h
  true-one (x ∷ xs) (inl e) = left-holds (p x) _ e
  true-one (x ∷ xs) (inr h) = right-holds (p x) _ (true-one xs h)

  -- from the i-th on: the i-th, or one behind it
  pub one-next : (l : List A) (d : A) (i : ℕ) → i < length l → one_of p (drop i l) ≡ (p (get_or l i d) || one_of p (drop (i + 1) l))
  unfolding one_of
  one-next l d i h = rw (add-one, drop-cons l i d)

  pub one_end : (l : List A) (i : ℕ) → length l ≤ i → one_of p (drop i l) ≡ false
  unfolding one_of
  one_end l i h = rw (drop_of_length-le l h)

-- parts of a list that is mapped
pub map-take : {A B : Type 0} (f : A → B) (n : ℕ) (l : List A) → map f (take n l) ≡ take n (map f l)
map-take f zero l = refl
map-take f (suc n) [] = refl
map-take {B = B} f (suc n) (x ∷ xs) = ap {B = List B} (λ r. f x ∷ r) (map-take f n xs)

pub map-drop : {A B : Type 0} (f : A → B) (n : ℕ) (l : List A) → map f (drop n l) ≡ drop n (map f l)
map-drop f zero l = refl
map-drop f (suc n) [] = refl
map-drop f (suc n) (x ∷ xs) = map-drop f n xs
