-- Laws of entries sorted by id: what holds of the entries holds of the sorted ones, ids rise, and there is one such order.
use Prim.Native.Nat.{ℕ, suc, ◌+◌, ◌*◌, ◌≤◌, ◌<◌}
use mathlib.Core.Path.{◌≡◌, refl, sym, ◌∙◌, ap}
use mathlib.Core.Logic.{◌⊎◌, inl, inr}
use mathlib.Core.List.{List, [], ◌∷◌}
use native.Mathlib.Decide.{dec_le}
use native.Mathlib.Omega.{arith}
use lib.ListN.{length}
use borrow.Author.Tests.{le-leb, lt-leb}
use Rattle.gsd_format.specs.declared.Entry.{Entry}
use Rattle.gsd_format.specs.Entries.{key}
use Rattle.gsd_format.proofs.Lists.{Each, Any, each-so, any-each}
use Rattle.gsd_format.proofs.Entries.{Ordered, ordered-weaker}
use Rattle.gsd_stores.specs.Plan.{inserted, sorted}

-- ys is xs with e put in before the first entry whose id is not below its own
pub data Put (e : Entry) : List Entry → List Entry → Type 0 where
  last : Put e [] (e ∷ [])
  here : {x : Entry} {xs : List Entry} → e.id ≤ x.id → Put e (x ∷ xs) (e ∷ x ∷ xs)
  on : {x : Entry} {xs ys : List Entry} → x.id < e.id → Put e xs ys → Put e (x ∷ xs) (x ∷ ys)

pub put : (e : Entry) (xs : List Entry) → Put e xs (inserted e xs)
unfolding inserted
put e [] = last
put e (x ∷ xs) = go (put e xs) (dec_le e.id x.id)
  where
    go : Put e xs (inserted e xs) → Dec (e.id ≤ x.id) → Put e (x ∷ xs) (inserted e (x ∷ xs))
    go f (yes l) = rw (le-leb e.id x.id l, inserted) (here l)
    go f (no l) = let m : x.id < e.id = omega arith in rw (lt-leb e.id x.id m, inserted) (on m f)

module _ {e : Entry} where
  put-length : {xs ys : List Entry} → Put e xs ys → length ys ≡ suc (length xs)
  put-length last = refl
  put-length (here l) = refl
  put-length (on l f) = ap suc (put-length f)

  put-each : (P : Entry → Type 0) {xs ys : List Entry} → Put e xs ys → P e → Each P xs → Each P ys
  put-each P last p h = (p, tt)
  put-each P (here l) p h = (p, h)
  put-each P (on l f) p h = (h.0, put-each P f p h.1)

  each-put : (P : Entry → Type 0) {xs ys : List Entry} → Put e xs ys → Each P ys → P e × Each P xs
  each-put P last h = h
  each-put P (here l) h = h
  each-put P (on l f) h = let r = each-put P f h.1 in (r.0, (h.0, r.1))

  put-any : (P : Entry → Type 0) {xs ys : List Entry} → Put e xs ys → P e ⊎ Any P xs → Any P ys
  put-any P last h = h
  put-any P (here l) h = h
  put-any P (on l f) (inl p) = inr (put-any P f (inl p))
  put-any P (on l f) (inr (inl p)) = inl p
  put-any P (on l f) (inr (inr h)) = inr (put-any P f (inr h))

pub sorted-length : (es : List Entry) → length (sorted es) ≡ length es
unfolding sorted
sorted-length [] = refl
sorted-length (e ∷ es) = put-length (put e (sorted es)) ∙ ap suc (sorted-length es)

-- what holds of each entry holds of each of the sorted ones, and the other way round; what holds of one holds of one of them
module _ (P : Entry → Type 0) where
  pub sorted-each : (es : List Entry) → Each P es → Each P (sorted es)
  unfolding sorted
  sorted-each [] h = tt
  sorted-each (e ∷ es) h = put-each P (put e (sorted es)) h.0 (sorted-each es h.1)

  pub each-sorted : (es : List Entry) → Each P (sorted es) → Each P es
  unfolding sorted
  each-sorted [] h = tt
  each-sorted (e ∷ es) h = let r = each-put P (put e (sorted es)) h in (r.0, each-sorted es r.1)

  pub sorted-any : (es : List Entry) → Any P es → Any P (sorted es)
  unfolding sorted
  sorted-any [] h = h
  sorted-any (e ∷ es) (inl p) = put-any P (put e (sorted es)) (inl p)
  sorted-any (e ∷ es) (inr h) = put-any P (put e (sorted es)) (inr (sorted-any es h))

-- Rising ids

-- ids rise strictly, from least on
abbrev pub Rising : ℕ → List Entry → Type 0
Rising least [] = Unit
Rising least (e ∷ es) = (least ≤ e.id) × Rising (e.id + 1) es

-- no two entries have the same id
abbrev pub Differing : List Entry → Type 0
Differing [] = Unit
Differing (e ∷ es) = Each (λ x. e.id ≡ x.id → ⊥) es × Differing es

put-rising : {e : Entry} {xs ys : List Entry} (least : ℕ) → Put e xs ys → least ≤ e.id → Each (λ x. e.id ≡ x.id → ⊥) xs → Rising least xs → Rising least ys
put-rising least last l d h = (l, tt)
put-rising least (here {x} m) l d h = let n : (_ ≡ x.id → ⊥) = d.0 in (l, (omega arith, h.1))
put-rising least (on {x} m f) l d h = (h.0, put-rising (x.id + 1) f (omega arith) d.1 h.1)

pub sorted-rising : (es : List Entry) → Differing es → Rising 0 (sorted es)
unfolding sorted
sorted-rising [] h = tt
sorted-rising (e ∷ es) h = put-rising 0 (put e (sorted es)) (omega arith) (sorted-each (λ x. e.id ≡ x.id → ⊥) es h.0) (sorted-rising es h.1)

pub rising-least : (es : List Entry) (least : ℕ) → Rising least es → Each (λ e. least ≤ e.id) es
rising-least [] least h = tt
rising-least (e ∷ es) least h = (h.0, each-so _ _ (λ x l. omega arith) es (rising-least es (e.id + 1) h.1))

-- One order

-- each of xs is one of ys
abbrev Within : List Entry → List Entry → Type 0
Within ys xs = Each (λ x. Any (λ y. y ≡ x) ys) xs

within-tail : (y : Entry) (ys xs : List Entry) (least : ℕ) → y.id < least → Each (λ x. least ≤ x.id) xs → Within (y ∷ ys) xs → Within ys xs
within-tail y ys [] least l f h = tt
within-tail y ys (x ∷ xs) least l f h = (go h.0, within-tail y ys xs least l f.1 h.1)
  where
    go : Any (λ b. b ≡ x) (y ∷ ys) → Any (λ b. b ≡ x) ys
    go (inl e) = absurd (omega (arith, ap (λ b. b.id) e, f.0))
    go (inr a) = a

rising-heads : (x y : Entry) (xs ys : List Entry) → Rising (x.id + 1) xs → Rising (y.id + 1) ys → Any (λ b. b ≡ x) (y ∷ ys) → Any (λ b. b ≡ y) (x ∷ xs) → x ≡ y
rising-heads x y xs ys f g (inl e) k = sym e
rising-heads x y xs ys f g (inr h) (inl e) = e
rising-heads x y xs ys f g (inr h) (inr k) =
    let (a, l, e) = any-each (λ b. y.id + 1 ≤ b.id) (λ b. b ≡ x) ys (rising-least ys (y.id + 1) g) h in
    let (c, m, q) = any-each (λ b. x.id + 1 ≤ b.id) (λ b. b ≡ y) xs (rising-least xs (x.id + 1) f) k in
    absurd (omega (arith, ap (λ b. b.id) e, ap (λ b. b.id) q))

rising-same : (xs ys : List Entry) (least : ℕ) → Rising least xs → Rising least ys → Within ys xs → Within xs ys → xs ≡ ys
rising-same [] [] least f g h k = refl
rising-same [] (y ∷ ys) least f g h k = absurd k.0
rising-same (x ∷ xs) [] least f g h k = absurd h.0
rising-same (x ∷ xs) (y ∷ ys) least f g h k =
    let e : x ≡ y = rising-heads x y xs ys f.1 g.1 h.0 k.0 in
    let q : y.id ≡ x.id = ap (λ b. b.id) (sym e) in
    let r : Rising (x.id + 1) ys = rw q at g.1 in
    let a : Within ys xs = within-tail y ys xs (x.id + 1) (omega arith) (rising-least xs (x.id + 1) f.1) h.1 in
    let b : Within xs ys = within-tail x xs ys (x.id + 1) (omega arith) (rising-least ys (x.id + 1) r) k.1 in
    let s : xs ≡ ys = rising-same xs ys (x.id + 1) f.1 r a b in
    λ i. e i ∷ s i

-- a list of the same entries by rising ids is the sorted one
pub sorted-is : (es ys : List Entry) → Differing es → Rising 0 ys → Each (λ e. Any (λ y. y ≡ e) ys) es → Each (λ y. Any (λ e. e ≡ y) es) ys → sorted es ≡ ys
sorted-is es ys d r h k =
    rising-same (sorted es) ys 0 (sorted-rising es d) r (sorted-each _ es h) (each-so _ _ (λ y a. sorted-any (λ e. e ≡ y) es a) ys k)

-- entries of one frame, by rising ids, are in the order of keys
pub rising-ordered : (es : List Entry) (frame least : ℕ) → Each (λ e. e.frame ≡ frame) es → Rising least es → Ordered (65536 * frame + least) es
rising-ordered [] frame least f h = tt
rising-ordered (e ∷ es) frame least f h =
    let g : e.frame ≡ frame = f.0 in (
      omega (arith, h.0),
      ordered-weaker es (65536 * frame + (e.id + 1)) (key e + 1) (omega arith) (rising-ordered es frame (e.id + 1) f.1 h.1),
    )
