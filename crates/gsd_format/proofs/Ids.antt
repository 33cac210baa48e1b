-- A name's id is its place in the list: what it is found by, what a longer list changes, and lists without twins.
use Prim.Native.Nat.{ℕ, zero, suc, ◌+◌, ◌≤◌, ◌<◌}
use mathlib.Core.Path.{◌≡◌, refl, sym, ◌∙◌, ap}
use mathlib.Core.Bool.{Bool, true, false, true≢false}
use mathlib.Core.List.{List, [], ◌∷◌, ◌++◌}
use native.Mathlib.Nat.{zero-add, suc-add}
use native.Mathlib.Decide.{dec_lt}
use native.Mathlib.Omega.{arith}
use lib.ListN.{length, get_or, take, length-append, length-take, get_or-append}
use lib.Seq.{get_or-take}
use lib.Dec.{ltb}
use borrow.Author.Tests.{ltb-false, le-ltb}
use Rattle.gsd_format.specs.Bytes.{same}
use Rattle.gsd_format.specs.Names.{index_of, Has, Lacks, Distinct}
use Rattle.gsd_format.specs.Opening.{twins}
use Rattle.gsd_format.proofs.Lists.{Each, Any, each_at, at_each, any_at, at-any, each-so, any-back}
use Rattle.gsd_format.proofs.Bytes.{same-eq, eq-same, ne_same}
use Rattle.gsd_format.proofs.Refusals.{neither, neither-of}

-- two of the names that are equal
pub record Twin (ns : List (List ℕ)) : Type 0 where
  pub i : ℕ
  pub j : ℕ
  pub before : i < j
  pub inside : j < length ns
  pub equal : get_or ns i [] ≡ get_or ns j []

pub equal? : (s t : List ℕ) → Dec (s ≡ t)
equal? s t = go (same s t) refl
  where
    go : (b : Bool) → same s t ≡ b → Dec (s ≡ t)
    go true e = yes (same-eq s t e)
    go false e = no (λ q. true≢false (sym (eq-same s t q) ∙ e))

-- Finding a name

pub index-here : (b n : List ℕ) (ns : List (List ℕ)) → b ≡ n → index_of b (n ∷ ns) ≡ 0
unfolding index_of
index-here b n ns e = rw (eq-same b n e, index_of)

pub index_on : (b n : List ℕ) (ns : List (List ℕ)) → (b ≡ n → ⊥) → index_of b (n ∷ ns) ≡ suc (index_of b ns)
unfolding index_of
index_on b n ns e = rw (ne_same b n e, index_of)

pub index-none : (b : List ℕ) → index_of b [] ≡ 0
unfolding index_of
index-none b = refl

pub index-bound : (b : List ℕ) (ns : List (List ℕ)) → index_of b ns ≤ length ns
index-bound b [] = omega (arith, index-none b)
index-bound b (n ∷ ns) = go (index-bound b ns) (equal? b n)
  where
    go : index_of b ns ≤ length ns → Dec (b ≡ n) → index_of b (n ∷ ns) ≤ suc (length ns)
    go h (yes e) = omega (arith, index-here b n ns e)
    go h (no e) = omega (arith, index_on b n ns e)

-- what stands at the index is the name
pub index_at : (b : List ℕ) (ns : List (List ℕ)) → Has b ns → get_or ns (index_of b ns) [] ≡ b
index_at b [] h = absurd (omega arith)
index_at b (n ∷ ns) h = go (index_at b ns) (equal? b n) h
  where
    go : (Has b ns → get_or ns (index_of b ns) [] ≡ b) → Dec (b ≡ n) → Has b (n ∷ ns) → get_or (n ∷ ns) (index_of b (n ∷ ns)) [] ≡ b
    go f (yes e) h = rw (index-here b n ns e) (sym e)
    go f (no e) h = rw (index_on b n ns e) (f (omega (arith, index_on b n ns e)))

-- and no name before it is
pub index-least : (b : List ℕ) (ns : List (List ℕ)) (i : ℕ) → i < length ns → get_or ns i [] ≡ b → index_of b ns ≤ i
index-least b [] i l e = absurd (omega arith)
index-least b (n ∷ ns) zero l e = omega (arith, index-here b n ns (sym e))
index-least b (n ∷ ns) (suc i) l e = go (index-least b ns i (omega arith) e) (equal? b n)
  where
    go : index_of b ns ≤ i → Dec (b ≡ n) → index_of b (n ∷ ns) ≤ suc i
    go h (yes e) = omega (arith, index-here b n ns e)
    go h (no e) = omega (arith, index_on b n ns e)

pub index-first : (b : List ℕ) (ns : List (List ℕ)) (i : ℕ) → i < index_of b ns → get_or ns i [] ≡ b → ⊥
index-first b ns i l e = omega (arith, index-bound b ns, index-least b ns i (omega (arith, index-bound b ns)) e)

-- the first place where it stands is its index
pub index_is : (b : List ℕ) (ns : List (List ℕ)) (i : ℕ) → i < length ns → get_or ns i [] ≡ b → ((k : ℕ) → k < i → get_or ns k [] ≡ b → ⊥) → index_of b ns ≡ i
index_is b ns i l e f = go (dec_lt (index_of b ns) i)
  where
    go : Dec (index_of b ns < i) → index_of b ns ≡ i
    go (yes h) = absurd (f (index_of b ns) h (index_at b ns (omega arith)))
    go (no h) = omega (arith, index-least b ns i l e)

-- equal ids are of equal names
pub index-inj : (a b : List ℕ) (ns : List (List ℕ)) → Has a ns → index_of a ns ≡ index_of b ns → a ≡ b
index-inj a b ns h e = sym (index_at a ns h) ∙ ap (λ i. get_or ns i []) e ∙ index_at b ns (omega arith)

-- a name is in the list exactly when an element is equal to it
pub has-at : (b : List ℕ) (ns : List (List ℕ)) (i : ℕ) → i < length ns → get_or ns i [] ≡ b → Has b ns
has-at b ns i l e = omega (arith, index-least b ns i l e)

pub has-any : (b : List ℕ) (ns : List (List ℕ)) → Has b ns → Any (λ n. n ≡ b) ns
has-any b ns h = at-any (λ n. n ≡ b) ns [] (index_of b ns) h (index_at b ns h)

pub any-has : (b : List ℕ) (ns : List (List ℕ)) → Any (λ n. n ≡ b) ns → Has b ns
any-has b ns h = let (i, l, e) = any_at (λ n. n ≡ b) ns [] h in has-at b ns i l e

pub lacks-each : (b : List ℕ) (ns : List (List ℕ)) → Lacks b ns → Each (λ n. n ≡ b → ⊥) ns
lacks-each b ns h = at_each (λ n. n ≡ b → ⊥) ns [] (λ i l. index-first b ns i (omega arith))

pub each-lacks : (b : List ℕ) (ns : List (List ℕ)) → Each (λ n. n ≡ b → ⊥) ns → Lacks b ns
each-lacks b ns h = go (dec_lt (index_of b ns) (length ns))
  where
    go : Dec (Has b ns) → Lacks b ns
    go (yes l) = absurd (each_at (λ n. n ≡ b → ⊥) ns [] h (index_of b ns) l (index_at b ns l))
    go (no l) = omega arith

pub lacks-cons : (b n : List ℕ) (ns : List (List ℕ)) → Lacks b (n ∷ ns) → (b ≡ n → ⊥) × Lacks b ns
lacks-cons b n ns h = let f : b ≡ n → ⊥ = λ e. omega (arith, index-here b n ns e) in (f, omega (arith, index_on b n ns f))

-- Longer lists

-- a name that is listed keeps its id
pub index-append : (b : List ℕ) (ns ms : List (List ℕ)) → Has b ns → index_of b (ns ++ ms) ≡ index_of b ns
index-append b ns ms h =
    index_is b (ns ++ ms) (index_of b ns) (omega (arith, length-append ns ms)) (get_or-append ns ms [] (index_of b ns) h ∙ index_at b ns h)
    (λ k l e. index-first b ns k l (sym (get_or-append ns ms [] k (omega arith)) ∙ e))

-- a name that is not listed is found among the new ones
pub index-behind : (b : List ℕ) (ns ms : List (List ℕ)) → Lacks b ns → index_of b (ns ++ ms) ≡ length ns + index_of b ms
index-behind b [] ms h = sym (zero-add (index_of b ms))
index-behind b (n ∷ ns) ms h =
    let (e, l) = lacks-cons b n ns h in
    index_on b n (ns ++ ms) e ∙ ap suc (index-behind b ns ms l) ∙ sym (suc-add (length ns) (index_of b ms))

-- an id below the old count is that of a name listed before
pub index_back : (b : List ℕ) (ns ms : List (List ℕ)) → index_of b (ns ++ ms) < length ns → index_of b ns ≡ index_of b (ns ++ ms)
index_back b ns ms h = go (dec_lt (index_of b ns) (length ns))
  where
    go : Dec (Has b ns) → index_of b ns ≡ index_of b (ns ++ ms)
    go (yes l) = sym (index-append b ns ms l)
    go (no l) = absurd (omega (arith, index-behind b ns ms (omega arith)))

pub has-front : (b : List ℕ) (ns ms : List (List ℕ)) → Has b ns → Has b (ns ++ ms)
has-front b ns ms h = omega (arith, index-append b ns ms h, length-append ns ms)

pub has-back : (b : List ℕ) (ns ms : List (List ℕ)) → Has b ms → Has b (ns ++ ms)
has-back b ns ms h = any-has b (ns ++ ms) (any-back (λ n. n ≡ b) ns ms (has-any b ms h))

pub lacks-append : (b : List ℕ) (ns ms : List (List ℕ)) → Lacks b ns → Lacks b ms → Lacks b (ns ++ ms)
lacks-append b ns ms h g = omega (arith, index-behind b ns ms h, length-append ns ms)

-- No twins

pub distinct-places : (ns : List (List ℕ)) → Distinct ns → (i j : ℕ) → i < j → j < length ns → get_or ns i [] ≡ get_or ns j [] → ⊥
distinct-places [] h i j l m e = omega arith
distinct-places (n ∷ ns) h i zero l m e = omega arith
distinct-places (n ∷ ns) h zero (suc j) l m e = omega (arith, h.0, has-at n ns j (omega arith) (sym e))
distinct-places (n ∷ ns) h (suc i) (suc j) l m e = distinct-places ns h.1 i j (omega arith) (omega arith) e

pub places-distinct : (ns : List (List ℕ)) → ((i j : ℕ) → i < j → j < length ns → get_or ns i [] ≡ get_or ns j [] → ⊥) → Distinct ns
places-distinct [] f = tt
places-distinct (n ∷ ns) f = (
  each-lacks n ns (at_each (λ m. m ≡ n → ⊥) ns [] (λ j l e. f 0 (suc j) (omega arith) (omega arith) (sym e))),
  places-distinct ns (λ i j l m. f (suc i) (suc j) (omega arith) (omega arith)),
)

-- the i-th name has id i
pub distinct-index : (ns : List (List ℕ)) → Distinct ns → (i : ℕ) → i < length ns → index_of (get_or ns i []) ns ≡ i
distinct-index ns h i l = index_is (get_or ns i []) ns i l refl (λ k m. distinct-places ns h k i m l)

pub distinct_append : (ns fs : List (List ℕ)) → Distinct ns → Distinct fs → Each (λ f. Lacks f ns) fs → Distinct (ns ++ fs)
distinct_append [] fs h g f = g
distinct_append (n ∷ ns) fs h g f = (
  lacks-append n ns fs h.0 (each-lacks n fs (each-so (λ b. Lacks b (n ∷ ns)) (λ b. b ≡ n → ⊥) (λ b l. (lacks-cons b n ns l).0) fs f)),
  distinct_append ns fs h.1 g (each-so (λ b. Lacks b (n ∷ ns)) (λ b. Lacks b ns) (λ b l. (lacks-cons b n ns l).1) fs f),
)

pub distinct-take : (k : ℕ) (ns : List (List ℕ)) → Distinct ns → Distinct (take k ns)
distinct-take k ns h = places-distinct (take k ns) (λ i j l m e.
    let q : (j < k) × (j < length ns) = omega (arith, length-take k ns) in
    distinct-places ns h i j l q.1 (sym (get_or-take k ns i [] (omega arith)) ∙ e ∙ get_or-take k ns j [] q.0))

pub twins-distinct : (ns : List (List ℕ)) → twins ns ≡ false → Distinct ns
unfolding twins
twins-distinct [] h = tt
twins-distinct (n ∷ ns) h = let (a, b) = neither (ltb (index_of n ns) (length ns)) (twins ns) h in (ltb-false (index_of n ns) (length ns) a, twins-distinct ns b)

pub distinct-twins : (ns : List (List ℕ)) → Distinct ns → twins ns ≡ false
unfolding twins
distinct-twins [] h = refl
distinct-twins (n ∷ ns) h = neither-of (ltb (index_of n ns) (length ns)) (twins ns) (le-ltb (index_of n ns) (length ns) h.0) (distinct-twins ns h.1)

pub twins-twin : (ns : List (List ℕ)) → twins ns ≡ true → Twin ns
unfolding twins
twins-twin [] h = absurd (true≢false (sym h))
twins-twin (n ∷ ns) h = go (twins-twin ns) (dec_lt (index_of n ns) (length ns)) h
  where
    go : (twins ns ≡ true → Twin ns) → Dec (Has n ns) → twins (n ∷ ns) ≡ true → Twin (n ∷ ns)
    go f (yes l) h = record { i = 0; j = suc (index_of n ns); before = omega arith; inside = omega arith; equal = sym (index_at n ns l) }
    go f (no l) h =
        let t : Twin ns = f (rw (le-ltb (index_of n ns) (length ns) (omega arith), twins) at h) in
        record { i = suc t.i; j = suc t.j; before = omega arith; inside = omega arith; equal = t.equal }

pub twin-twins : (ns : List (List ℕ)) → Twin ns → twins ns ≡ true
twin-twins ns t = go (twins ns) refl
  where
    go : (b : Bool) → twins ns ≡ b → twins ns ≡ true
    go true e = e
    go false e = absurd (distinct-places ns (twins-distinct ns e) t.i t.j t.before t.inside t.equal)
