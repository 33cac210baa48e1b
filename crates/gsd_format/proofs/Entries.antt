-- Laws of the entry list: which slots it lists, what it depends on, how many frames it has, and its order.
use Prim.Native.Nat.{ℕ, zero, suc, ◌+◌, ◌*◌, ◌-◌, ◌^◌, ◌≤◌, ◌<◌}
use mathlib.Core.Path.{◌≡◌, refl, sym, ◌∙◌, ap}
use mathlib.Core.List.{List, [], ◌∷◌, ◌++◌}
use native.Mathlib.Nat.{zero-add, suc-add}
use native.Mathlib.Decide.{ℕ_discrete, dec_lt}
use native.Mathlib.Omega.{arith}
use lib.ListN.{length, get_or, length-append}
use lib.Seq.{ext_get_or}
use lib.Dec.{ltb}
use borrow.Author.Tests.{ne_eqb}
use Rattle.gsd_format.specs.declared.Entry.{Entry}
use Rattle.gsd_format.specs.Bytes.{le}
use Rattle.gsd_format.specs.Header.{layout_of}
use Rattle.gsd_format.specs.Entries.{entry_at, entries_at, slots_at, entries_of, key_of, key, frames_from}
use Rattle.gsd_format.specs.Lookup.{none}
use Rattle.gsd_format.proofs.Refusals.{same_test}
use Rattle.gsd_format.proofs.Bytes.{Same, Octets, same_from, le_same, le-bound}

-- One entry

pub entry-location : (x : List ℕ) (at : ℕ) → (entry_at x at).location ≡ le 8 x (at + 16)
unfolding entry_at
entry-location x at = refl

-- an entry depends on its 32 bytes alone
pub entry-same : (x : List ℕ) (a : ℕ) (y : List ℕ) (b : ℕ) → Same x a y b 32 → entry_at x a ≡ entry_at y b
unfolding entry_at
entry-same x a y b h =
    let frame : le 8 x a ≡ le 8 y b = le_same 8 x a y b (λ k l. h k (omega arith)) in
    let n : le 8 x (a + 8) ≡ le 8 y (b + 8) = le_same 8 x (a + 8) y (b + 8) (λ k l. same_from x a y b 8 24 h k (omega arith)) in
    let location : le 8 x (a + 16) ≡ le 8 y (b + 16) = le_same 8 x (a + 16) y (b + 16) (λ k l. same_from x a y b 16 16 h k (omega arith)) in
    let m : le 4 x (a + 24) ≡ le 4 y (b + 24) = le_same 4 x (a + 24) y (b + 24) (λ k l. same_from x a y b 24 8 h k (omega arith)) in
    let id : le 2 x (a + 28) ≡ le 2 y (b + 28) = le_same 2 x (a + 28) y (b + 28) (λ k l. same_from x a y b 28 4 h k (omega arith)) in
    λ i. record { frame = frame i; n = n i; location = location i; m = m i; id = id i; kind = h 30 (omega arith) i; flags = h 31 (omega arith) i }

-- each number of an entry fits its bytes
pub record Fits (e : Entry) : Type 0 where
  pub frame : e.frame < 2 ^ 64
  pub n : e.n < 2 ^ 64
  pub location : e.location < 2 ^ 64
  pub m : e.m < 2 ^ 32
  pub id : e.id < 2 ^ 16
  pub kind : e.kind < 256
  pub flags : e.flags < 256

pub entry-fits : (x : List ℕ) (at : ℕ) → Octets x → Fits (entry_at x at)
unfolding entry_at
entry-fits x at h = record {
  frame = le-bound 8 x at h;
  n = le-bound 8 x (at + 8) h;
  location = le-bound 8 x (at + 16) h;
  m = le-bound 4 x (at + 24) h;
  id = le-bound 2 x (at + 28) h;
  kind = h (at + 30);
  flags = h (at + 31);
}

-- The list's equations

pub entries_none : (x : List ℕ) (at : ℕ) → entries_at x at 0 ≡ []
unfolding entries_at
entries_none x at = refl

pub entries-end : (x : List ℕ) (at n : ℕ) → le 8 x (at + 16) ≡ 0 → entries_at x at n ≡ []
unfolding entries_at
entries-end x at zero e = refl
entries-end x at (suc n) e = rw (e, entries_at)

pub entries-more : (x : List ℕ) (at n : ℕ) → (le 8 x (at + 16) ≡ 0 → ⊥) → entries_at x at (suc n) ≡ entry_at x at ∷ entries_at x (at + 32) n
unfolding entries_at
entries-more x at n e = rw (ne_eqb (le 8 x (at + 16)) 0 e, entries_at)

-- The list by its places

-- es are the listed entries among the n slots from at
pub record IsEntries (x : List ℕ) (at n : ℕ) (es : List Entry) : Type 0 where
  pub few : length es ≤ n
  pub each : (i : ℕ) → i < length es → entry_at x (at + 32 * i) ≡ get_or es i none
  pub real : (i : ℕ) → i < length es → (get_or es i none).location ≡ 0 → ⊥
  pub closed : length es < n → le 8 x (at + 32 * length es + 16) ≡ 0

-- no entry is listed where there is no slot, or the first has location 0
pub is_none : (x : List ℕ) (at n : ℕ) → (0 < n → le 8 x (at + 16) ≡ 0) → IsEntries x at n []
is_none x at n h = record {
  few = omega arith;
  each = λ i l. absurd (omega arith);
  real = λ i l. absurd (omega arith);
  closed = λ l. ap (le 8 x) (let q : at + 32 * 0 + 16 ≡ at + 16 = omega arith in q) ∙ h l;
}

-- an entry is listed before those of the slots behind it
is-more : (x : List ℕ) (at n : ℕ) (es : List Entry) → (le 8 x (at + 16) ≡ 0 → ⊥) → IsEntries x (at + 32) n es → IsEntries x at (suc n) (entry_at x at ∷ es)
is-more x at n es e h = record {
  few = omega arith;
  each = each;
  real = real;
  closed = λ l. ap (le 8 x) (let q : at + 32 * suc (length es) + 16 ≡ at + 32 + 32 * length es + 16 = omega arith in q) ∙ h.closed (omega arith);
}
  where
    each : (i : ℕ) → i < suc (length es) → entry_at x (at + 32 * i) ≡ get_or (entry_at x at ∷ es) i none
    each zero l = ap (entry_at x) (let q : at + 32 * 0 ≡ at = omega arith in q)
    each (suc i) l = ap (entry_at x) (let q : at + 32 * suc i ≡ at + 32 + 32 * i = omega arith in q) ∙ h.each i (omega arith)

    real : (i : ℕ) → i < suc (length es) → (get_or (entry_at x at ∷ es) i none).location ≡ 0 → ⊥
    real zero l z = e (sym (entry-location x at) ∙ z)
    real (suc i) l z = h.real i (omega arith) z

is-tail : (x : List ℕ) (at n : ℕ) (e : Entry) (es : List Entry) → IsEntries x at (suc n) (e ∷ es) → IsEntries x (at + 32) n es
is-tail x at n e es h = record {
  few = omega (arith, h.few);
  each = λ i l. ap (entry_at x) (let q : at + 32 + 32 * i ≡ at + 32 * suc i = omega arith in q) ∙ h.each (suc i) (omega arith);
  real = λ i l. h.real (suc i) (omega arith);
  closed = λ l. ap (le 8 x) (let q : at + 32 + 32 * length es + 16 ≡ at + 32 * suc (length es) + 16 = omega arith in q) ∙ h.closed (omega arith);
}

is-head : (x : List ℕ) (at n : ℕ) (e : Entry) (es : List Entry) → IsEntries x at n (e ∷ es) → entry_at x at ≡ e
is-head x at n e es h = ap (entry_at x) (let q : at ≡ at + 32 * 0 = omega arith in q) ∙ h.each 0 (omega arith)

-- the listed entries are what these facts say, and nothing else is
pub entries-is : (n : ℕ) (x : List ℕ) (at : ℕ) → IsEntries x at n (entries_at x at n)
entries-is zero x at = rw entries_none (is_none x at 0 (λ l. absurd (omega arith)))
entries-is (suc n) x at = go (entries-is n x (at + 32)) (ℕ_discrete (le 8 x (at + 16)) 0)
  where
    go : IsEntries x (at + 32) n (entries_at x (at + 32) n) → Dec (le 8 x (at + 16) ≡ 0) → IsEntries x at (suc n) (entries_at x at (suc n))
    go h (yes e) = rw (entries-end x at (suc n) e) (is_none x at (suc n) (λ l. e))
    go h (no e) = rw (entries-more x at n e) (is-more x at n (entries_at x (at + 32) n) e h)

pub is-entries : (n : ℕ) (x : List ℕ) (at : ℕ) (es : List Entry) → IsEntries x at n es → entries_at x at n ≡ es
is-entries zero x at [] h = entries_none x at
is-entries zero x at (e ∷ es) h = absurd (omega (arith, h.few))
is-entries (suc n) x at [] h = entries-end x at (suc n) (ap (le 8 x) (let q : at + 16 ≡ at + 32 * 0 + 16 = omega arith in q) ∙ h.closed (omega arith))
is-entries (suc n) x at (e ∷ es) h =
    let head : entry_at x at ≡ e = is-head x at (suc n) e es h in
    let tail : entries_at x (at + 32) n ≡ es = is-entries n x (at + 32) es (is-tail x at n e es h) in
    entries-more x at n (λ z. h.real 0 (omega arith) (sym (ap (λ c. c.location) head) ∙ entry-location x at ∙ z)) ∙ (λ i. head i ∷ tail i)

-- slot by slot: the list goes on behind i entries exactly when there is a slot more and its location is not 0
pub entries-stop : (x : List ℕ) (at n : ℕ) (es : List Entry) → IsEntries x at n es → (i : ℕ) → i ≤ length es →
    (i < n → le 8 x (at + 32 * i + 16) ≡ 0) → length es ≡ i
entries-stop x at n es h i l z = go (dec_lt i (length es))
  where
    go : Dec (i < length es) → length es ≡ i
    go (yes u) = absurd (h.real i u (sym (ap (λ c. c.location) (h.each i u)) ∙ entry-location x (at + 32 * i) ∙ z (omega (arith, h.few))))
    go (no u) = omega arith

pub entries-go : (x : List ℕ) (at n : ℕ) (es : List Entry) → IsEntries x at n es → (i : ℕ) → i ≤ length es → i < n →
    (le 8 x (at + 32 * i + 16) ≡ 0 → ⊥) → i < length es
entries-go x at n es h i l u z = go (dec_lt i (length es))
  where
    go : Dec (i < length es) → i < length es
    go (yes v) = v
    go (no v) = let e : i ≡ length es = omega arith in absurd (z (ap (λ j. le 8 x (at + 32 * j + 16)) e ∙ h.closed (omega arith)))

-- the listed entries alone: the same bytes, in this image or another, list them again
pub entries-kept : (x : List ℕ) (a n : ℕ) (es : List Entry) (y : List ℕ) (b m : ℕ) → IsEntries x a n es →
    Same y b x a (32 * length es) → length es ≤ m → (length es < m → le 8 y (b + 32 * length es + 16) ≡ 0) → IsEntries y b m es
entries-kept x a n es y b m h s f c = record {
  few = f;
  each = λ i l. entry-same y (b + 32 * i) x (a + 32 * i) (λ k u. same_from y b x a (32 * i) 32 (λ j v. s j (omega arith)) k u) ∙ h.each i l;
  real = h.real;
  closed = c;
}

-- all slots with the same bytes list the same entries
pub entries-same : (x : List ℕ) (a : ℕ) (y : List ℕ) (b n : ℕ) → Same x a y b (32 * n) → entries_at x a n ≡ entries_at y b n
entries-same x a y b n s = is-entries n x a (entries_at y b n) (kept (entries_at y b n) (entries-is n y b))
  where
    kept : (es : List Entry) → IsEntries y b n es → IsEntries x a n es
    kept es h = entries-kept y b n es x a n h (λ k l. s k (omega (arith, h.few))) h.few (λ l.
        le_same 8 x (a + 32 * length es + 16) y (b + 32 * length es + 16)
        (same_from x (a + 32 * length es) y (b + 32 * length es) 16 8 (same_from x a y b (32 * length es) 24 (λ j u. s j (omega arith)))) ∙ h.closed l)

-- a place of es ++ more is one of es or one of more
pub each_append : (P : ℕ → Entry → Type 0) (es more : List Entry) → ((i : ℕ) → i < length es → P i (get_or es i none)) →
    ((i : ℕ) → i < length more → P (length es + i) (get_or more i none)) → (i : ℕ) → i < length (es ++ more) → P i (get_or (es ++ more) i none)
each_append P [] more f g i l = rw zero-add at (g i l)
each_append P (e ∷ es) more f g zero l = f 0 (omega arith)
each_append P (e ∷ es) more f g (suc i) l = each_append (λ j. P (suc j)) es more (λ j u. f (suc j) (omega arith)) (λ j u. rw suc-add at (g j u)) i (omega arith)

-- more entries behind the listed ones: of those no more is asked than that they are there, their end is gone
pub entries-grown : (x : List ℕ) (a n : ℕ) (es new : List Entry) →
    ((i : ℕ) → i < length es → entry_at x (a + 32 * i) ≡ get_or es i none) → ((i : ℕ) → i < length es → (get_or es i none).location ≡ 0 → ⊥) →
    length es + length new ≤ n →
    ((i : ℕ) → i < length new → entry_at x (a + 32 * length es + 32 * i) ≡ get_or new i none) → ((i : ℕ) → i < length new → (get_or new i none).location ≡ 0 → ⊥) →
    (length es + length new < n → le 8 x (a + 32 * length es + 32 * length new + 16) ≡ 0) → IsEntries x a n (es ++ new)
entries-grown x a n es new each real f new_each new_real c = record {
  few = rw length-append f;
  each = each_append (λ i e. entry_at x (a + 32 * i) ≡ e) es new each (λ i l. ap (entry_at x) (behind i) ∙ new_each i l);
  real = each_append (λ i e. e.location ≡ 0 → ⊥) es new real new_real;
  closed = rw length-append (λ l. ap (λ p. le 8 x (p + 16)) (behind (length new)) ∙ c l);
}
  where
    behind : (i : ℕ) → a + 32 * (length es + i) ≡ a + 32 * length es + 32 * i
    behind i = omega arith

-- in an image of bytes the listed entries fit
pub entries_fit : (x : List ℕ) (at n : ℕ) → Octets x → (i : ℕ) → i < length (entries_at x at n) → Fits (get_or (entries_at x at n) i none)
entries_fit x at n h i l = rw (← (entries-is n x at).each i l) (entry-fits x (at + 32 * i) h)

-- slots, whatever they hold
pub slots_length : (n : ℕ) (x : List ℕ) (at : ℕ) → length (slots_at x at n) ≡ n
unfolding slots_at
slots_length zero x at = refl
slots_length (suc n) x at = ap suc (slots_length n x (at + 32))

pub slots-each : (n : ℕ) (x : List ℕ) (at i : ℕ) → i < n → get_or (slots_at x at n) i none ≡ entry_at x (at + 32 * i)
unfolding slots_at
slots-each zero x at i l = absurd (omega arith)
slots-each (suc n) x at zero l = ap (entry_at x) (let q : at ≡ at + 32 * 0 = omega arith in q)
slots-each (suc n) x at (suc i) l =
    slots-each n x (at + 32) i (omega arith) ∙ ap (entry_at x) (let q : at + 32 + 32 * i ≡ at + 32 * suc i = omega arith in q)

-- those of the listed entries hold these
pub slots-listed : (x : List ℕ) (at n : ℕ) (es : List Entry) → IsEntries x at n es → slots_at x at (length es) ≡ es
slots-listed x at n es h =
    ext_get_or none (slots_at x at (length es)) es (slots_length (length es) x at) (λ i l.
    let u : i < length es = omega (arith, slots_length (length es) x at) in
    slots-each (length es) x at i u ∙ h.each i u)

-- the list of an image
pub image-entries : (x : List ℕ) → IsEntries x (layout_of x).index (layout_of x).slots (entries_of x)
unfolding entries_of
image-entries x = entries-is (layout_of x).slots x (layout_of x).index

pub image-slots : (x : List ℕ) → slots_at x (layout_of x).index (length (entries_of x)) ≡ entries_of x
image-slots x = slots-listed x (layout_of x).index (layout_of x).slots (entries_of x) (image-entries x)

pub entries-image : (x : List ℕ) (es : List Entry) → IsEntries x (layout_of x).index (layout_of x).slots es → entries_of x ≡ es
unfolding entries_of
entries-image x es h = is-entries (layout_of x).slots x (layout_of x).index es h

pub image-fits : (x : List ℕ) → Octets x → (i : ℕ) → i < length (entries_of x) → Fits (get_or (entries_of x) i none)
unfolding entries_of
image-fits x = entries_fit x (layout_of x).index (layout_of x).slots

-- The number of frames

pub frames-none : (top : ℕ) → frames_from top [] ≡ top
unfolding frames_from
frames-none top = refl

pub frames-more : (top : ℕ) (e : Entry) (es : List Entry) → frames_from top (e ∷ es) ≡ frames_from (e.frame + 1) es
unfolding frames_from
frames-more top e es = refl

pub frames-append : (top : ℕ) (es more : List Entry) → frames_from top (es ++ more) ≡ frames_from (frames_from top es) more
unfolding frames_from
frames-append top [] more = refl
frames-append top (e ∷ es) more = frames-append (e.frame + 1) es more

-- the last entry's frame plus 1
pub frames-last : (top : ℕ) (es : List Entry) (i : ℕ) → length es ≡ suc i → frames_from top es ≡ (get_or es i none).frame + 1
unfolding frames_from
frames-last top [] i h = absurd (omega arith)
frames-last top (e ∷ []) zero h = refl
frames-last top (e ∷ []) (suc i) h = absurd (omega arith)
frames-last top (e ∷ c ∷ es) zero h = absurd (omega arith)
frames-last top (e ∷ c ∷ es) (suc i) h = frames-last (e.frame + 1) (c ∷ es) i (omega arith)

-- where no entry's frame is above most
pub frames-most : (es : List Entry) (top most : ℕ) → top ≤ most + 1 → ((i : ℕ) → i < length es → (get_or es i none).frame ≤ most) → frames_from top es ≤ most + 1
unfolding frames_from
frames-most [] top most l h = l
frames-most (e ∷ es) top most l h = frames-most es (e.frame + 1) most (omega (arith, h 0 (omega arith))) (λ i u. h (suc i) (omega arith))

-- with entries behind it the old number of frames does not matter
pub frames-grown : (top bottom : ℕ) (es more : List Entry) → 0 < length more → frames_from top (es ++ more) ≡ frames_from bottom more
unfolding frames_from
frames-grown top bottom es [] h = absurd (omega arith)
frames-grown top bottom es (e ∷ more) h = frames-append top es (e ∷ more)

-- Order

-- keys go by the frame first, and in one frame by the id
module _ (frame id frame' id' : ℕ) where
  pub lower-frame : (frame ≡ frame' → ⊥) → id < 65536 → id' < 65536 → ltb frame frame' ≡ ltb (key_of frame id) (key_of frame' id')
  lower-frame n l l' = same_test frame frame' (key_of frame id) (key_of frame' id') (λ h. omega arith) (λ h. omega arith)

  pub lower-id : frame ≡ frame' → ltb id id' ≡ ltb (key_of frame id) (key_of frame' id')
  lower-id e = same_test id id' (key_of frame id) (key_of frame' id') (λ h. omega arith) (λ h. omega arith)

-- what the order's test says from entry to entry: keys rise, from at least `least`
abbrev pub Ordered : ℕ → List Entry → Type 0
Ordered least [] = Unit
Ordered least (e ∷ es) = (least ≤ key e) × Ordered (key e + 1) es

-- ids of 16 bits: then keys are ordered by frame first
abbrev pub ShortIds : List Entry → Type 0
ShortIds es = (i : ℕ) → i < length es → (get_or es i none).id < 65536

pub ordered-least : (es : List Entry) (least : ℕ) → Ordered least es → (i : ℕ) → i < length es → least ≤ key (get_or es i none)
ordered-least [] least h i l = absurd (omega arith)
ordered-least (e ∷ es) least h zero l = h.0
ordered-least (e ∷ es) least h (suc i) l = omega (arith, h.0, ordered-least es (key e + 1) h.1 i (omega arith))

pub keys-rise : (es : List Entry) (least : ℕ) → Ordered least es → (i j : ℕ) → i < j → j < length es → key (get_or es i none) < key (get_or es j none)
keys-rise [] least h i j l u = absurd (omega arith)
keys-rise (e ∷ es) least h i zero l u = absurd (omega arith)
keys-rise (e ∷ es) least h zero (suc j) l u = omega (arith, ordered-least es (key e + 1) h.1 j (omega arith))
keys-rise (e ∷ es) least h (suc i) (suc j) l u = keys-rise es (key e + 1) h.1 i j (omega arith) (omega arith)

-- a frame and an id stand at one place at most
pub one_place : (es : List Entry) (least : ℕ) → Ordered least es → (i j : ℕ) → i < length es → j < length es →
    (get_or es i none).frame ≡ (get_or es j none).frame → (get_or es i none).id ≡ (get_or es j none).id → i ≡ j
one_place es least h i j l u f d = go (dec_lt i j) (dec_lt j i)
  where
    go : Dec (i < j) → Dec (j < i) → i ≡ j
    go (yes a) b = absurd (omega (arith, keys-rise es least h i j a u))
    go (no a) (yes b) = absurd (omega (arith, keys-rise es least h j i b l))
    go (no a) (no b) = omega arith

-- frames never decrease
pub frames-rise : (es : List Entry) (least : ℕ) → Ordered least es → ShortIds es → (i j : ℕ) → i ≤ j → j < length es →
    (get_or es i none).frame ≤ (get_or es j none).frame
frames-rise es least h s i j l u = go (dec_lt i j)
  where
    go : Dec (i < j) → (get_or es i none).frame ≤ (get_or es j none).frame
    go (yes a) = omega (arith, keys-rise es least h i j a u, s j u)
    go (no a) = let e : i ≡ j = omega arith in rw e (omega arith)

-- every frame is below the number of frames
pub frames-below : (es : List Entry) (least top : ℕ) → Ordered least es → ShortIds es → (i : ℕ) → i < length es → (get_or es i none).frame < frames_from top es
frames-below es least top h s i l =
    omega (arith, frames-rise es least h s i (length es - 1) (omega arith) (omega arith), frames-last top es (length es - 1) (omega arith))

pub ordered-weaker : (es : List Entry) (least low : ℕ) → low ≤ least → Ordered least es → Ordered low es
ordered-weaker [] least low l h = tt
ordered-weaker (e ∷ es) least low l h = (omega (arith, h.0), h.1)

-- a list behind another, where the frames of the first end
pub ordered-append : (es more : List Entry) (least top : ℕ) → Ordered least es → ShortIds es → least ≤ 65536 * top →
    Ordered (65536 * frames_from top es) more → Ordered least (es ++ more)
unfolding frames_from
ordered-append [] more least top h s d g = ordered-weaker more (65536 * top) least d g
ordered-append (e ∷ es) more least top h s d g =
    (h.0, ordered-append es more (key e + 1) (e.frame + 1) h.1 (λ i l. s (suc i) (omega arith)) (omega (arith, s 0 (omega arith))) g)

pub ordered-front : (es more : List Entry) (least : ℕ) → Ordered least (es ++ more) → Ordered least es
ordered-front [] more least h = tt
ordered-front (e ∷ es) more least h = (h.0, ordered-front es more (key e + 1) h.1)
