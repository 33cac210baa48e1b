-- Laws of the search: how many entries its halving and its walk probe and which, where they end, and that in a list as 15
-- leaves it the search finds what the list has.
use Rattle.std.specs.Prelude.{Ok, Err}
use Prim.Native.Nat.{ℕ, zero, suc, ◌+◌, ◌*◌, ◌-◌, ◌/◌, ◌^◌, ◌≤◌, ◌<◌}
use mathlib.Core.Path.{◌≡◌, refl, sym, ◌∙◌, ap}
use mathlib.Core.Logic.{inl, inr}
use mathlib.Core.Bool.{Bool, true, false}
use mathlib.Core.List.{List, [], ◌∷◌, ◌++◌}
use native.Mathlib.Nat.{add-zero, suc-add, pow-succ'}
use native.Mathlib.Decide.{ℕ_discrete, dec_lt}
use native.Mathlib.Omega.{arith}
use lib.ListN.{length, get_or, take, drop, length-append, length-take, length-drop, take-append-drop}
use lib.Seq.{get_or-take, get_or-drop}
use lib.Ieee.Digits.{size-lt}
use borrow.Author.Tests.{lt-ltb, le-ltb, eq-eqb, ne_eqb}
use Rattle.gsd_format.specs.declared.Entry.{Entry}
use Rattle.gsd_format.specs.Header.{v10}
use Rattle.gsd_format.specs.Entries.{key_of, key}
use Rattle.gsd_format.specs.Lookup.{none, find_entry}
use Rattle.gsd_format.specs.Search.{binary_digits, Halved, ended, probing, halve, first_id, last_id, halved}
use Rattle.gsd_format.specs.Search.{stopped, stepping, Walk, walk, reach, walked, probed, searched}
use Rattle.gsd_format.specs.Probes.{in_frame, spread, Belongs}
use Rattle.gsd_format.proofs.Lists.{Each, Any, at_each, at-any, each_append, each-so, any-front, any-back}
use Rattle.gsd_format.proofs.Entries.{ShortIds, keys-rise}
use Rattle.gsd_format.proofs.Arranged.{Arranged, least_of, arranged-ordered, arranged-rise, arranged-once}
use Rattle.gsd_format.proofs.Lookup.{Lacks, find-end, find-here, find-on, find_none, find-back, find-behind}

-- One step of the halving

module _ (es : List Entry) (least lo : ℕ) where
  pub halve-none : (most : ℕ) → halve most es least lo 0 ≡ ended lo
  unfolding halve
  halve-none zero = refl
  halve-none (suc most) = refl

  module _ (most : ℕ) where
    -- it probes the entry in the middle
    pub halve-probe : (n : ℕ) → 0 < n → (ps : List ℕ) × ((halve (suc most) es least lo n).probes ≡ (lo + n / 2) ∷ ps)
    unfolding halve
    halve-probe zero some = absurd (omega arith)
    halve-probe (suc n) some = (_, refl)

    pub halve-right : (n : ℕ) → 0 < n → key (get_or es (lo + n / 2) none) < least →
        halve (suc most) es least lo n ≡ probing (lo + n / 2) (halve most es least (lo + n / 2 + 1) (n - n / 2 - 1))
    unfolding halve
    halve-right zero some h = absurd (omega arith)
    halve-right (suc n) some h = rw (lt-ltb (key (get_or es (lo + suc n / 2) none)) least h, halve)

    pub halve-left : (n : ℕ) → 0 < n → least ≤ key (get_or es (lo + n / 2) none) →
        halve (suc most) es least lo n ≡ probing (lo + n / 2) (halve most es least lo (n / 2))
    unfolding halve
    halve-left zero some h = absurd (omega arith)
    halve-left (suc n) some h = rw (le-ltb (key (get_or es (lo + suc n / 2) none)) least h, halve)

-- what holds of every halving: it holds of the end, and of a step where it holds of the half that is left
pub by-halves : (es : List Entry) (least : ℕ) (P : ℕ → ℕ → Halved → Type 0) →
    ((lo : ℕ) → P lo 0 (ended lo)) →
    ((lo n : ℕ) (h : Halved) → 0 < n → key (get_or es (lo + n / 2) none) < least → P (lo + n / 2 + 1) (n - n / 2 - 1) h → P lo n (probing (lo + n / 2) h)) →
    ((lo n : ℕ) (h : Halved) → 0 < n → least ≤ key (get_or es (lo + n / 2) none) → P lo (n / 2) h → P lo n (probing (lo + n / 2) h)) →
    (most lo n : ℕ) → n ≤ most → P lo n (halve most es least lo n)
by-halves es least P end right left zero lo n l = let e : n ≡ 0 = omega arith in rw (e, halve-none es least lo zero) (end lo)
by-halves es least P end right left (suc most) lo n l =
    go (λ u. by-halves es least P end right left most (lo + n / 2 + 1) (n - n / 2 - 1) (omega arith))
    (λ u. by-halves es least P end right left most lo (n / 2) (omega arith)) (dec_lt 0 n) (dec_lt (key (get_or es (lo + n / 2) none)) least)
  where
    go : (0 < n → P (lo + n / 2 + 1) (n - n / 2 - 1) (halve most es least (lo + n / 2 + 1) (n - n / 2 - 1))) →
        (0 < n → P lo (n / 2) (halve most es least lo (n / 2))) →
        Dec (0 < n) → Dec (key (get_or es (lo + n / 2) none) < least) → P lo n (halve (suc most) es least lo n)
    go r f (no z) d = let e : n ≡ 0 = omega arith in rw (e, halve-none es least lo (suc most)) (end lo)
    go r f (yes s) (yes b) = rw (halve-right es least lo most n s b) (right lo n _ s b (r s))
    go r f (yes s) (no b) =
        let a : least ≤ key (get_or es (lo + n / 2) none) = omega arith in
        rw (halve-left es least lo most n s a) (left lo n _ s a (f s))

-- How many entries are probed

pub halve-few : (es : List Entry) (least most lo n d : ℕ) → n ≤ most → n < 2 ^ d → length (halve most es least lo n).probes ≤ d
halve-few es least most lo n d l = by-halves es least (λ lo n h. (d : ℕ) → n < 2 ^ d → length h.probes ≤ d)
    (λ lo d u. omega arith) (λ lo n h s b. step (n - n / 2 - 1) n h s (omega arith)) (λ lo n h s b. step (n / 2) n h s (omega arith)) most lo n l d
  where
    -- m, at most a half of n, has a digit less
    step : (m n : ℕ) (h : Halved) → 0 < n → 2 * m ≤ n → ((d : ℕ) → m < 2 ^ d → length h.probes ≤ d) → (d : ℕ) → n < 2 ^ d →
        suc (length h.probes) ≤ d
    step m n h s l f zero u = absurd (omega arith)
    step m n h s l f (suc d) u = omega (arith, f d (omega (arith, pow-succ' 2 d)))

-- Where the halving ends

-- i is one of the numbers, as an induction goes over them; `Among` of specs/Probes says the same by its place
abbrev pub Has : ℕ → List ℕ → Type 0
Has i = Any (λ j. j ≡ i)

-- it ends at the place of least among the n entries from lo, and has probed the entries next to it; all probes are of these entries
pub record Ends (es : List Entry) (least lo n : ℕ) (h : Halved) : Type 0 where
  pub low : lo ≤ h.place
  pub high : h.place ≤ lo + n
  pub above : h.place < lo + n → least ≤ key (get_or es h.place none)
  pub below : lo < h.place → key (get_or es (h.place - 1) none) < least
  pub next : h.place < lo + n → Has h.place h.probes
  pub before : lo < h.place → Has (h.place - 1) h.probes
  pub within : Each (λ i. i < lo + n) h.probes

module _ (es : List Entry) (least : ℕ) where
  ends-none : (lo : ℕ) → Ends es least lo 0 (ended lo)
  ends-none lo = record {
    low = omega arith;
    high = omega arith;
    above = λ u. absurd (omega arith);
    below = λ u. absurd (omega arith);
    next = λ u. absurd (omega arith);
    before = λ u. absurd (omega arith);
    within = tt;
  }

  module _ (lo n : ℕ) (h : Halved) (some : 0 < n) where
    ends-right : key (get_or es (lo + n / 2) none) < least → Ends es least (lo + n / 2 + 1) (n - n / 2 - 1) h → Ends es least lo n (probing (lo + n / 2) h)
    ends-right b a = record {
      low = omega (arith, a.low);
      high = omega (arith, a.high);
      above = λ u. a.above (omega arith);
      below = λ u. below (dec_lt (lo + n / 2 + 1) h.place);
      next = λ u. inr (a.next (omega arith));
      before = λ u. before (dec_lt (lo + n / 2 + 1) h.place);
      within = (omega arith, each-so (λ i. i < lo + n / 2 + 1 + (n - n / 2 - 1)) (λ i. i < lo + n) (λ i u. omega arith) h.probes a.within);
    }
      where
        middle : (lo + n / 2 + 1 < h.place → ⊥) → lo + n / 2 ≡ h.place - 1
        middle v = omega (arith, a.low)

        below : Dec (lo + n / 2 + 1 < h.place) → key (get_or es (h.place - 1) none) < least
        below (yes v) = a.below v
        below (no v) = rw (← middle v) b

        before : Dec (lo + n / 2 + 1 < h.place) → Has (h.place - 1) ((lo + n / 2) ∷ h.probes)
        before (yes v) = inr (a.before v)
        before (no v) = inl (middle v)

    ends-left : least ≤ key (get_or es (lo + n / 2) none) → Ends es least lo (n / 2) h → Ends es least lo n (probing (lo + n / 2) h)
    ends-left b a = record {
      low = a.low;
      high = omega (arith, a.high);
      above = λ u. above (dec_lt h.place (lo + n / 2));
      below = a.below;
      next = λ u. next (dec_lt h.place (lo + n / 2));
      before = λ u. inr (a.before u);
      within = (omega arith, each-so (λ i. i < lo + n / 2) (λ i. i < lo + n) (λ i u. omega arith) h.probes a.within);
    }
      where
        middle : (h.place < lo + n / 2 → ⊥) → lo + n / 2 ≡ h.place
        middle v = omega (arith, a.high)

        above : Dec (h.place < lo + n / 2) → least ≤ key (get_or es h.place none)
        above (yes v) = a.above v
        above (no v) = rw (← middle v) b

        next : Dec (h.place < lo + n / 2) → Has h.place ((lo + n / 2) ∷ h.probes)
        next (yes v) = inr (a.next v)
        next (no v) = inl (middle v)

  pub halve-ends : (most lo n : ℕ) → n ≤ most → Ends es least lo n (halve most es least lo n)
  halve-ends = by-halves es least (Ends es least) ends-none ends-right ends-left

-- The walk

module _ (frame id : ℕ) where
  module _ (at : ℕ) where
    pub walk_end_lem : walk frame id at [] ≡ stopped [] (Err 42)
    unfolding walk
    walk_end_lem = refl

    module _ (e : Entry) (es : List Entry) where
      pub walk_here : e.frame ≡ frame → e.id ≡ id → walk frame id at (e ∷ es) ≡ stopped (at ∷ []) (Ok e)
      unfolding walk
      walk_here f d = rw (eq-eqb e.frame frame f, eq-eqb e.id id d, walk)

      pub walk-on : e.frame ≡ frame → (e.id ≡ id → ⊥) → walk frame id at (e ∷ es) ≡ stepping at (walk frame id (at + 1) es)
      unfolding walk
      walk-on f d = rw (eq-eqb e.frame frame f, ne_eqb e.id id d, walk)

      pub walk-other : (e.frame ≡ frame → ⊥) → walk frame id at (e ∷ es) ≡ stopped (at ∷ []) (Err 42)
      unfolding walk
      walk-other f = rw (ne_eqb e.frame frame f, walk)

  -- what holds of every walk: of its three ends, and of a step where it holds of the rest
  by-steps : (P : ℕ → List Entry → Walk → Type 0) →
      ((at : ℕ) → P at [] (stopped [] (Err 42))) →
      ((at : ℕ) (e : Entry) (es : List Entry) → e.frame ≡ frame → e.id ≡ id → P at (e ∷ es) (stopped (at ∷ []) (Ok e))) →
      ((at : ℕ) (e : Entry) (es : List Entry) → (e.frame ≡ frame → ⊥) → P at (e ∷ es) (stopped (at ∷ []) (Err 42))) →
      ((at : ℕ) (e : Entry) (es : List Entry) (w : Walk) → e.frame ≡ frame → (e.id ≡ id → ⊥) → P (at + 1) es w → P at (e ∷ es) (stepping at w)) →
      (es : List Entry) (at : ℕ) → P at es (walk frame id at es)
  by-steps P end here other on [] at = rw (walk_end_lem at) (end at)
  by-steps P end here other on (e ∷ es) at =
      go (by-steps P end here other on es (at + 1)) (ℕ_discrete e.frame frame) (ℕ_discrete e.id id)
    where
      go : P (at + 1) es (walk frame id (at + 1) es) → Dec (e.frame ≡ frame) → Dec (e.id ≡ id) → P at (e ∷ es) (walk frame id at (e ∷ es))
      go r (yes f) (yes d) = rw (walk_here at e es f d) (here at e es f d)
      go r (yes f) (no d) = rw (walk-on at e es f d) (on at e es _ f d r)
      go r (no f) d = rw (walk-other at e es f) (other at e es f)

  -- it probes one entry after the other
  pub walk-numbers : (es : List Entry) (at k : ℕ) → k < length (walk frame id at es).probes → get_or (walk frame id at es).probes k 0 ≡ at + k
  walk-numbers = by-steps (λ at es w. (k : ℕ) → k < length w.probes → get_or w.probes k 0 ≡ at + k)
      (λ at k l. absurd (omega arith)) (λ at e es f d. one at) (λ at e es f. one at) (λ at e es w f d. more at w)
    where
      one : (at k : ℕ) → k < 1 → get_or (at ∷ []) k 0 ≡ at + k
      one at zero l = sym (add-zero at)
      one at (suc k) l = absurd (omega arith)

      more : (at : ℕ) (w : Walk) → ((k : ℕ) → k < length w.probes → get_or w.probes k 0 ≡ at + 1 + k) →
          (k : ℕ) → k < suc (length w.probes) → get_or (at ∷ w.probes) k 0 ≡ at + k
      more at w r zero l = sym (add-zero at)
      more at w r (suc k) l = r k (omega arith) ∙ (let q : at + 1 + k ≡ at + suc k = omega arith in q)

  -- of the entries, and at most one that is not of the frame
  pub walk-most : (es : List Entry) (at : ℕ) → length (walk frame id at es).probes ≤ length es
  walk-most = by-steps (λ at es w. length w.probes ≤ length es)
      (λ at. omega arith) (λ at e es f d. omega arith) (λ at e es f. omega arith) (λ at e es w f d r. omega arith)

  in_frame_lem : (e : Entry) (es : List Entry) → e.frame ≡ frame → in_frame frame (e ∷ es) ≡ suc (in_frame frame es)
  unfolding in_frame
  in_frame_lem e es f = rw (eq-eqb e.frame frame f, in_frame)

  in-other : (e : Entry) (es : List Entry) → (e.frame ≡ frame → ⊥) → in_frame frame (e ∷ es) ≡ in_frame frame es
  unfolding in_frame
  in-other e es f = rw (ne_eqb e.frame frame f, in_frame)

  in-none : in_frame frame [] ≡ 0
  unfolding in_frame
  in-none = refl

  in-lacking : (es : List Entry) → ((i : ℕ) → i < length es → (get_or es i none).frame ≡ frame → ⊥) → in_frame frame es ≡ 0
  in-lacking [] h = in-none
  in-lacking (e ∷ es) h = in-other e es (h 0 (omega arith)) ∙ in-lacking es (λ i l. h (suc i) (omega arith))

  in-most : (es : List Entry) → in_frame frame es ≤ length es
  in-most [] = omega (arith, in-none)
  in-most (e ∷ es) = go (in-most es) (ℕ_discrete e.frame frame)
    where
      go : in_frame frame es ≤ length es → Dec (e.frame ≡ frame) → in_frame frame (e ∷ es) ≤ suc (length es)
      go r (yes f) = omega (arith, in_frame_lem e es f)
      go r (no f) = omega (arith, in-other e es f)

  in-append : (a b : List Entry) → in_frame frame (a ++ b) ≡ in_frame frame a + in_frame frame b
  in-append [] b = omega (arith, in-none)
  in-append (e ∷ a) b = go (in-append a b) (ℕ_discrete e.frame frame)
    where
      go : in_frame frame (a ++ b) ≡ in_frame frame a + in_frame frame b → Dec (e.frame ≡ frame) →
          in_frame frame (e ∷ a ++ b) ≡ in_frame frame (e ∷ a) + in_frame frame b
      go r (yes f) = omega (arith, in_frame_lem e (a ++ b) f, in_frame_lem e a f)
      go r (no f) = omega (arith, in-other e (a ++ b) f, in-other e a f)

  in_parts : (p : ℕ) (es : List Entry) → in_frame frame es ≡ in_frame frame (take p es) + in_frame frame (drop p es)
  in_parts p es = ap (in_frame frame) (sym (take-append-drop p es)) ∙ in-append (take p es) (drop p es)

  pub walk-few : (es : List Entry) (at : ℕ) → length (walk frame id at es).probes ≤ in_frame frame es + 1
  walk-few = by-steps (λ at es w. length w.probes ≤ in_frame frame es + 1)
      (λ at. omega arith) (λ at e es f d. omega arith) (λ at e es f. omega arith) (λ at e es w f d r. omega (arith, in_frame_lem e es f))

  -- entries that the walk passes: of the frame, with another id
  abbrev pub Passes : List Entry → ℕ → Type 0
  Passes es k = (i : ℕ) → i < k → ((get_or es i none).frame ≡ frame) × ((get_or es i none).id ≡ id → ⊥)

  -- behind k of them it goes on with the rest
  pub walk-passes : (k : ℕ) (es : List Entry) (at : ℕ) → k ≤ length es → Passes es k →
      ((walk frame id at es).answer ≡ (walk frame id (at + k) (drop k es)).answer)
      × (length (walk frame id at es).probes ≡ k + length (walk frame id (at + k) (drop k es)).probes)
  walk-passes zero es at l p = rw add-zero (refl, omega arith)
  walk-passes (suc k) [] at l p = absurd (omega arith)
  walk-passes (suc k) (e ∷ es) at l p =
      let on = walk-on at e es (p 0 (omega arith)).0 (p 0 (omega arith)).1 in
      let rest = walk-passes k es (at + 1) (omega arith) (λ i u. p (suc i) (omega arith)) in
      let q : at + 1 + k ≡ at + suc k = omega arith in (
        ap (λ w. w.answer) on ∙ rest.0 ∙ ap (λ n. (walk frame id n (drop k es)).answer) q,
        ap (λ w. length w.probes) on ∙ ap suc (rest.1 ∙ ap (λ n. k + length (walk frame id n (drop k es)).probes) q)
            ∙ sym (suc-add k (length (walk frame id (at + suc k) (drop k es)).probes)),
      )

  walk-some : (es : List Entry) (at : ℕ) → 0 < length es → 0 < length (walk frame id at es).probes
  walk-some = by-steps (λ at es w. 0 < length es → 0 < length w.probes)
      (λ at l. l) (λ at e es f d l. omega arith) (λ at e es f l. omega arith) (λ at e es w f d r l. omega arith)

  -- and reads the next, if there is one
  pub walk-reads : (es : List Entry) (at k : ℕ) → k < length es → Passes es k → k < length (walk frame id at es).probes
  walk-reads es at k l p =
      omega (arith, (walk-passes k es at (omega arith) p).1, walk-some (drop k es) (at + k) (omega (arith, length-drop k es)))

  -- Entries of the frame stand together

  abbrev pub Together : List Entry → Type 0
  Together es = (i j : ℕ) → i < j → j < length es → (get_or es j none).frame ≡ frame → (get_or es i none).frame ≡ frame

  together-tail : (e : Entry) (es : List Entry) → Together (e ∷ es) → Together es
  together-tail e es t i j l u = t (suc i) (suc j) (omega arith) (omega arith)

  -- so the walk finds what the list has
  pub walk-finds : (es : List Entry) (at : ℕ) → Together es → (walk frame id at es).answer ≡ find_entry frame id es
  walk-finds = by-steps (λ at es w. Together es → w.answer ≡ find_entry frame id es)
      (λ at t. sym (find-end frame id)) (λ at e es f d t. sym (find-here frame id e es f d)) other
      (λ at e es w f d r t. r (together-tail e es t) ∙ sym (find-on frame id e es (λ g. d)))
    where
      other : (at : ℕ) (e : Entry) (es : List Entry) → (e.frame ≡ frame → ⊥) → Together (e ∷ es) → Err 42 ≡ find_entry frame id (e ∷ es)
      other at e es f t = sym (find_none frame id (e ∷ es) lacks)
        where
          lacks : Lacks (e ∷ es) frame id
          lacks zero l g d = f g
          lacks (suc i) l g d = f (t 0 (suc i) (omega arith) l g)

  -- the frame's entries are the first so many
  pub together-first : (es : List Entry) → Together es → (i : ℕ) → i < length es →
      (i < in_frame frame es → (get_or es i none).frame ≡ frame) × (in_frame frame es ≤ i → (get_or es i none).frame ≡ frame → ⊥)
  together-first [] t i l = absurd (omega arith)
  together-first (e ∷ es) t i l = go (together-first es (together-tail e es t)) (ℕ_discrete e.frame frame) i l
    where
      none-behind : (e.frame ≡ frame → ⊥) → in_frame frame (e ∷ es) ≡ 0
      none-behind f = in-lacking (e ∷ es) (elim [ zero ↦ λ u. f | suc i ↦ λ u g. f (t 0 (suc i) (omega arith) u g) ])

      go : ((i : ℕ) → i < length es → (i < in_frame frame es → (get_or es i none).frame ≡ frame) × (in_frame frame es ≤ i →
          (get_or es i none).frame ≡ frame → ⊥)) →
          Dec (e.frame ≡ frame) → (i : ℕ) → i < length (e ∷ es) →
          (i < in_frame frame (e ∷ es) → (get_or (e ∷ es) i none).frame ≡ frame) × (in_frame frame (e ∷ es) ≤ i → (get_or (e ∷ es) i none).frame ≡ frame → ⊥)
      go r (yes f) zero l = (λ u. f, λ u g. omega (arith, in_frame_lem e es f))
      go r (yes f) (suc i) l = (
        λ u. (r i (omega arith)).0 (omega (arith, in_frame_lem e es f)),
        λ u. (r i (omega arith)).1 (omega (arith, in_frame_lem e es f)),
      )
      go r (no f) zero l = (λ u. absurd (omega (arith, none-behind f)), λ u. f)
      go r (no f) (suc i) l = (λ u. absurd (omega (arith, none-behind f)), λ u g. f (t 0 (suc i) (omega arith) l g))

-- By the version

module _ (version : ℕ) (is : v10 version ≡ true) where
  pub first-10 : (id : ℕ) → first_id version id ≡ 0
  unfolding first_id
  first-10 id = rw (is, first_id)

  pub last-10 : (id : ℕ) → last_id version id ≡ 65535
  unfolding last_id
  last-10 id = rw (is, last_id)

  pub reach-10 : (es : List Entry) → reach version es ≡ es
  unfolding reach
  reach-10 es = rw (is, reach)

  pub spread-10 : (frame : ℕ) (es : List Entry) → spread version frame es ≡ in_frame frame es
  unfolding spread
  spread-10 frame es = rw (is, spread)

module _ (version : ℕ) (recent : v10 version ≡ false) where
  pub first-recent : (id : ℕ) → first_id version id ≡ id
  unfolding first_id
  first-recent id = rw (recent, first_id)

  pub last-recent : (id : ℕ) → last_id version id ≡ id
  unfolding last_id
  last-recent id = rw (recent, last_id)

  pub reach-recent : (es : List Entry) → reach version es ≡ take 1 es
  unfolding reach
  reach-recent es = rw (recent, reach)

  pub spread-recent : (frame : ℕ) (es : List Entry) → spread version frame es ≡ 0
  unfolding spread
  spread-recent frame es = rw (recent, spread)

-- no more stand where it would than there are entries
pub spread-most : (version frame : ℕ) (es : List Entry) → spread version frame es ≤ length es
spread-most version frame es = go (v10 version) refl
  where
    go : (v : Bool) → v10 version ≡ v → spread version frame es ≤ length es
    go true r = omega (arith, spread-10 version r frame es, in-most frame 0 es)
    go false r = omega (arith, spread-recent version r frame es)

-- what is sought is not before the first that it could be
pub first-low : (version id : ℕ) → first_id version id ≤ id
first-low version id = go (v10 version) refl
  where
    go : (v : Bool) → v10 version ≡ v → first_id version id ≤ id
    go true r = rw (first-10 version r id) (omega arith)
    go false r = rw (first-recent version r id) (omega arith)

-- The walk has no more before it than the entries from the place on
pub reach-most : (version : ℕ) (es : List Entry) → length (reach version es) ≤ length es
reach-most version es = go (v10 version) refl
  where
    go : (v : Bool) → v10 version ≡ v → length (reach version es) ≤ length es
    go true r = rw (reach-10 version r es) (omega arith)
    go false r = rw (reach-recent version r es) (omega (arith, length-take 1 es))

pub reach-at : (version : ℕ) (es : List Entry) (i : ℕ) → i < length (reach version es) → get_or (reach version es) i none ≡ get_or es i none
reach-at version es i l = go (v10 version) refl
  where
    go : (v : Bool) → v10 version ≡ v → get_or (reach version es) i none ≡ get_or es i none
    go true r = ap (λ r. get_or r i none) (reach-10 version r es)
    go false r =
        let q = reach-recent version r es in
        ap (λ r. get_or r i none) q ∙ get_or-take 1 es i none (omega (arith, ap length q, length-take 1 es))

-- The search in all

module _ (version frame id : ℕ) (es : List Entry) where
  abbrev pub place : ℕ
  place = (halved version frame id es).place

  abbrev pub aim : ℕ
  aim = key_of frame (first_id version id)

  -- the entries from the place on, and those of them that the walk may read
  abbrev pub rest : List Entry
  rest = drop place es

  abbrev pub ahead : List Entry
  ahead = reach version rest

  pub halved-ends : Ends es aim 0 (length es) (halved version frame id es)
  halved-ends = halve-ends es aim (length es) 0 (length es) (omega arith)

  rest-length : length rest ≡ length es - place
  rest-length = length-drop place es

  -- what is probed
  pub probed-parts : probed version frame id es ≡ (halved version frame id es).probes ++ (walked version frame id es).probes
  unfolding probed
  probed-parts = refl

  pub searched-walks : searched version frame id es ≡ (walk frame id place ahead).answer
  unfolding searched
  searched-walks = refl

  pub probed-halved : (i : ℕ) → Has i (halved version frame id es).probes → Has i (probed version frame id es)
  probed-halved i h = rw probed-parts (any-front (λ j. j ≡ i) (halved version frame id es).probes _ h)

  -- what the walk reads of the entries ahead
  probed-walk : (k : ℕ) → k < length (walk frame id place ahead).probes → Has (place + k) (probed version frame id es)
  probed-walk k l =
      rw probed-parts (any-back (λ j. j ≡ place + k) (halved version frame id es).probes _
      (at-any (λ j. j ≡ place + k) (walk frame id place ahead).probes 0 k l (walk-numbers frame id ahead place k l)))

  -- only entries are probed
  pub probed-within : Each (λ i. i < length es) (probed version frame id es)
  probed-within =
      rw probed-parts (each_append _ (halved version frame id es).probes _
      (each-so (λ i. i < 0 + length es) (λ i. i < length es) (λ i u. omega arith) (halved version frame id es).probes halved-ends.within)
      (at_each (λ i. i < length es) (walk frame id place ahead).probes 0 (λ k l.
      omega (arith, walk-numbers frame id ahead place k l, walk-most frame id ahead place, reach-most version rest, rest-length))))

  -- at most one more than the number of entries has binary digits, and in 1.0 those of the frame
  pub probed-few : length (probed version frame id es) ≤ binary_digits (length es) + 1 + spread version frame es
  probed-few =
      omega (
        arith,
        ap length probed-parts,
        length-append (halved version frame id es).probes (walk frame id place ahead).probes,
        halve-few es aim (length es) 0 (length es) (binary_digits (length es)) (omega arith) (size-lt (length es)),
        go (v10 version) refl,
      )
    where
      go : (v : Bool) → v10 version ≡ v → length (walk frame id place ahead).probes ≤ 1 + spread version frame es
      go true r =
          omega (
            arith,
            walk-few frame id ahead place,
            ap (in_frame frame) (reach-10 version r rest),
            in_parts frame id place es,
            spread-10 version r frame es,
          )
      go false r = omega (arith, walk-most frame id ahead place, ap length (reach-recent version r rest), length-take 1 rest)

  -- In a list as 15 leaves it, with ids of 16 bits

  module _ (arranged : Arranged version [] es) (ids : ShortIds es) (short : id < 65536) where
    -- where an entry is below what is sought, so are those before it
    lower : (i j : ℕ) → i ≤ j → j < length es → key (get_or es j none) < aim → key (get_or es i none) < aim
    unfolding least_of
    lower i j l u b = go (v10 version) refl (dec_lt i j)
      where
        go : (v : Bool) → v10 version ≡ v → Dec (i < j) → key (get_or es i none) < aim
        go true r d = omega (arith, first-10 version r id, arranged-rise version es [] arranged ids i j l u, ids i (omega arith))
        go false r (yes a) = omega (arith, keys-rise es 0 ((arranged-ordered es version [] r).0 arranged) i j a u)
        go false r (no a) = let q : i ≡ j = omega arith in rw q b

    -- the entries before the place are below, those from it on are not
    pub place-before : (i : ℕ) → i < place → key (get_or es i none) < aim
    place-before i l = lower i (place - 1) (omega arith) (omega (arith, halved-ends.high)) (halved-ends.below (omega arith))

    pub place-behind : (i : ℕ) → place ≤ i → i < length es → aim ≤ key (get_or es i none)
    place-behind i l u = go (dec_lt (key (get_or es i none)) aim)
      where
        go : Dec (key (get_or es i none) < aim) → aim ≤ key (get_or es i none)
        go (yes b) = absurd (omega (arith, halved-ends.above (omega arith), lower place i l u b))
        go (no b) = omega arith

    -- an entry with the frame and the id stands from the place on
    pub not-before : (i : ℕ) → i < length es → (get_or es i none).frame ≡ frame → (get_or es i none).id ≡ id → place ≤ i
    not-before i l f d = go (dec_lt i place)
      where
        go : Dec (i < place) → place ≤ i
        go (yes a) = absurd (omega (arith, place-before i a, first-low version id))
        go (no a) = omega arith

    rest_at : (i : ℕ) → get_or rest i none ≡ get_or es (place + i) none
    rest_at i = get_or-drop place es i none

    rest-is : (i : ℕ) → place ≤ i → get_or rest (i - place) none ≡ get_or es i none
    rest-is i l = rest_at (i - place) ∙ ap (λ j. get_or es j none) (let q : place + (i - place) ≡ i = omega arith in q)

    -- 1.0: from the place on no frame is below, so the frame's entries stand together there
    rest-frame : v10 version ≡ true → (i : ℕ) → i < length rest → frame ≤ (get_or rest i none).frame
    rest-frame r i l =
        let u : place + i < length es = omega (arith, rest-length) in
        omega (arith, ap (λ e. e.frame) (rest_at i), place-behind (place + i) (omega arith) u, first-10 version r id, ids (place + i) u)

    rest-rise : (i j : ℕ) → i ≤ j → j < length rest → (get_or rest i none).frame ≤ (get_or rest j none).frame
    rest-rise i j l u =
        omega (
          arith,
          ap (λ e. e.frame) (rest_at i),
          ap (λ e. e.frame) (rest_at j),
          arranged-rise version es [] arranged ids (place + i) (place + j) (omega arith) (omega (arith, rest-length)),
        )

    rest-together : v10 version ≡ true → Together frame id rest
    rest-together r i j l u f = omega (arith, rest-frame r i (omega arith), rest-rise i j (omega arith) u)

    ahead-together : Together frame id ahead
    ahead-together i j l u f = go (v10 version) refl
      where
        go : (v : Bool) → v10 version ≡ v → (get_or ahead i none).frame ≡ frame
        go true r =
            let q : ahead ≡ rest = reach-10 version r rest in
            ap (λ es. (get_or es i none).frame) q
            ∙ rest-together r i j l (omega (arith, ap length q)) (sym (ap (λ es. (get_or es j none).frame) q) ∙ f)
        go false r = absurd (omega (arith, ap length (reach-recent version r rest), length-take 1 rest))

    -- what the walk may not read has another frame or id: 2.x has one entry that is not below, and the keys behind it are above it
    only-first : v10 version ≡ false → (i : ℕ) → 0 < i → i < length rest → (get_or rest i none).frame ≡ frame → (get_or rest i none).id ≡ id → ⊥
    unfolding least_of
    only-first r i l u f d =
        let e : get_or rest i none ≡ get_or es (place + i) none = rest_at i in
        let rises : key (get_or es place none) < key (get_or es (place + i) none) =
        keys-rise es 0 ((arranged-ordered es version [] r).0 arranged) place (place + i) (omega arith) (omega (arith, rest-length)) in
        omega (
          arith,
          ap (λ e. e.frame) e,
          ap (λ e. e.id) e,
          rises,
          place-behind place (omega arith) (omega (arith, rest-length)),
          first-recent version r id,
        )

    ahead-finds : find_entry frame id ahead ≡ find_entry frame id rest
    ahead-finds = go (v10 version) refl
      where
        go : (v : Bool) → v10 version ≡ v → find_entry frame id ahead ≡ find_entry frame id rest
        go true r = ap (find_entry frame id) (reach-10 version r rest)
        go false r =
            ap (find_entry frame id) (reach-recent version r rest)
            ∙ sym (find-back frame id (take 1 rest) (drop 1 rest) (λ i l f d.
            let q = get_or-drop 1 rest i none in
            only-first r (1 + i) (omega arith) (omega (arith, length-drop 1 rest)) (sym (ap (λ e. e.frame) q) ∙ f) (sym (ap (λ e. e.id) q) ∙ d)))
            ∙ ap (find_entry frame id) (take-append-drop 1 rest)

    -- so the search finds what the list has
    pub searched-finds : searched version frame id es ≡ find_entry frame id es
    searched-finds =
        searched-walks ∙ walk-finds frame id ahead place ahead-together ∙ ahead-finds
        ∙ sym (find-behind frame id (take place es) rest lacks) ∙ ap (find_entry frame id) (take-append-drop place es)
      where
        lacks : Lacks (take place es) frame id
        lacks i l f d =
            let u : i < place = omega (arith, length-take place es) in
            let e : get_or (take place es) i none ≡ get_or es i none = get_or-take place es i none u in
            omega (
              arith,
              not-before i (omega (arith, length-take place es)) (sym (ap (λ e. e.frame) e) ∙ f) (sym (ap (λ e. e.id) e) ∙ d),
            )

    -- the entry that is found was probed
    pub probed-found : (i : ℕ) → i < length es → (get_or es i none).frame ≡ frame → (get_or es i none).id ≡ id → Has i (probed version frame id es)
    probed-found i l f d = rw (let q : i ≡ place + (i - place) = omega (arith, low) in q) (probed-walk (i - place) (go (v10 version) refl))
      where
        low : place ≤ i
        low = not-before i l f d

        there : get_or rest (i - place) none ≡ get_or es i none
        there = rest-is i low

        inside : i - place < length rest
        inside = omega (arith, low, rest-length)

        go : (v : Bool) → v10 version ≡ v → i - place < length (walk frame id place ahead).probes
        go true r = rw (reach-10 version r rest) (walk-reads frame id rest place (i - place) inside (λ j u.
            let same : (get_or rest j none).frame ≡ frame =
            omega (arith, rest-frame r j (omega (arith, inside)), rest-rise j (i - place) (omega arith) inside, ap (λ e. e.frame) there) in
            let e : get_or rest j none ≡ get_or es (place + j) none = rest_at j in (
              same,
              λ c. omega (
                arith,
                low,
                arranged-once version es [] arranged (place + j) i (omega arith) l
                    (sym (ap (λ e. e.frame) e) ∙ same ∙ sym f) (sym (ap (λ e. e.id) e) ∙ c ∙ sym d),
              ),
            )))
        go false r = alone (dec_lt 0 (i - place))
          where
            alone : Dec (0 < i - place) → i - place < length (walk frame id place ahead).probes
            alone (yes u) = absurd (only-first r (i - place) u inside (ap (λ e. e.frame) there ∙ f) (ap (λ e. e.id) there ∙ d))
            alone (no u) =
                omega (arith, walk-some frame id ahead place (omega (arith, inside, ap length (reach-recent version r rest), length-take 1 rest)))

    -- Where no entry has the frame and the id

    module _ (lacks : Lacks es frame id) where
      -- 1.0: the frame's entries are the first from the place on
      frame-rest : v10 version ≡ true → in_frame frame rest ≡ spread version frame es
      frame-rest r =
          omega (
            arith,
            spread-10 version r frame es,
            in_parts frame id place es,
            in-lacking frame id (take place es) (λ i l f.
                let u : i < place = omega (arith, length-take place es) in
                omega (arith, sym (ap (λ e. e.frame) (get_or-take place es i none u)) ∙ f, place-before i u, first-10 version r id)),
          )

      spread-high : place + spread version frame es ≤ length es
      spread-high = go (v10 version) refl
        where
          go : (v : Bool) → v10 version ≡ v → place + spread version frame es ≤ length es
          go true r = omega (arith, frame-rest r, in-most frame id rest, rest-length, halved-ends.high)
          go false r = omega (arith, spread-recent version r frame es, halved-ends.high)

      spread-frame : (i : ℕ) → place ≤ i → i < place + spread version frame es → (get_or es i none).frame ≡ frame
      spread-frame i l u = go (v10 version) refl
        where
          go : (v : Bool) → v10 version ≡ v → (get_or es i none).frame ≡ frame
          go true r =
              sym (ap (λ e. e.frame) (rest-is i l))
              ∙ (together-first frame id rest (rest-together r) (i - place) (omega (arith, rest-length, spread-high))).0 (omega (arith, frame-rest r))
          go false r = absurd (omega (arith, spread-recent version r frame es))

      -- they belong there; ids have 16 bits, so that a key is of one frame and one id
      pub place-belongs : Belongs version frame id es place (spread version frame es)
      place-belongs = record { high = spread-high; before = place-before; inside = spread-frame; behind = λ i l u. behind i l u (v10 version) refl }
        where
          behind : (i : ℕ) → place + spread version frame es ≤ i → i < length es → (v : Bool) → v10 version ≡ v →
              key_of frame (last_id version id) < key (get_or es i none)
          behind i l u true r =
              let j : ℕ = i - place in
              let e : get_or rest j none ≡ get_or es i none = rest-is i (omega arith) in
              let w : j < length rest = omega (arith, rest-length) in
              let n : ((get_or rest j none).frame ≡ frame → ⊥) = (together-first frame id rest (rest-together r) j w).1 (omega (arith, frame-rest r)) in
              omega (arith, ap (λ e. e.frame) e, rest-frame r j w, n, last-10 version r id)
          behind i l u false r = go (dec_lt (key_of frame id) (key (get_or es i none)))
            where
              go : Dec (key_of frame id < key (get_or es i none)) → key_of frame (last_id version id) < key (get_or es i none)
              go (yes a) = rw (last-recent version r id) a
              go (no a) =
                  let same : key (get_or es i none) ≡ key_of frame id = omega (arith, place-behind i (omega arith) u, first-recent version r id) in
                  absurd (lacks i u (omega (arith, ids i u)) (omega (arith, ids i u)))

      -- and are probed, with those next to them
      pub probed-around : (i : ℕ) → place ≤ i → i ≤ place + spread version frame es → i < length es → Has i (probed version frame id es)
      probed-around i l m u = rw (let q : i ≡ place + (i - place) = omega arith in q) (probed-walk (i - place) (go (v10 version) refl))
        where
          go : (v : Bool) → v10 version ≡ v → i - place < length (walk frame id place ahead).probes
          go true r = rw (reach-10 version r rest) (walk-reads frame id rest place (i - place) (omega (arith, rest-length)) (λ j v.
              let e : get_or rest j none ≡ get_or es (place + j) none = rest_at j in
              let f : (get_or es (place + j) none).frame ≡ frame = spread-frame (place + j) (omega arith) (omega arith) in
              (ap (λ e. e.frame) e ∙ f, λ d. lacks (place + j) (omega arith) f (sym (ap (λ e. e.id) e) ∙ d))))
          go false r =
              omega (
                arith,
                spread-recent version r frame es,
                walk-some frame id ahead place (omega (arith, rest-length, ap length (reach-recent version r rest), length-take 1 rest)),
              )

  pub probed-before : 0 < place → Has (place - 1) (probed version frame id es)
  probed-before l = probed-halved (place - 1) (halved-ends.before l)

-- they belong at one place only
module _ (version frame id : ℕ) (es : List Entry) where
  no-later : (p q : ℕ) → Belongs version frame id es p (spread version frame es) → Belongs version frame id es q (spread version frame es) → p < q → ⊥
  no-later p q a b l = go (v10 version) refl (dec_lt 0 (spread version frame es))
    where
      go : (v : Bool) → v10 version ≡ v → Dec (0 < spread version frame es) → ⊥
      go true r (yes s) = omega (arith, b.before p l, a.inside p (omega arith) (omega arith), first-10 version r id)
      go true r (no s) = omega (arith, b.before p l, a.behind p (omega arith) (omega (arith, b.high)), first-10 version r id)
      go false r s =
          omega (
            arith,
            b.before p l,
            a.behind p (omega (arith, spread-recent version r frame es)) (omega (arith, b.high)),
            first-recent version r id,
            last-recent version r id,
          )

  pub belongs-one : (p q : ℕ) → Belongs version frame id es p (spread version frame es) → Belongs version frame id es q (spread version frame es) →
      p ≡ q
  belongs-one p q a b = go (dec_lt p q) (dec_lt q p)
    where
      go : Dec (p < q) → Dec (q < p) → p ≡ q
      go (yes l) u = absurd (no-later p q a b l)
      go (no l) (yes u) = absurd (no-later q p b a u)
      go (no l) (no u) = omega arith
