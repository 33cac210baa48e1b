-- The halving and the walk on their way: the next probe, what is left after it, the ends.
use Rattle.std.specs.Prelude.{Result, Ok, Err}
use Prim.Native.Nat.{ℕ, suc, ◌+◌, ◌-◌, ◌/◌, ◌^◌, ◌≤◌, ◌<◌}
use mathlib.Core.Path.{◌≡◌, refl, sym, ◌∙◌, ap}
use mathlib.Core.Bool.{Bool, true, false}
use mathlib.Core.List.{List, [], ◌∷◌, ◌++◌}
use native.Mathlib.Nat.{sub-zero}
use native.Mathlib.Numerals.{add-one}
use native.Mathlib.Omega.{arith}
use lib.ListN.{length, get_or, drop, length-append, length-take, length-drop, drop_of_length-le, get_or-append}
use lib.Seq.{drop-cons, get_or-drop, get_or-append-add}
use lib.Ieee.Digits.{size-le}
use lib.Dec.{ltb}
use borrow.Author.Count.{below_more}
use borrow.Author.Tests.{ltb-true, ltb-false}
use Rattle.gsd_format.specs.declared.Entry.{Entry}
use Rattle.gsd_format.specs.Header.{v10}
use Rattle.gsd_format.specs.Entries.{key_of, key}
use Rattle.gsd_format.specs.Lookup.{none}
use Rattle.gsd_format.specs.Search.{Halved, ended, probing, halve, first_id, halved, Walk, stopped, walk, walked, probed, searched}
use Rattle.gsd_format.proofs.Lists.{each_at}
use Rattle.gsd_format.proofs.Entries.{slots_length}
use Rattle.gsd_format.proofs.Search.{halve-none, halve-probe, halve-right, halve-left}
use Rattle.gsd_format.proofs.Search.{Passes, walk_end_lem, walk_here, walk-other, walk-numbers, walk-passes, walk-reads}
use Rattle.gsd_format.proofs.Search.{spread-most, reach-10, reach-recent, reach-most, reach-at, ahead, halved-ends, probed-parts}
use Rattle.gsd_format.proofs.Search.{probed-within, probed-few, searched-walks}
use Rattle.gsd_search.specs.declared.probing.Query.{Query}
use Rattle.gsd_search.specs.Queries.{slots_for, halved_for, walk_end, probes_for, Fits, Next}

-- a list from a number on: what stands first there, and what follows
from_on : (l : List ℕ) (k x : ℕ) (xs : List ℕ) → drop k l ≡ x ∷ xs → (k < length l) × (get_or l k 0 ≡ x) × (drop (k + 1) l ≡ xs)
from_on l k x xs h =
    let few : k < length l = omega (arith, sym (length-drop k l) ∙ ap length h) in
    let both : get_or l k 0 ∷ drop (suc k) l ≡ x ∷ xs = sym (drop-cons l k 0 few) ∙ h in
    (few, ap (λ r. get_or r 0 0) both, ap (λ j. drop j l) (add-one k) ∙ ap (drop 1) both)

-- a probe is of one of the slots, and there are few
module _ (img : List ℕ) (q : Query) (made i : ℕ) (h : Next (probes_for img q) made i) where
  pub next-within : i < q.count
  next-within =
      omega (
        arith,
        h.next,
        slots_length q.count img q.index,
        each_at (λ j. j < length (slots_for img q)) (probes_for img q) 0 (probed-within q.version q.frame q.id (slots_for img q)) made h.more,
      )

  pub next-few : q.count < 2 ^ 64 → made + 1 ≤ 65 + q.count
  next-few l =
      omega (
        arith,
        h.more,
        probed-few q.version q.frame q.id (slots_for img q),
        spread-most q.version q.frame (slots_for img q),
        size-le (length (slots_for img q)) 64 (omega (arith, slots_length q.count img q.index)),
        slots_length q.count img q.index,
      )

module _ (version frame id : ℕ) (es : List Entry) where
  abbrev whole : Halved
  whole = halved version frame id es

  abbrev aim : ℕ
  aim = key_of frame (first_id version id)

  -- after so many probes the n entries from lo are left to halve
  pub record Halving (lo n made : ℕ) : Type 0 where
    pub within : lo + n ≤ length es
    pub steps : n + made ≤ length es
    pub few : made ≤ length whole.probes
    pub probes : drop made whole.probes ≡ (halve (length es - made) es aim lo n).probes
    pub place : whole.place ≡ (halve (length es - made) es aim lo n).place

  pub halving-start : (n made : ℕ) → n ≡ length es → made ≡ 0 → Halving 0 n made
  halving-start n made all none = rw (all, none) (record {
    within = omega arith;
    steps = omega arith;
    few = omega arith;
    probes = ap (λ most. (halve most es aim 0 (length es)).probes) (sym (sub-zero (length es)));
    place = ap (λ most. (halve most es aim 0 (length es)).place) (sym (sub-zero (length es)));
  })

  -- what is probed by the halving is probed
  next-halved : (made i : ℕ) → made < length whole.probes → get_or whole.probes made 0 ≡ i → Next (probed version frame id es) made i
  next-halved made i l e = rw (probed-parts version frame id es) (record {
    more = omega (arith, length-append whole.probes (walked version frame id es).probes);
    next = get_or-append whole.probes _ 0 made l ∙ e;
  })

  module _ (lo n made : ℕ) (h : Halving lo n made) (some : 0 < n) where
    abbrev left : ℕ
    left = length es - (made + 1)

    fuel : length es - made ≡ suc left
    fuel = omega (arith, h.steps)

    -- the next probe is of the entry in the middle
    pub halving-next : Next (probed version frame id es) made (lo + n / 2)
    halving-next =
        let first = halve-probe es aim lo left n some in
        let on = from_on whole.probes made (lo + n / 2) first.0
        (h.probes ∙ ap (λ most. (halve most es aim lo n).probes) fuel ∙ first.1) in
        next-halved made (lo + n / 2) on.0 on.1

    step : (lo' n' : ℕ) → lo' + n' ≤ lo + n → n' < n →
        halve (suc left) es aim lo n ≡ probing (lo + n / 2) (halve left es aim lo' n') → Halving lo' n' (made + 1)
    step lo' n' b l e =
        let same : halve (length es - made) es aim lo n ≡ probing (lo + n / 2) (halve left es aim lo' n') =
        ap (λ most. halve most es aim lo n) fuel ∙ e in
        let on = from_on whole.probes made (lo + n / 2) (halve left es aim lo' n').probes (h.probes ∙ ap (λ r. r.probes) same) in
        record {
          within = omega (arith, h.within);
          steps = omega (arith, h.steps);
          few = omega (arith, on.0);
          probes = on.2;
          place = h.place ∙ ap (λ r. r.place) same;
        }

    -- on by the entry e that was read there, the answer whether it is below, and the count
    module _ (e : Entry) (read : e ≡ get_or es (lo + n / 2) none) (r : Bool) (said : r ≡ ltb (key e) aim) (count : ℕ)
        (counted : count ≡ made + 1) where
      compared : ltb (key (get_or es (lo + n / 2) none)) aim ≡ r
      compared = sym (said ∙ ap (λ a. ltb (key a) aim) read)

      pub halving-right : r ≡ true → Halving (lo + n / 2 + 1) (n - n / 2 - 1) count
      halving-right b =
          rw counted (step (lo + n / 2 + 1) (n - n / 2 - 1) (omega arith) (omega arith)
          (halve-right es aim lo left n some (ltb-true _ _ (compared ∙ b))))

      pub halving-left : r ≡ false → Halving lo (n / 2) count
      halving-left b =
          rw counted (step lo (n / 2) (omega arith) (omega arith) (halve-left es aim lo left n some (ltb-false _ _ (compared ∙ b))))

  pub halving-end : (lo n made : ℕ) → Halving lo n made → n ≡ 0 → (lo ≡ whole.place) × (made ≡ length whole.probes)
  halving-end lo n made h z =
      let none : halve (length es - made) es aim lo n ≡ ended lo =
      ap (halve (length es - made) es aim lo) z ∙ halve-none es aim lo (length es - made) in (
        sym (h.place ∙ ap (λ r. r.place) none),
        omega (arith, h.few, sym (length-drop made whole.probes) ∙ ap length (h.probes ∙ ap (λ r. r.probes) none)),
      )

  -- The walk, from the halving's place on: k entries were passed, each of the frame and with another id
  pub record Walking (i made : ℕ) : Type 0 where
    pub low : whole.place ≤ i
    pub high : i ≤ whole.place + length (ahead version frame id es)
    pub passes : Passes frame id (ahead version frame id es) (i - whole.place)
    pub counted : made ≡ length whole.probes + (i - whole.place)

  pub walking_start : (place made : ℕ) → place ≡ whole.place → made ≡ length whole.probes → Walking place made
  walking_start place made at all = record {
    low = omega arith;
    high = omega arith;
    passes = λ j l. absurd (omega arith);
    counted = omega arith;
  }

  module _ (i made : ℕ) (h : Walking i made) where
    abbrev k : ℕ
    k = i - whole.place

    -- the walk goes on from here
    abbrev on : Walk
    on = walk frame id (whole.place + k) (drop k (ahead version frame id es))

    onward : (searched version frame id es ≡ on.answer) × (length (probed version frame id es) ≡ made + length on.probes)
    onward =
        let passed = walk-passes frame id k (ahead version frame id es) whole.place (omega (arith, h.low, h.high)) h.passes in
        let parts = ap length (probed-parts version frame id es) ∙ length-append whole.probes (walked version frame id es).probes in
        (searched-walks version frame id es ∙ passed.0, omega (arith, parts, passed.1, h.counted))

    pub walking-end : whole.place + length (ahead version frame id es) ≤ i →
        (Err 42 ≡ searched version frame id es) × (made ≡ length (probed version frame id es))
    walking-end l =
        let none : on ≡ stopped [] (Err 42) =
        ap (walk frame id (whole.place + k)) (drop_of_length-le (ahead version frame id es) {i = k} (omega (arith, h.low))) ∙ walk_end_lem frame id (whole.place + k) in
        (sym (onward.0 ∙ ap (λ w. w.answer) none), omega (arith, onward.1, ap (λ w. length w.probes) none))

    module _ (more : i < whole.place + length (ahead version frame id es)) where
      inside : k < length (ahead version frame id es)
      inside = omega (arith, h.low)

      -- the next probe is of the entry here
      pub walking-next : Next (probed version frame id es) made i
      walking-next =
          let reads = walk-reads frame id (ahead version frame id es) whole.place k inside h.passes in
          rw (probed-parts version frame id es) (record {
            more = omega (arith, length-append whole.probes (walked version frame id es).probes, h.counted);
            next =
                ap (λ n. get_or (whole.probes ++ (walked version frame id es).probes) n 0) h.counted
                ∙ get_or-append-add whole.probes (walked version frame id es).probes k 0
                ∙ walk-numbers frame id (ahead version frame id es) whole.place k reads ∙ (let q : whole.place + k ≡ i = omega (arith, h.low) in q);
          })

      -- on by the entry e that was read there, and the count
      module _ (e : Entry) (read : e ≡ get_or es i none) (count : ℕ) (counted : count ≡ made + 1) where
        there : get_or (ahead version frame id es) k none ≡ e
        there =
            reach-at version (drop whole.place es) k inside ∙ get_or-drop whole.place es k none
            ∙ ap (λ j. get_or es j none) (let q : whole.place + k ≡ i = omega (arith, h.low) in q) ∙ sym read

        here : drop k (ahead version frame id es) ≡ e ∷ drop (suc k) (ahead version frame id es)
        here = drop-cons (ahead version frame id es) k none inside ∙ ap (λ a. a ∷ drop (suc k) (ahead version frame id es)) there

        stops : (answer : Result Entry ℕ) →
            walk frame id (whole.place + k) (e ∷ drop (suc k) (ahead version frame id es)) ≡ stopped ((whole.place + k) ∷ []) answer →
            (answer ≡ searched version frame id es) × (count ≡ length (probed version frame id es))
        stops answer w =
            let last : on ≡ stopped ((whole.place + k) ∷ []) answer = ap (walk frame id (whole.place + k)) here ∙ w in
            (sym (onward.0 ∙ ap (λ w. w.answer) last), omega (arith, onward.1, ap (λ w. length w.probes) last))

        pub walking-other : (e.frame ≡ frame → ⊥) →
            (Err 42 ≡ searched version frame id es) × (count ≡ length (probed version frame id es))
        walking-other f = stops (Err 42) (walk-other frame id (whole.place + k) e _ f)

        pub walking-found : e.frame ≡ frame → e.id ≡ id →
            (Ok e ≡ searched version frame id es) × (count ≡ length (probed version frame id es))
        walking-found f d = stops (Ok e) (walk_here frame id (whole.place + k) e _ f d)

        pub walking_on : e.frame ≡ frame → (e.id ≡ id → ⊥) → Walking (i + 1) count
        walking_on f d = record {
          low = omega (arith, h.low);
          high = omega arith;
          passes = λ j l. below_more (λ j. ((get_or (ahead version frame id es) j none).frame ≡ frame) × ((get_or (ahead version frame id es) j none).id ≡ id → ⊥)) k
              h.passes (ap (λ a. a.frame) there ∙ f, λ c. d (sym (ap (λ a. a.id) there) ∙ c)) j (omega (arith, h.low));
          counted = omega (arith, h.counted, h.low);
        }

module _ (img : List ℕ) (q : Query) where
  abbrev es : List Entry
  es = slots_for img q

  slots : length es ≡ q.count
  slots = slots_length q.count img q.index

  -- no number of a slot wraps
  pub halving-high : (lo n made : ℕ) → Fits img q → Halving q.version q.frame q.id es lo n made → lo + n < 2 ^ 64
  halving-high lo n made f h = omega (arith, f.end, h.within, slots)

  pub place-high : (halved_for img q).place ≤ q.count
  place-high = omega (arith, (halved-ends q.version q.frame q.id es).high, slots)

  -- the walk ends where the entries end that it may read
  module _ (place : ℕ) (at : place ≡ (halved_for img q).place) (end : ℕ) (said : end ≡ walk_end q.version place q.count) where
    behind : length (drop (halved_for img q).place es) ≡ q.count - (halved_for img q).place
    behind = length-drop (halved_for img q).place es ∙ ap (λ n. n - (halved_for img q).place) slots

    pub ahead-end : end ≡ (halved_for img q).place + length (ahead q.version q.frame q.id es)
    unfolding walk_end
    ahead-end = said ∙ rw at (go (v10 q.version) refl)
      where
        go : (v : Bool) → v10 q.version ≡ v →
            walk_end q.version (halved_for img q).place q.count ≡ (halved_for img q).place + length (ahead q.version q.frame q.id es)
        go true r = rw (r, walk_end) (omega (arith, place-high, behind, ap length (reach-10 q.version r (drop (halved_for img q).place es))))
        go false r =
            rw (r, walk_end) (omega (
              arith,
              place-high,
              behind,
              ap length (reach-recent q.version r (drop (halved_for img q).place es)),
              length-take 1 (drop (halved_for img q).place es),
            ))

    pub end-high : end ≤ q.count
    end-high = omega (arith, ahead-end, behind, place-high, reach-most q.version (drop (halved_for img q).place es))
