-- The name list found name by name: a name from its start, and by the version what follows it; what is found so far, shown once
-- over the versions; and the two passes.
use Prim.Native.Nat.{ℕ, suc, zero, ◌+◌, ◌*◌, ◌-◌, ◌≤◌, ◌<◌}
use mathlib.Core.Path.{◌≡◌, refl, sym, ◌∙◌, ap, subst}
use mathlib.Core.Bool.{Bool, true, false, true≢false, not, ◌&&◌}
use mathlib.Core.List.{List, [], ◌∷◌, ◌++◌, map, append_assoc, append-nil}
use native.Mathlib.Nat.{add-zero, zero-add}
use native.Mathlib.Numerals.{add-one}
use native.Mathlib.Decide.{ℕ_discrete}
use native.Mathlib.Omega.{arith}
use lib.ListN.{length, get_or, set, length-set}
use Rattle.std.proofs.Common.{Option, Some, None, MatchOption}
use lib.Seq.{get_or-set_same, get_or-set_other}
use lib.Dec.{ltb, eqb}
use borrow.Author.Count.{below_more}
use borrow.Author.Tests.{lt-ltb, ne_eqb, eqb-true, not-false}
use Rattle.gsd_format.specs.declared.Layout.{Layout}
use Rattle.gsd_format.specs.declared.Part.{Part}
use Rattle.gsd_format.specs.Header.{v10}
use Rattle.gsd_format.specs.Names.{parts_at, segments_at, block_parts, bytes_of, flat, names_at, block_names}
use Rattle.gsd_format.specs.Opening.{most_names, unclosed_from, open_name}
use Rattle.gsd_format.proofs.Bytes.{part_length}
use Rattle.gsd_format.proofs.Names.{Full, flat-none, flat-size, parts-end, parts-open, parts-step}
use Rattle.gsd_format.proofs.Names.{parts-recent, parts-10, open-recent, open-10, names-behind}
use Rattle.gsd_format.proofs.Segments.{before-is, segments-none, segments-end, segments-more, open_none, open-end, open-here, open_more}
use Rattle.gsd_bytes.specs.Zeros.{FirstZero}
use Rattle.gsd_names.specs.NameLists.{start_at, part_at, parts_from, Span, Spans, Past, NamesFound}

-- A name found from its start, by the first zero

module _ (img : List ℕ) (start stop : ℕ) where
  pub past_end : start ≤ stop → FirstZero img start stop start → Past img start stop start
  past_end h z = record {
    above = omega arith;
    within = h;
    one = λ l. absurd (omega arith);
    none = λ _ n k l. absurd (n (z.here (omega arith)));
  }

  -- a name that is not closed
  pub past_open : start ≤ stop → FirstZero img start stop stop → Past img start stop start
  past_open h z = record {
    above = omega arith;
    within = h;
    one = λ l. absurd (omega arith);
    none = λ _ n k l. z.before (start + k) (omega arith) (omega arith);
  }

  pub past-name : (at : ℕ) → FirstZero img start stop at → (at ≡ start → ⊥) → (at ≡ stop → ⊥) → Past img start stop (at + 1)
  past-name at z a b = record {
    above = omega (arith, z.above);
    within = omega (arith, z.within);
    one = λ _. record {
      some = omega (arith, z.above);
      full = λ k l. z.before (start + k) (omega arith) (omega arith);
      closed = ap (λ i. get_or img i 0) (let e : start + (at + 1 - 1 - start) ≡ at = omega (arith, z.above) in e) ∙ z.here (omega (arith, z.within));
    };
    none = λ e. absurd (omega (arith, z.above));
  }

-- what holds where none is found
pub no-name : {P : Type 0} (Q : ℕ → Type 0) (r : Option ℕ) → MatchOption r P Q → ((x : ℕ) → r ≡ Some x → ⊥) → P
no-name Q None h n = h
no-name Q (Some x) h n = absurd (n x refl)

-- 2.x: that name and the rest, which begins behind it

module _ (img : List ℕ) (start stop r : ℕ) (p : Past img start stop r) where
  parts-one : start < r → parts_at img start start (stop - start) ≡ record { start = start; size = r - 1 - start } ∷ parts_at img r r (stop - r)
  parts-one l =
      let c = p.one l in
      let k : ℕ = r - 1 - start in
      ap (parts_at img start start) (let e : stop - start ≡ k + 1 + (stop - r) = omega (arith, p.within, c.some) in e)
      ∙ parts-step img start k (stop - r) c.some c.full c.closed
      ∙ ap (λ i. record { start = start; size = k } ∷ parts_at img i i (stop - r)) (let e : start + k + 1 ≡ r = omega (arith, c.some) in e)

  parts-done : r ≡ start → parts_at img start start (stop - start) ≡ []
  parts-done e = go (ℕ_discrete (get_or img start 0) 0)
    where
      go : Dec (get_or img start 0 ≡ 0) → parts_at img start start (stop - start) ≡ []
      go (yes z) = parts-end img start start (stop - start) refl z
      go (no n) = parts-open img start start (stop - start) (p.none e n)

-- 1.0: that name and the n segments behind its own

module _ (img : List ℕ) (start n r : ℕ) (p : Past img start (start + 64) r) where
  module _ (l : start < r) where
    first : get_or img start 0 ≡ 0 → ⊥
    first e = (p.one l).full 0 (p.one l).some (ap (λ i. get_or img i 0) (add-zero start) ∙ e)

    segments-one : segments_at img start (suc n) ≡ record { start = start; size = r - 1 - start } ∷ segments_at img (start + 64) n
    segments-one =
        let c = p.one l in
        segments-more img start n (r - 1 - start) first
        (before-is (r - 1 - start) img start 64 (omega (arith, p.within)) c.full (λ _. c.closed))

    open-on : unclosed_from img start (suc n) ≡ unclosed_from img (start + 64) n
    open-on = open_more img start n (r - 1 - start) first (omega (arith, p.within)) (p.one l).closed

  -- the first byte tells whether the list ends there or a name is open
  abbrev begun : Bool
  begun = not (eqb (get_or img start 0) 0)

  segments-done : r ≡ start → (unclosed_from img start (suc n) ≡ begun) × (begun ≡ false → segments_at img start (suc n) ≡ [])
  segments-done e = go (ℕ_discrete (get_or img start 0) 0)
    where
      go : Dec (get_or img start 0 ≡ 0) → (unclosed_from img start (suc n) ≡ begun) × (begun ≡ false → segments_at img start (suc n) ≡ [])
      go (yes z) = (open-end img start (suc n) z ∙ rw z, λ _. segments-end img start (suc n) z)
      go (no z) =
          let f : Full img start 64 = λ k l. p.none e z k (omega arith) in
          (open-here img start n z f ∙ rw (ne_eqb (get_or img start 0) 0 z), λ h. absurd (z (eqb-true (get_or img start 0) 0 (not-false _ h))))

-- Places kept one by one

-- a name's start depends on no place behind it
start-same : (v : Bool) (s t : List ℕ) (i : ℕ) → ((k : ℕ) → k ≤ i → get_or s k 0 ≡ get_or t k 0) → start_at v s i ≡ start_at v t i
start-same true s t i h = ap (λ a. a + 64 * i) (h 0 (omega arith))
start-same false s t i h = h i (omega arith)

start_first : (v : Bool) (starts : List ℕ) (at : ℕ) → get_or starts 0 0 ≡ at → start_at v starts 0 ≡ at
start_first true starts at e = omega arith
start_first false starts at e = e

from-snoc : (n : ℕ) (v : Bool) (starts : List ℕ) (i : ℕ) → parts_from v starts i (suc n) ≡ parts_from v starts i n ++ part_at v starts (i + n) ∷ []
unfolding parts_from
from-snoc zero v starts i = ap (λ k. part_at v starts k ∷ []) (sym (add-zero i))
from-snoc (suc n) v starts i =
    let e : i + 1 + n ≡ i + suc n = omega arith in
    ap (λ l. part_at v starts i ∷ l) (from-snoc n v starts (i + 1) ∙ ap (λ k. parts_from v starts (i + 1) n ++ part_at v starts k ∷ []) e)

from-same : (n : ℕ) (v : Bool) (s t : List ℕ) (i : ℕ) → ((k : ℕ) → k ≤ i + n → get_or s k 0 ≡ get_or t k 0) → parts_from v s i n ≡ parts_from v t i n
unfolding parts_from
from-same zero v s t i h = refl
from-same (suc n) v s t i h =
    let a : start_at v s i ≡ start_at v t i = start-same v s t i (λ k l. h k (omega arith)) in
    let b : get_or s (i + 1) 0 ≡ get_or t (i + 1) 0 = h (i + 1) (omega arith) in
    let r : parts_from v s (i + 1) n ≡ parts_from v t (i + 1) n = from-same n v s t (i + 1) (λ k l. h k (omega arith)) in
    λ j. record { start = a j; size = b j - 1 - a j } ∷ r j

-- where the next name starts, behind one that starts at start and whose zero stands before next
abbrev follows : Bool → ℕ → ℕ → ℕ
follows v start next = elim v [ true ↦ start + 64 | false ↦ next ]

-- one place more
module _ (starts : List ℕ) (count next : ℕ) (room : count + 1 < length starts) where
  put : List ℕ
  put = set starts (count + 1) next

  old : (k : ℕ) → k ≤ count → get_or put k 0 ≡ get_or starts k 0
  unfolding put
  old k h = get_or-set_other starts (count + 1) k next 0 (λ e. omega arith)

  new : get_or put (count + 1) 0 ≡ next
  unfolding put
  new = get_or-set_same starts (count + 1) next 0 room

  start-put : (v : Bool) (start : ℕ) → start_at v starts count ≡ start → start_at v put (count + 1) ≡ follows v start next
  start-put true start e = omega (arith, old 0 (omega arith))
  start-put false start e = new

  module _ (v : Bool) where
    old-start : (k : ℕ) → k ≤ count → start_at v put k ≡ start_at v starts k
    old-start k h = start-same v put starts k (λ j l. old j (omega arith))

    from-put : parts_from v put 0 (count + 1) ≡
        parts_from v starts 0 count ++ record { start = start_at v starts count; size = next - 1 - start_at v starts count } ∷ []
    from-put =
        let a : parts_from v put 0 count ≡ parts_from v starts 0 count = from-same count v put starts 0 (λ k l. old k (omega arith)) in
        let b : start_at v put count ≡ start_at v starts count = old-start count (omega arith) in
        ap (parts_from v put 0) (add-one count) ∙ from-snoc count v put 0 ∙ ap (λ k. parts_from v put 0 count ++ part_at v put k ∷ []) (zero-add count)
        ∙ λ j. a j ++ record { start = b j; size = new j - 1 - b j } ∷ []

    spans-put : (len : ℕ) → Spans v starts count len → count < most_names → start_at v starts count < next → next ≤ len → Spans v put (count + 1) len
    spans-put len h few some within =
        below_more (λ i. Span v put i len) count
        (λ i l.
        let a : start_at v put i ≡ start_at v starts i = old-start i (omega arith) in
        let b : get_or put (i + 1) 0 ≡ get_or starts (i + 1) 0 = old (i + 1) (omega arith) in
        record { kept = (h i l).kept; some = omega (arith, (h i l).some); within = omega (arith, (h i l).within) })
        (record { kept = few; some = omega (arith, old-start count (omega arith), new); within = omega (arith, new) })

-- In every version

-- count names are found, the next one starts at start, and the rest of the list goes on there
pub record Found (img : List ℕ) (l : Layout) (starts : List ℕ) (count start : ℕ) (rest : List Part) : Type 0 where
  pub long : length starts ≡ 1025
  pub counted : count + length rest ≡ length (block_parts img l)
  pub parts : count ≤ most_names → parts_from (v10 l.version) starts 0 count ++ rest ≡ block_parts img l
  pub last : count ≤ most_names → start_at (v10 l.version) starts count ≡ start
  pub spans : count ≤ most_names → Spans (v10 l.version) starts count (length img)

module _ (img : List ℕ) (l : Layout) where
  abbrev version : Bool
  version = v10 l.version

  found_none : (starts : List ℕ) → length starts ≡ 1025 → Found img l (set starts 0 l.namelist) 0 l.namelist (block_parts img l)
  unfolding parts_from
  found_none starts h = record {
    long = length-set starts 0 l.namelist ∙ h;
    counted = zero-add _;
    parts = λ _. refl;
    last = λ _. start_first version (set starts 0 l.namelist) l.namelist (get_or-set_same starts 0 l.namelist 0 (omega arith));
    spans = λ _ i u. absurd (omega arith);
  }

  found-more : (starts : List ℕ) (count start next : ℕ) (here rest : List Part) → Found img l starts count start here →
      start < next → next ≤ length img → here ≡ record { start = start; size = next - 1 - start } ∷ rest →
      Found img l (set starts (count + 1) next) (count + 1) (follows version start next) rest
  unfolding put
  found-more starts count start next here rest f some within e =
      let room : count + 1 ≤ most_names → count + 1 < length starts = λ h. omega (arith, f.long) in
      record {
        long = length-set starts (count + 1) next ∙ f.long;
        counted = omega (arith, f.counted, ap length e);
        parts = λ h.
            ap (λ ps. ps ++ rest) (from-put starts count next (room h) version
            ∙ ap (λ a. parts_from version starts 0 count ++ record { start = a; size = next - 1 - a } ∷ []) (f.last (omega arith)))
            ∙ append_assoc (parts_from version starts 0 count) (record { start = start; size = next - 1 - start } ∷ []) rest
            ∙ ap (λ ps. parts_from version starts 0 count ++ ps) (sym e) ∙ f.parts (omega arith);
        last = λ h. start-put starts count next (room h) version start (f.last (omega arith));
        spans = λ h.
            spans-put starts count next (room h) version (length img) (f.spans (omega arith))
            (omega arith) (omega (arith, f.last (omega arith))) within;
      }

  -- the end of the list, or a name that is open
  found_all : (starts : List ℕ) (count start : ℕ) (rest : List Part) → Found img l starts count start rest → (end : ℕ) (unclosed : Bool) →
      unclosed ≡ open_name img l (block_names img l) → (unclosed ≡ false → rest ≡ []) → l.namelist ≤ end →
      (version ≡ false → end ≡ l.namelist + length (flat (block_names img l))) →
      NamesFound img l starts (record { count = count; list_end = end; «open» = unclosed })
  found_all starts count start rest f end unclosed told none above behind = record {
    «open» = told;
    count = λ c. omega (arith, f.counted, ap length (none c));
    parts = λ c h. sym (append-nil _) ∙ ap (λ ps. parts_from version starts 0 count ++ ps) (sym (none c)) ∙ f.parts h;
    spans = λ _. f.spans;
    above = above;
    list_end = behind;
  }

  -- The pass of 2.x: the rest of the list begins behind the last name found

  abbrev stop : ℕ
  stop = l.namelist + 64 * l.segments

  pub record Joined (starts : List ℕ) (count start : ℕ) : Type 0 where
    pub found : Found img l starts count start (parts_at img start start (stop - start))
    pub within : start ≤ stop
    pub few : count ≤ start
    pub end : start + length (flat (names_at img start (stop - start))) ≡ l.namelist + length (flat (block_names img l))

  pub joined-none : version ≡ false → (starts : List ℕ) → length starts ≡ 1025 → Joined (set starts 0 l.namelist) 0 l.namelist
  joined-none r starts h =
      let q : 64 * l.segments ≡ stop - l.namelist = omega arith in
      let e : block_parts img l ≡ parts_at img l.namelist l.namelist (stop - l.namelist) =
      parts-recent img l r ∙ ap (parts_at img l.namelist l.namelist) q in
      record {
        found = rw e at (found_none starts h);
        within = omega arith;
        few = omega arith;
        end = ap (λ ps. l.namelist + length (flat (map (bytes_of img) ps))) (sym e);
      }

  pub joined-more : version ≡ false → stop ≤ length img → (starts : List ℕ) (count start next : ℕ) → Joined starts count start → start < next →
      Past img start stop next → Joined (set starts (count + 1) next) (count + 1) next
  joined-more r room starts count start next g some p =
      let rest : List Part = parts_at img next next (stop - next) in
      let here : Part = record { start = start; size = next - 1 - start } in
      record {
        found = rw r at (found-more starts count start next _ rest g.found some (omega (arith, p.within)) (parts-one img start stop next p some));
        within = p.within;
        few = omega (arith, g.few);
        end = omega (
          arith,
          g.end,
          ap (λ ps. length (flat (map (bytes_of img) ps))) (parts-one img start stop next p some),
          flat-size (bytes_of img here) (map (bytes_of img) rest),
          part_length img start (next - 1 - start) (omega (arith, p.within)),
        );
      }

  pub joined-all : version ≡ false → (starts : List ℕ) (count start : ℕ) → Joined starts count start → Past img start stop start →
      (unclosed : Bool) → unclosed ≡ (ltb start stop && not (eqb (get_or img start 0) 0)) →
      NamesFound img l starts (record { count = count; list_end = start; «open» = unclosed })
  joined-all r starts count start g p unclosed told =
      let e : parts_at img start start (stop - start) ≡ [] = parts-done img start stop start p refl in
      let end : start ≡ l.namelist + length (flat (block_names img l)) =
      omega (arith, g.end, ap (λ ps. length (flat (map (bytes_of img) ps))) e, ap length flat-none) in
      found_all starts count start _ g.found start unclosed
      (told ∙ names-behind img l (block_names img l) start end ∙ sym (open-recent img l (block_names img l) r)) (λ _. e) (omega arith) (λ _. end)

  -- The pass of 1.0: the segments that are left begin behind that of the last name found

  abbrev left : ℕ → ℕ
  left count = l.segments - count

  pub record Segmented (starts : List ℕ) (count start : ℕ) : Type 0 where
    pub found : Found img l starts count start (segments_at img start (left count))
    pub place : start ≡ l.namelist + 64 * count
    pub within : count ≤ l.segments
    pub unclosed : unclosed_from img start (left count) ≡ open_name img l (block_names img l)

  pub segmented-none : version ≡ true → (starts : List ℕ) → length starts ≡ 1025 → Segmented (set starts 0 l.namelist) 0 l.namelist
  segmented-none r starts h =
      let q : l.segments ≡ left 0 = omega arith in
      record {
        found = rw (parts-10 img l r ∙ ap (segments_at img l.namelist) q) at (found_none starts h);
        place = omega arith;
        within = omega arith;
        unclosed = ap (unclosed_from img l.namelist) (sym q) ∙ sym (open-10 img l (block_names img l) r);
      }

  module _ (r : version ≡ true) (starts : List ℕ) (count start : ℕ) (g : Segmented starts count start) where
    -- one segment of those left, and the others
    one : count < l.segments → left count ≡ suc (left (count + 1))
    one h = omega arith

    pub segmented-more : stop ≤ length img → count < l.segments → (next : ℕ) → start < next → Past img start (start + 64) next →
        Segmented (set starts (count + 1) next) (count + 1) (start + 64)
    segmented-more room h next some p =
        let rest : ℕ = left (count + 1) in
        record {
          found = rw r at (found-more starts count start next _ (segments_at img (start + 64) rest) g.found some
              (omega (arith, p.within, g.place)) (ap (segments_at img start) (one h) ∙ segments-one img start rest next p some));
          place = omega (arith, g.place);
          within = omega arith;
          unclosed = sym (open-on img start rest next p some) ∙ ap (unclosed_from img start) (sym (one h)) ∙ g.unclosed;
        }

    ends : (unclosed : Bool) → unclosed_from img start (left count) ≡ unclosed → (unclosed ≡ false → segments_at img start (left count) ≡ []) →
        NamesFound img l starts (record { count = count; list_end = start; «open» = unclosed })
    ends unclosed o e =
        found_all starts count start _ g.found start unclosed (sym o ∙ g.unclosed) e
        (omega (arith, g.place)) (λ f. absurd (true≢false (sym r ∙ f)))

    -- every segment has a name
    pub segmented-all : l.segments ≤ count → NamesFound img l starts (record { count = l.segments; list_end = start; «open» = false })
    segmented-all h =
        let all : count ≡ l.segments = omega (arith, g.within) in
        let e : left count ≡ 0 = omega arith in
        subst (λ (n : ℕ). NamesFound img l starts (record { count = n; list_end = start; «open» = false })) all
        (ends false (ap (unclosed_from img start) e ∙ open_none img start) (λ _. ap (segments_at img start) e ∙ segments-none img start))

    pub segmented-end : count < l.segments → Past img start (start + 64) start →
        (unclosed : Bool) → unclosed ≡ (ltb start stop && not (eqb (get_or img start 0) 0)) →
        NamesFound img l starts (record { count = count; list_end = start; «open» = unclosed })
    segmented-end h p unclosed told =
        let (o, s) = segments-done img start (left (count + 1)) start p refl in
        let byte : unclosed ≡ not (eqb (get_or img start 0) 0) = told ∙ rw (lt-ltb start stop (omega (arith, g.place))) in
        ends unclosed (ap (unclosed_from img start) (one h) ∙ o ∙ sym byte) (λ f. ap (segments_at img start) (one h) ∙ s (sym byte ∙ f))
