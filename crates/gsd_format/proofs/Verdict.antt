-- Laws of opening: the verdict is 0 exactly when each test's fact holds, and what the tests depend on.
use Rattle.std.specs.Prelude.{Ok, Err}
use Prim.Native.Nat.{ℕ, zero, suc, ◌+◌, ◌*◌, ◌^◌, ◌≤◌, ◌<◌}
use mathlib.Core.Path.{◌≡◌, refl, sym, ◌∙◌}
use mathlib.Core.Bool.{Bool, true, false}
use mathlib.Core.Logic.{◌↔◌}
use mathlib.Core.List.{List, [], ◌∷◌}
use native.Mathlib.Omega.{arith}
use lib.ListN.{length, get_or, take, length-take}
use lib.Seq.{get_or-take, ext_get_or}
use borrow.Author.Tests.{ltb-false, leb-false, not-false, le-ltb, lt-leb}
use Rattle.gsd_format.specs.declared.Entry.{Entry}
use Rattle.gsd_format.specs.declared.Layout.{Layout}
use Rattle.gsd_format.specs.Bytes.{le, zero_in, Apart}
use Rattle.gsd_format.specs.Refusals.{◌⇒◌, ◌▹◌}
use Rattle.gsd_format.specs.Types.{known, chunk_size}
use Rattle.gsd_format.specs.Header.{magic, supported, header_size, least_length, greatest_length, version_of, layout_of}
use Rattle.gsd_format.specs.Names.{names_of}
use Rattle.gsd_format.specs.Entries.{entries_of}
use Rattle.gsd_format.specs.Opening.{header_test, blocks_test, Blocks, names_test, greatest_frame, misplaced, entry_test, entries_test}
use Rattle.gsd_format.specs.Opening.{verdict, counts_of, opening}
use Rattle.gsd_format.specs.Lookup.{none}
use Rattle.gsd_format.proofs.Refusals.{both, none_of, unmet, passed, neither, neither-of, not-of}
use Rattle.gsd_format.proofs.Refusals.{not-less, less-no, first-most, test-most}
use Rattle.gsd_format.proofs.Bytes.{Same, same_from, le_same, same-eq, eq-same, zero_in-same, meets-apart, apart-meets}
use Rattle.gsd_format.proofs.Entries.{ShortIds}
use Rattle.gsd_format.proofs.Arranged.{Arranged}

-- 1 to 5
pub record Front (x : List ℕ) : Type 0 where
  pub low : least_length ≤ length x
  pub high : length x ≤ greatest_length
  pub marked : take 8 x ≡ magic
  pub versioned : supported (version_of x) ≡ true
  pub application : zero_in x 48 64 ≡ true
  pub schema : zero_in x 112 64 ≡ true

pub header-zero : (x : List ℕ) → header_test x ≡ 0 ↔ Front x
unfolding header_test
header-zero x = (to, from)
  where
    to : header_test x ≡ 0 → Front x
    to h =
        let a = both _ _ h in
        let b = both _ _ a.1 in
        let c = both _ _ b.1 in
        let d = both _ _ c.1 in
        let e = neither _ _ (unmet _ _ d.1) in
        record {
          low = not-less _ _ _ a.0;
          high = not-less _ _ _ b.0;
          marked = same-eq _ _ (not-false _ (unmet _ _ c.0));
          versioned = not-false _ (unmet _ _ d.0);
          application = not-false _ e.0;
          schema = not-false _ e.1;
        }

    from : Front x → header_test x ≡ 0
    from f =
        none_of _ _ (less-no _ _ _ f.low) (none_of _ _ (less-no _ _ _ f.high)
        (none_of _ _ (passed _ _ (not-of _ (eq-same _ _ f.marked))) (none_of _ _ (passed _ _ (not-of _ f.versioned))
        (passed _ _ (neither-of _ _ (not-of _ f.application) (not-of _ f.schema))))))

-- 6 to 8
pub blocks-zero : (l : Layout) → blocks_test l ≡ 0 ↔ Blocks l
unfolding blocks_test
blocks-zero l = (to, from)
  where
    to : blocks_test l ≡ 0 → Blocks l
    to h =
        let a = both _ _ h in
        let b = both _ _ a.1 in
        let i = neither _ _ (unmet _ _ a.0) in
        let n = neither _ _ (unmet _ _ b.0) in
        record {
          index_low = ltb-false _ _ i.0;
          index_high = ltb-false _ _ i.1;
          namelist_low = ltb-false _ _ n.0;
          namelist_high = ltb-false _ _ n.1;
          apart = meets-apart _ _ _ _ (unmet _ _ b.1);
        }

    from : Blocks l → blocks_test l ≡ 0
    from b =
        none_of _ _ (passed _ _ (neither-of _ _ (le-ltb _ _ b.index_low) (le-ltb _ _ b.index_high)))
        (none_of _ _ (passed _ _ (neither-of _ _ (le-ltb _ _ b.namelist_low) (le-ltb _ _ b.namelist_high)))
        (passed _ _ (apart-meets _ _ _ _ b.apart)))

-- 12 to 18 but for the order: the entry alone, with so many names
pub record Sound (l : Layout) (names : ℕ) (e : Entry) : Type 0 where
  pub low : header_size ≤ e.location
  pub high : e.location < 2 ^ 63
  pub typed : known l.version e.kind ≡ true
  pub named : e.id < names
  pub within : e.location + chunk_size e ≤ l.len
  pub off_index : Apart e.location (chunk_size e) l.index (32 * l.slots)
  pub off_names : Apart e.location (chunk_size e) l.namelist (64 * l.segments)
  pub early : e.frame ≤ greatest_frame

pub entry_zero : (l : Layout) (names : ℕ) (before : List Entry) (e : Entry) →
    entry_test l names before e ≡ 0 ↔ Sound l names e × (misplaced l.version before e ≡ false)
unfolding entry_test
entry_zero l names before e = (to, from)
  where
    to : entry_test l names before e ≡ 0 → Sound l names e × (misplaced l.version before e ≡ false)
    to h =
        let a = both _ _ h in
        let b = both _ _ a.1 in
        let c = both _ _ b.1 in
        let d = both _ _ c.1 in
        let f = both _ _ d.1 in
        let g = both _ _ f.1 in
        let place = neither _ _ (unmet _ _ a.0) in
        let off = neither _ _ (unmet _ _ g.0) in (
          record {
            low = ltb-false _ _ place.0;
            high = leb-false _ _ place.1;
            typed = not-false _ (unmet _ _ b.0);
            named = leb-false _ _ (unmet _ _ c.0);
            within = not-less _ _ _ f.0;
            off_index = meets-apart _ _ _ _ off.0;
            off_names = meets-apart _ _ _ _ off.1;
            early = not-less _ _ _ g.1;
          },
          unmet _ _ d.0,
        )

    from : Sound l names e × (misplaced l.version before e ≡ false) → entry_test l names before e ≡ 0
    from (s, a) =
        none_of _ _ (passed _ _ (neither-of _ _ (le-ltb _ _ s.low) (lt-leb _ _ s.high)))
        (none_of _ _ (passed _ _ (not-of _ s.typed))
        (none_of _ _ (passed _ _ (lt-leb _ _ s.named))
        (none_of _ _ (passed _ _ a)
        (none_of _ _ (less-no _ _ _ s.within)
        (none_of _ _ (passed _ _ (neither-of _ _ (apart-meets _ _ _ _ s.off_index) (apart-meets _ _ _ _ s.off_names)))
        (less-no _ _ _ s.early))))))

-- 12 to 18: every entry is sound, and they are in order
abbrev pub AllSound : Layout → ℕ → List Entry → Type 0
AllSound l names es = (i : ℕ) → i < length es → Sound l names (get_or es i none)

pub entries-zero : (es : List Entry) (l : Layout) (names : ℕ) (before : List Entry) →
    entries_test l names before es ≡ 0 ↔ AllSound l names es × Arranged l.version before es
unfolding entries_test
entries-zero [] l names before = (λ h. (λ i u. absurd (omega arith), tt), λ p. refl)
entries-zero (e ∷ es) l names before = (to (entries-zero es l names (e ∷ before)).0, from (entries-zero es l names (e ∷ before)).1)
  where
    to : (entries_test l names (e ∷ before) es ≡ 0 → AllSound l names es × Arranged l.version (e ∷ before) es) →
        entries_test l names before (e ∷ es) ≡ 0 → AllSound l names (e ∷ es) × Arranged l.version before (e ∷ es)
    to r h =
        let p = both _ _ h in
        let a = (entry_zero l names before e).0 p.0 in
        let b = r p.1 in
        (elim [ zero ↦ λ u. a.0 | suc i ↦ λ u. b.0 i (omega arith) ], (a.1, b.1))

    from : (AllSound l names es × Arranged l.version (e ∷ before) es → entries_test l names (e ∷ before) es ≡ 0) →
        AllSound l names (e ∷ es) × Arranged l.version before (e ∷ es) → entries_test l names before (e ∷ es) ≡ 0
    from r (s, o) = none_of _ _ ((entry_zero l names before e).1 (s 0 (omega arith), o.0)) (r (λ i u. s (suc i) (omega arith), o.1))

-- ids that are places of names are of 16 bits
pub sound-ids : (es : List Entry) (l : Layout) (names : ℕ) → names ≤ 65536 → AllSound l names es → ShortIds es
sound-ids es l names h s i u = omega (arith, (s i u).named)

-- the verdict is 0 exactly when each part's number is
pub verdict-parts : (x : List ℕ) → verdict x ≡ 0 ↔
    (header_test x ≡ 0) × (blocks_test (layout_of x) ≡ 0) × (names_test x (layout_of x) (names_of x) ≡ 0) ×
    (entries_test (layout_of x) (length (names_of x)) [] (entries_of x) ≡ 0)
unfolding verdict
verdict-parts x = (to, λ p. none_of _ _ p.0 (none_of _ _ p.1 (none_of _ _ p.2 p.3)))
  where
    to : verdict x ≡ 0 → (header_test x ≡ 0) × (blocks_test (layout_of x) ≡ 0) × (names_test x (layout_of x) (names_of x) ≡ 0) ×
        (entries_test (layout_of x) (length (names_of x)) [] (entries_of x) ≡ 0)
    to h =
        let a = both _ _ h in
        let b = both _ _ a.1 in
        let c = both _ _ b.1 in
        (a.0, b.0, c.0, c.1)

-- an image opens: the facts behind its verdict
pub record Opens (x : List ℕ) : Type 0 where
  pub front : Front x
  pub blocks : Blocks (layout_of x)
  pub names : names_test x (layout_of x) (names_of x) ≡ 0
  pub sound : AllSound (layout_of x) (length (names_of x)) (entries_of x)
  pub arranged : Arranged (layout_of x).version [] (entries_of x)

pub verdict-zero : (x : List ℕ) → verdict x ≡ 0 ↔ Opens x
verdict-zero x = (to, from)
  where
    to : verdict x ≡ 0 → Opens x
    to h =
        let p = (verdict-parts x).0 h in
        let e = (entries-zero (entries_of x) (layout_of x) (length (names_of x)) []).0 p.3 in
        record { front = (header-zero x).0 p.0; blocks = (blocks-zero (layout_of x)).0 p.1; names = p.2; sound = e.0; arranged = e.1 }

    from : Opens x → verdict x ≡ 0
    from o = (verdict-parts x).1 (
      (header-zero x).1 o.front,
      (blocks-zero (layout_of x)).1 o.blocks,
      o.names,
      (entries-zero (entries_of x) (layout_of x) (length (names_of x)) []).1 (o.sound, o.arranged),
    )

-- no number of opening is above 18
then : (t : Bool) (n b : ℕ) → n ≤ 18 → b ≤ 18 → ((t ⇒ n) ▹ b) ≤ 18
then t n b h g = first-most 18 (t ⇒ n) b (test-most 18 t n h) g

entries-most : (es : List Entry) (l : Layout) (names : ℕ) (before : List Entry) → entries_test l names before es ≤ 18
unfolding entries_test entry_test
entries-most [] l names before = omega arith
entries-most (e ∷ es) l names before = first-most 18 _ _
    (then _ 12 _ (omega arith) (then _ 13 _ (omega arith) (then _ 14 _ (omega arith) (then _ 15 _ (omega arith)
    (then _ 16 _ (omega arith) (then _ 17 _ (omega arith) (test-most 18 _ 18 (omega arith))))))))
    (entries-most es l names (e ∷ before))

pub verdict-most : (x : List ℕ) → verdict x ≤ 18
unfolding verdict header_test blocks_test names_test
verdict-most x =
    first-most 18 _ _
    (then _ 1 _ (omega arith) (then _ 2 _ (omega arith) (then _ 3 _ (omega arith) (then _ 4 _ (omega arith) (test-most 18 _ 5 (omega arith))))))
    (first-most 18 _ _ (then _ 6 _ (omega arith) (then _ 7 _ (omega arith) (test-most 18 _ 8 (omega arith))))
    (first-most 18 _ _ (then _ 9 _ (omega arith) (then _ 10 _ (omega arith) (test-most 18 _ 11 (omega arith))))
    (entries-most (entries_of x) (layout_of x) (length (names_of x)) [])))

-- the answer
pub opening-open : (x : List ℕ) → verdict x ≡ 0 → opening x ≡ Ok (counts_of x)
unfolding opening
opening-open x h = rw (h, opening)

pub opening-refused : (x : List ℕ) (number : ℕ) → verdict x ≡ suc number → opening x ≡ Err (suc number)
unfolding opening
opening-refused x number h = rw (h, opening)

-- What the header's numbers depend on

-- the layout stands in bytes 8 to 47
pub layout-same : (x y : List ℕ) → length x ≡ length y → Same x 8 y 8 40 → layout_of x ≡ layout_of y
unfolding layout_of
layout-same x y l h =
    let index : le 8 x 8 ≡ le 8 y 8 = le_same 8 x 8 y 8 (λ k u. h k (omega arith)) in
    let slots : le 8 x 16 ≡ le 8 y 16 = le_same 8 x 16 y 16 (λ k u. same_from x 8 y 8 8 32 h k (omega arith)) in
    let namelist : le 8 x 24 ≡ le 8 y 24 = le_same 8 x 24 y 24 (λ k u. same_from x 8 y 8 16 24 h k (omega arith)) in
    let segments : le 8 x 32 ≡ le 8 y 32 = le_same 8 x 32 y 32 (λ k u. same_from x 8 y 8 24 16 h k (omega arith)) in
    let version : version_of x ≡ version_of y = le_same 4 x 44 y 44 (λ k u. same_from x 8 y 8 36 4 h k (omega arith)) in
    λ i. record { len = l i; version = version i; index = index i; slots = slots i; namelist = namelist i; segments = segments i }

-- numbers 1 to 5 depend on the length and on the other bytes of the header alone
pub header-same : (x y : List ℕ) → length x ≡ length y →
    ((p : ℕ) → p < header_size → (8 ≤ p → p < 40 → ⊥) → get_or x p 0 ≡ get_or y p 0) → header_test x ≡ header_test y
unfolding header_test
header-same x y l h =
    let marks : take 8 x ≡ take 8 y = ext_get_or 0 (take 8 x) (take 8 y) (simp length-take (omega arith)) mark in
    let versions : version_of x ≡ version_of y = le_same 4 x 44 y 44 (λ k u. h (44 + k) (omega arith) (omega arith)) in
    let applications : zero_in x 48 64 ≡ zero_in y 48 64 = zero_in-same 64 x 48 y 48 (λ k u. h (48 + k) (omega arith) (omega arith)) in
    let schemas : zero_in x 112 64 ≡ zero_in y 112 64 = zero_in-same 64 x 112 y 112 (λ k u. h (112 + k) (omega arith) (omega arith)) in
    cc
  where
    mark : (i : ℕ) → i < length (take 8 x) → get_or (take 8 x) i 0 ≡ get_or (take 8 y) i 0
    mark i u =
        let v : i < 8 = omega (arith, length-take 8 x) in
        get_or-take 8 x i 0 v ∙ h i (omega arith) (omega arith) ∙ sym (get_or-take 8 y i 0 v)

pub front_same : (x y : List ℕ) → length x ≡ length y →
    ((p : ℕ) → p < header_size → (8 ≤ p → p < 40 → ⊥) → get_or x p 0 ≡ get_or y p 0) → Front x → Front y
front_same x y l h f = (header-zero y).0 (sym (header-same x y l h) ∙ (header-zero x).1 f)
