-- Laws of one entry's tests and of the walk: a size that is capped, the chain in its four parts, 15 by what the walk keeps, the
-- entries passed, and the answer at a bad entry and at the end.
use Prim.Native.Nat.{ℕ, ◌+◌, ◌*◌, ◌^◌, ◌≤◌, ◌<◌, max, min}
use mathlib.Core.Path.{◌≡◌, refl, sym, ◌∙◌, ap}
use mathlib.Core.Bool.{Bool, true, false, ◌||◌}
use mathlib.Core.List.{List, [], ◌∷◌}
use native.Mathlib.Nat.{mul_comm, mul_assoc, mul-le-mul, mul-le-mul_left}
use native.Mathlib.Decide.{dec_lt, ℕ_discrete}
use native.Mathlib.Omega.{arith}
use lib.ListN.{length, get_or, set, length-set}
use lib.Dec.{ltb, eqb}
use borrow.Author.Tests.{lt-ltb, le-ltb, ltb-false, leb-false, ne_eqb}
use Rattle.gsd_format.specs.declared.Entry.{Entry}
use Rattle.gsd_format.specs.declared.Layout.{Layout}
use Rattle.gsd_format.specs.declared.refusal.Refusal.{Refusal}
use Rattle.gsd_format.specs.Answers.{refusal_number}
use Rattle.gsd_format.specs.Types.{chunk_size}
use Rattle.gsd_format.specs.Refusals.{◌▹◌}
use Rattle.gsd_format.specs.Header.{v10, header_size, greatest_length}
use Rattle.gsd_format.specs.Entries.{key_of, key}
use Rattle.gsd_format.specs.Opening.{most_names, greatest_frame, misplaced, entry_test, entries_test}
use Rattle.gsd_format.proofs.Refusals.{▹-assoc, first_of, last_of, left-holds, stays, decides, goes_on, met, both, unmet, less-no, neither, neither-of, refusal-some}
use Rattle.gsd_format.proofs.Arranged.{least_of, ShortLast, misplaced-recent, misplaced-10}
use Rattle.gsd_format.proofs.Walk.{Walked, walked_none, walked_more, walked_all, walked-bad}
use Rattle.gsd_format.proofs.Verdict.{Sound, entry_zero}
use Rattle.gsd_open.specs.Index.{keys_end, frames_to, Capped, fields_test, room_test, misplaced_by, entry_test_if, entry_test_by, noted, Places, Unnoted, Walks}
use Rattle.gsd_open.proofs.LastFrames.{Down, last_none, repeated-last, LastFrames, last-noted}

-- A size that is capped

-- a product with a factor that is more than any slice has, and stays so
big : (a b x y : ℕ) → greatest_length < a → greatest_length < x → (b ≡ 0 → y ≡ 0) → (0 < b → 0 < y) → x * y ≤ 2 ^ 63 → Capped (a * b) (x * y)
big a b x y h g z p f = go (ℕ_discrete b 0)
  where
    go : Dec (b ≡ 0) → Capped (a * b) (x * y)
    go (yes e) =
        let e' : y ≡ 0 = z e in
        let w : a * b ≡ 0 = rw e (omega arith) in
        let r : x * y ≡ 0 = rw e' (omega arith) in
        record { exact = λ _. r ∙ sym w; beyond = λ l. absurd (omega arith); fits = f }
    go (no e) =
        let w : a * 1 ≤ a * b = mul-le-mul_left a (omega arith) in
        let q : 0 < y = p (omega arith) in
        let r : x * 1 ≤ x * y = mul-le-mul_left x q in
        record { exact = λ l. absurd (omega arith); beyond = λ _. omega arith; fits = f }

-- cut just above the longest slice
abbrev pub cut : ℕ → ℕ
cut a = min a (greatest_length + 1)

-- a product of two numbers that are cut
pub capped-product : (a b : ℕ) → Capped (a * b) (cut a * cut b)
capped-product a b = go (dec_lt greatest_length a) (dec_lt greatest_length b)
  where
    fits : cut a * cut b ≤ 2 ^ 63
    fits = omega (arith, mul-le-mul {n₁ = cut a} {m₁ = cut b} {n₂ = greatest_length + 1} {m₂ = greatest_length + 1} (omega arith) (omega arith))

    go : Dec (greatest_length < a) → Dec (greatest_length < b) → Capped (a * b) (cut a * cut b)
    go (yes h) d = big a b (cut a) (cut b) h (omega arith) (omega arith) (omega arith) fits
    go (no h) (yes d) =
        rw (mul_comm a b, mul_comm (cut a) (cut b))
        (big b a (cut b) (cut a) d (omega arith) (omega arith) (omega arith) (rw (mul_comm (cut b) (cut a)) fits))
    go (no h) (no d) =
        let p : cut a ≡ a = omega arith in
        let q : cut b ≡ b = omega arith in
        record { exact = λ _ i. p i * q i; beyond = λ w. rw (p, q) w; fits = fits }

-- the same for a chunk's N, M and element size
pub capped-chunk : (n m size x y : ℕ) → x ≡ cut n → y ≡ cut (m * size) → Capped (n * m * size) (x * y)
capped-chunk n m size x y p q = rw (p, q, mul_assoc) (capped-product n (m * size))

-- beyond every slice the very size does not matter
room-capped : (l : Layout) (a whole r : ℕ) → l.len ≤ greatest_length → Capped whole r → room_test l a whole ≡ room_test l a r
unfolding room_test
room-capped l a whole r b c = go (dec_lt greatest_length whole)
  where
    go : Dec (greatest_length < whole) → room_test l a whole ≡ room_test l a r
    go (yes h) = decides _ 15 _ (lt-ltb l.len (a + whole) (omega arith)) ∙ sym (decides _ 15 _ (lt-ltb l.len (a + r) (omega (arith, c.beyond h))))
    go (no h) = ap (room_test l a) (sym (c.exact (omega arith)))

-- The chain

entry-split : (l : Layout) (names : ℕ) (before : List Entry) (e : Entry) →
    entry_test l names before e ≡ entry_test_if l names (misplaced l.version before e) e
unfolding entry_test fields_test room_test
entry-split l names before e = simp ▹-assoc

pub entry-by : (l : Layout) (names least : ℕ) (last : List ℕ) (e : Entry) →
    entry_test_by l names least last e ≡ entry_test_if l names (misplaced_by l.version least last e) e
unfolding entry_test_by
entry-by l names least last e = refl

pub fields-place : (version names : ℕ) (e : Entry) → fields_test version names e ≡ 0 → e.location < 2 ^ 63
unfolding fields_test
fields-place version names e h = leb-false (2 ^ 63) e.location (neither (ltb e.location header_size) _ (unmet _ 11 (both _ _ h).0)).1

pub fields-id : (version names : ℕ) (e : Entry) → fields_test version names e ≡ 0 → e.id < names
unfolding fields_test
fields-id version names e h = leb-false names e.id (unmet _ 13 (both _ _ (both _ _ h).1).1)

-- 15 by what the walk keeps

module _ (version : ℕ) (is : v10 version ≡ true) where
  pub place-10 : (least : ℕ) (last : List ℕ) (e : Entry) →
      misplaced_by version least last e ≡ (ltb (key_of (e.frame + 1) 0) least || eqb (get_or last e.id 0) (e.frame + 1))
  unfolding misplaced_by
  place-10 least last e = rw (is, misplaced_by)

  pub noted-10 : (last : List ℕ) (e : Entry) → noted version last e ≡ set last e.id (e.frame + 1)
  unfolding noted
  noted-10 last e = rw (is, noted)

module _ (version : ℕ) (recent : v10 version ≡ false) where
  pub place-recent : (least : ℕ) (last : List ℕ) (e : Entry) → misplaced_by version least last e ≡ ltb (key e) least
  unfolding misplaced_by
  place-recent least last e = rw (recent, misplaced_by)

  pub noted-recent : (last : List ℕ) (e : Entry) → noted version last e ≡ last
  unfolding noted
  noted-recent last e = rw (recent, noted)

pub noted-long : (version : ℕ) (last : List ℕ) (e : Entry) → length (noted version last e) ≡ length last
noted-long version last e = go (v10 version) refl
  where
    go : (v : Bool) → v10 version ≡ v → length (noted version last e) ≡ length last
    go true r = ap length (noted-10 version r last e) ∙ length-set last e.id (e.frame + 1)
    go false r = ap length (noted-recent version r last e)

-- an entry above the greatest frame is never misplaced: no frame that was noted is as high
place-late : (version least : ℕ) (last : List ℕ) (e : Entry) → least ≤ keys_end → get_or last e.id 0 < 2 ^ 32 → greatest_frame < e.frame →
    misplaced_by version least last e ≡ false
place-late version least last e h b late = go (v10 version) refl
  where
    go : (v : Bool) → v10 version ≡ v → misplaced_by version least last e ≡ false
    go true r =
        place-10 version r least last e
        ∙ neither-of _ _ (le-ltb (key_of (e.frame + 1) 0) least (omega arith)) (ne_eqb (get_or last e.id 0) (e.frame + 1) (λ q. omega arith))
    go false r = place-recent version r least last e ∙ le-ltb (key e) least (omega arith)

-- the entry's test where 12 to 14 do not refuse it, by its frame
module _ (l : Layout) (names least : ℕ) (last : List ℕ) (e : Entry) (size : ℕ) (short : l.len ≤ greatest_length) where
  pub late-test : least ≤ keys_end → get_or last e.id 0 < 2 ^ 32 → Capped (chunk_size e) size → fields_test l.version names e ≡ 0 →
      greatest_frame < e.frame → entry_test_by l names least last e ≡ room_test l e.location size ▹ 18
  late-test h b sized good late =
      entry-by l names least last e ∙ first_of _ _ good ∙ goes_on _ 15 _ (place-late l.version least last e h b late)
      ∙ (λ i. room-capped l e.location (chunk_size e) size short sized i ▹ met _ 18 (lt-ltb greatest_frame e.frame late) i)

  pub early-test : Capped (chunk_size e) size → fields_test l.version names e ≡ 0 → misplaced_by l.version least last e ≡ false →
      e.frame ≤ greatest_frame → entry_test_by l names least last e ≡ room_test l e.location size
  early-test sized good placed early =
      entry-by l names least last e ∙ first_of _ _ good ∙ goes_on _ 15 _ placed ∙ last_of _ _ (less-no greatest_frame e.frame 18 early)
      ∙ room-capped l e.location (chunk_size e) size short sized

-- The entries passed, the last of them first: what the walk keeps tells of them all that 15 asks
pub record Passed (l : Layout) (names : ℕ) (all : List Entry) (least end many : ℕ) (last : List ℕ) (rest : List Entry) : Type 0 where
  pub before : List Entry
  pub walked : Walked l names all before (frames_to least) end many rest
  pub follows : least ≡ least_of before
  pub high : least ≤ keys_end
  pub short : ShortLast before
  pub down : (frame : ℕ) → frames_to least ≤ frame + 1 → Down frame before
  pub places : v10 l.version ≡ true → length last ≡ most_names
  pub frames : v10 l.version ≡ true → LastFrames most_names last before

pub passed_none : (l : Layout) (names : ℕ) (all : List Entry) (last : List ℕ) → Unnoted l.version last → Passed l names all 0 0 0 last all
unfolding least_of
passed_none l names all last u = record {
  before = [];
  walked = walked_none l names all;
  follows = refl;
  high = omega arith;
  short = tt;
  down = λ f h. tt;
  places = λ v. (u v).0;
  frames = λ v id h. (u v).1 id h ∙ sym (last_none id);
}

module _ (l : Layout) (names : ℕ) (few : names ≤ most_names) (all : List Entry) (least end many : ℕ) (last : List ℕ) (rest : List Entry)
    (p : Passed l names all least end many last rest) (e : Entry) where
  pub passed-places : Places l.version names last
  passed-places v = omega (arith, p.places v)

  place-told : e.id < names → misplaced_by l.version least last e ≡ misplaced l.version p.before e
  place-told h = go (v10 l.version) refl (dec_lt (key_of (e.frame + 1) 0) least)
    where
      go : (v : Bool) → v10 l.version ≡ v → Dec (key_of (e.frame + 1) 0 < least) →
          misplaced_by l.version least last e ≡ misplaced l.version p.before e
      go true r (yes b) =
          place-10 l.version r least last e ∙ left-holds _ _ (lt-ltb (key_of (e.frame + 1) 0) least b)
          ∙ sym (misplaced-10 l.version p.before e r p.short
          ∙ left-holds _ _ (lt-ltb (key_of (e.frame + 1) 0) (least_of p.before) (omega (arith, p.follows))))
      go true r (no b) =
          place-10 l.version r least last e
          ∙ (λ i. ltb (key_of (e.frame + 1) 0) (p.follows i) || eqb (p.frames r e.id (omega arith) i) (e.frame + 1))
          ∙ ap (λ t. ltb (key_of (e.frame + 1) 0) (least_of p.before) || t) (sym (repeated-last p.before e (p.down e.frame (omega arith))))
          ∙ sym (misplaced-10 l.version p.before e r p.short)
      go false r b = place-recent l.version r least last e ∙ ap (ltb (key e)) p.follows ∙ sym (misplaced-recent l.version p.before e r)

  -- so the test by them is the entry's test: where 12 to 14 apply they do not matter
  pub test-told : entry_test_by l names least last e ≡ entry_test l names p.before e
  test-told = entry-by l names least last e ∙ go (ℕ_discrete (fields_test l.version names e) 0) ∙ sym (entry-split l names p.before e)
    where
      go : Dec (fields_test l.version names e ≡ 0) →
          entry_test_if l names (misplaced_by l.version least last e) e ≡ entry_test_if l names (misplaced l.version p.before e) e
      go (yes z) = ap (λ t. entry_test_if l names t e) (place-told (fields-id l.version names e z))
      go (no n) = stays _ _ n ∙ sym (stays _ _ n)

  module _ (said : 0 ≡ entry_test_by l names least last e) where
    pub told-good : entry_test l names p.before e ≡ 0
    told-good = sym (said ∙ test-told)

    pub told-sound : Sound l names e
    told-sound = ((entry_zero l names p.before e).0 told-good).0

  -- a good entry is passed
  pub passed-more : (es : List Entry) (least' end' : ℕ) (last' : List ℕ) → rest ≡ e ∷ es → entry_test l names p.before e ≡ 0 →
      least' ≡ key e + 1 → end' ≡ max end (e.location + chunk_size e) → last' ≡ noted l.version last e →
      Passed l names all least' end' (many + 1) last' es
  unfolding least_of
  passed-more es least' end' last' next good n t k =
      let (sound, placed) = (entry_zero l names p.before e).0 good in
      let frames : frames_to least' ≡ e.frame + 1 = omega (arith, sound.named) in
      record {
        before = e ∷ p.before;
        walked = rw (frames, t) (walked_more l names all p.before (frames_to least) end many rest e es p.walked next good);
        follows = n;
        high = omega (arith, sound.named, sound.early);
        short = omega (arith, sound.named);
        down = λ f h. (omega arith, p.down e.frame (rises (omega (arith, sound.named)) placed));
        places = λ v. ap length k ∙ noted-long l.version last e ∙ p.places v;
        frames = λ v. rw (k ∙ noted-10 l.version v last e) (last-noted most_names last p.before e (omega (arith, sound.named, p.places v)) (p.frames v));
      }
    where
      -- its frame is not below that of the entry before
      rises : e.id < 65536 → misplaced l.version p.before e ≡ false → frames_to least ≤ e.frame + 1
      rises s h = go (v10 l.version) refl
        where
          go : (v : Bool) → v10 l.version ≡ v → frames_to least ≤ e.frame + 1
          go true r =
              omega (
                arith,
                p.follows,
                ltb-false (key_of (e.frame + 1) 0) (least_of p.before) (neither _ _ (sym (misplaced-10 l.version p.before e r p.short) ∙ h)).0,
              )
          go false r = omega (arith, p.follows, ltb-false (key e) (least_of p.before) (sym (misplaced-recent l.version p.before e r) ∙ h))

-- The walk's two ways out

pub walk_ends : (l : Layout) (names : ℕ) (all : List Entry) (least end many : ℕ) (last : List ℕ) (rest : List Entry) →
    Passed l names all least end many last rest → rest ≡ [] →
    (0 ≡ entries_test l names [] all) × Walks all (record { entries = many; least = least; chunks_end = end })
walk_ends l names all least end many last rest p z =
    let a = walked_all l names all p.before (frames_to least) end many rest p.walked z in
    (sym a.0, record { entries = sym a.1; high = p.high; frames = sym a.2; chunks = sym a.3 })

pub walk-refuses : (l : Layout) (names : ℕ) (all : List Entry) (least end many : ℕ) (last : List ℕ) (rest : List Entry) (e : Entry) (es : List Entry)
    (r : Refusal) (p : Passed l names all least end many last rest) → rest ≡ e ∷ es → refusal_number r ≡ entry_test l names p.before e →
    refusal_number r ≡ entries_test l names [] all
walk-refuses l names all least end many last rest e es r p q h =
    h ∙ sym (walked-bad l names all p.before (frames_to least) end many rest e es p.walked q (λ z. omega (arith, refusal-some r, h, z)))
