-- Laws of an extent's words, kind by kind: where they go, where and in which text they are read.
use Prim.Native.Nat.{ℕ, suc, ◌+◌, ◌*◌, ◌-◌, ◌^◌, ◌%◌, ◌≤◌, ◌<◌, max}
use mathlib.Core.Path.{◌≡◌, refl, ◌∙◌, ap}
use mathlib.Core.List.{List}
use native.Mathlib.Nat.{pow-suc, pow-le-pow_right}
use native.Mathlib.Omega.{arith}
use lib.ListN.{length, get_or, take, length-take, get_or-eq_default}
use lib.Seq.{get_or-take}
use Rattle.gsd_format.specs.Bytes.{le, part}
use Rattle.gsd_format.proofs.Bytes.{le_same, part_at, part_length, stored-below, stored-inside, stored-above}
use Rattle.gsd_extents.specs.declared.extent.Extent.{Extent}
use Rattle.gsd_extents.specs.declared.extent.Kind.{Kind}
use Rattle.gsd_extents.specs.Exec.{place_of, over, text_of, source_of, word_of, Good}

-- Bytes

-- a cut text before the cut and behind it
pub cut-before : (s : List ℕ) (e i : ℕ) → i < e → get_or (take e s) i 0 ≡ get_or s i 0
cut-before s e i h = get_or-take e s i 0 h

pub cut-behind : (s : List ℕ) (e i : ℕ) → e ≤ i → get_or (take e s) i 0 ≡ 0
cut-behind s e i h = get_or-eq_default (take e s) 0 (omega (arith, length-take e s))

-- a number that stands whole before the cut
pub le-cut : (n : ℕ) (s : List ℕ) (e i : ℕ) → i + n ≤ e → le n (take e s) i ≡ le n s i
le-cut n s e i h = le_same n (take e s) i s i (λ k l. cut-before s e (i + k) (omega arith))

-- an image with a part of the sheet laid over it: before that part, in it, and behind it
module _ (img sheet : List ℕ) (at from until : ℕ) (size : until ≤ length sheet) (order : from ≤ until) where
  part-size : length (part sheet from (until - from)) ≡ until - from
  part-size = part_length sheet from (until - from) (omega arith)

  pub over_below : (i : ℕ) → i < at → get_or (over img sheet at from until) i 0 ≡ get_or img i 0
  over_below i h = stored-below img at (part sheet from (until - from)) i h

  pub over-inside : (i : ℕ) → at + (until - from) ≤ length img → at ≤ i → i - at < until - from → get_or (over img sheet at from until) i 0 ≡ get_or sheet (from + (i - at)) 0
  over-inside i room low h =
      ap (λ p. get_or (over img sheet at from until) p 0) (let e : i ≡ at + (i - at) = omega arith in e)
      ∙ stored-inside img at (part sheet from (until - from)) (i - at) (omega (arith, part-size)) (omega (arith, part-size))
      ∙ part_at sheet from (until - from) (i - at) h

  pub over-above : (i : ℕ) → at + (until - from) ≤ i → get_or (over img sheet at from until) i 0 ≡ get_or img i 0
  over-above i h = stored-above img at (part sheet from (until - from)) i (omega (arith, part-size))

-- Words

is-name : (k : Kind) → Dec (k ≡ Kind.Name)
is-name Kind.Name = yes refl
is-name k = no (λ e. cc)

module _ (x : Extent) (w : ℕ) where
  pub place-name : x.kind ≡ Kind.Name → place_of x w ≡ x.to + 8 * (x.words - 1 - w)
  unfolding place_of
  place-name e = rw (e, place_of)

  pub place_other : (x.kind ≡ Kind.Name → ⊥) → place_of x w ≡ x.to + 8 * w
  unfolding place_of
  place_other n = go x.kind refl
    where
      go : (k : Kind) → x.kind ≡ k → place_of x w ≡ x.to + 8 * w
      go Kind.Name e = absurd (n e)
      go k e = rw (e, place_of)

  pub source_name : x.kind ≡ Kind.Name → source_of x w ≡ place_of x w
  unfolding source_of
  source_name e = ap (λ k. elim k [ Kind.Name ↦ place_of x w | _ ↦ x.from + 8 * w ]) e

  pub source-other : (x.kind ≡ Kind.Name → ⊥) → source_of x w ≡ x.from + 8 * w
  unfolding source_of
  source-other n = go x.kind refl
    where
      go : (k : Kind) → x.kind ≡ k → source_of x w ≡ x.from + 8 * w
      go Kind.Name e = absurd (n e)
      go k e = rw (e, source_of)

  -- a word lies within its extent
  pub place-within : w < x.words → (x.to ≤ place_of x w) × (place_of x w + 8 ≤ x.to + 8 * x.words)
  place-within h = go (is-name x.kind)
    where
      go : Dec (x.kind ≡ Kind.Name) → (x.to ≤ place_of x w) × (place_of x w + 8 ≤ x.to + 8 * x.words)
      go (yes e) = omega (arith, place-name e)
      go (no n) = omega (arith, place_other n)

  -- and at a multiple of 8 if its extent does
  pub place-aligned : x.to % 8 ≡ 0 → place_of x w % 8 ≡ 0
  place-aligned a = go (is-name x.kind)
    where
      go : Dec (x.kind ≡ Kind.Name) → place_of x w % 8 ≡ 0
      go (yes e) = omega (arith, place-name e)
      go (no n) = omega (arith, place_other n)

module _ (sheet img : List ℕ) (x : Extent) where
  pub text-image : x.kind ≡ Kind.Copy → text_of sheet img x ≡ take x.until img
  unfolding text_of
  text-image e = rw (e, text_of)

  pub text-sheet : x.kind ≡ Kind.Data → text_of sheet img x ≡ take x.until sheet
  unfolding text_of
  text-sheet e = rw (e, text_of)

  pub text-name : x.kind ≡ Kind.Name → text_of sheet img x ≡ over img sheet x.value x.from x.until
  unfolding text_of
  text-name e = rw (e, text_of)

  pub word_number : (w : ℕ) → x.kind ≡ Kind.Number → word_of sheet img x w ≡ x.value
  unfolding word_of
  word_number w e = rw (e, word_of)

  pub word_read : (w : ℕ) → (x.kind ≡ Kind.Number → ⊥) → word_of sheet img x w ≡ le 8 (text_of sheet img x) (source_of x w)
  unfolding word_of
  word_read w n = go x.kind refl
    where
      go : (k : Kind) → x.kind ≡ k → word_of sheet img x w ≡ le 8 (text_of sheet img x) (source_of x w)
      go Kind.Number e = absurd (n e)
      go k e = ap (λ k. elim k [ Kind.Number ↦ x.value | _ ↦ le 8 (text_of sheet img x) (source_of x w) ]) e

  -- a word that lies whole before the cut of a text
  pub word-whole : (w : ℕ) (s : List ℕ) → text_of sheet img x ≡ take x.until s → (x.kind ≡ Kind.Number → ⊥) → (x.kind ≡ Kind.Name → ⊥)
      → x.from + 8 * w + 8 ≤ x.until → word_of sheet img x w ≡ le 8 s (x.from + 8 * w)
  word-whole w s t v n h =
      word_read w v
      ∙ ap (λ l. le 8 l (source_of x w)) t
      ∙ ap (le 8 (take x.until s)) (source-other x w n)
      ∙ le-cut 8 s x.until (x.from + 8 * w) h

-- a word that is read lies where an image of n bytes and a sheet of m have room for its place
module _ (n m : ℕ) (x : Extent) (good : Good n m x) (read : x.kind ≡ Kind.Number → ⊥) where
  pub from-within : x.from ≤ max n m
  from-within = go x.kind refl
    where
      go : (k : Kind) → x.kind ≡ k → x.from ≤ max n m
      go Kind.Copy e = omega (arith, good.image e, good.order)
      go Kind.Data e = omega (arith, good.sheet e, good.order)
      go Kind.Number e = absurd (read e)
      go Kind.Name e = omega (arith, (good.name e).0, good.order)

  pub source-within : (w : ℕ) → w < x.words → (source_of x w + 8 ≤ max n m + n) × (x.kind ≡ Kind.Name → source_of x w + 8 ≤ n)
  source-within w h = go (is-name x.kind)
    where
      go : Dec (x.kind ≡ Kind.Name) → (source_of x w + 8 ≤ max n m + n) × (x.kind ≡ Kind.Name → source_of x w + 8 ≤ n)
      go (yes e) = (omega (arith, source_name x w e, place-within x w h, good.room), λ _. omega (arith, source_name x w e, place-within x w h, good.room))
      go (no a) = (omega (arith, source-other x w a, from-within, good.room), λ e. absurd (a e))

-- A number, byte by byte from the last of n on: the next byte before the k-th, and what keeps the sum within the n bytes

pub le-before : (n : ℕ) (s : List ℕ) (at k : ℕ) → 0 < k → k ≤ n → get_or s (at + (k - 1)) 0 + 256 * le (n - k) s (at + k) ≡ le (n - (k - 1)) s (at + (k - 1))
unfolding le
le-before n s at k p h =
    let z : n - (k - 1) ≡ suc (n - k) = omega arith in
    let e : at + (k - 1) + 1 ≡ at + k = omega arith in
    rw (z, e)

pub bytes-before : (n b v k : ℕ) → 0 < k → k ≤ n → b < 256 → v < 256 ^ (n - k) → b + 256 * v < 256 ^ (n - (k - 1))
bytes-before n b v k p h l m =
    let z : n - (k - 1) ≡ suc (n - k) = omega arith in
    rw z (omega (arith, pow-suc 256 (n - k)))

pub bytes_fit : (n k v : ℕ) → k ≤ n → v < 256 ^ (n - k) → v < 256 ^ n
bytes_fit n k v h l = omega (arith, pow-le-pow_right {n = 256} (omega arith) {i = n - k} {j = n} (omega arith))
