-- The names of 1.0, a segment to each: their equations, where they lie, and number 9. Behind them the laws of a name block, and of
-- a list of names, that hold in every version.
use Prim.Native.Nat.{ℕ, zero, suc, ◌+◌, ◌*◌, ◌/◌, ◌≤◌, ◌<◌}
use mathlib.Core.Path.{◌≡◌, refl, sym, ◌∙◌, ap}
use mathlib.Core.Bool.{Bool, true, false, true≢false}
use mathlib.Core.List.{List, [], ◌∷◌}
use native.Mathlib.Nat.{add-zero}
use native.Mathlib.Decide.{ℕ_discrete}
use native.Mathlib.Omega.{arith}
use lib.ListN.{length, get_or}
use borrow.Author.Tests.{ne_eqb}
use borrow.Author.Count.{below_more}
use Rattle.gsd_format.specs.declared.Layout.{Layout}
use Rattle.gsd_format.specs.declared.Part.{Part}
use Rattle.gsd_format.specs.Bytes.{zero_in}
use Rattle.gsd_format.specs.Header.{v10, layout_of}
use Rattle.gsd_format.specs.Names.{parts_at, before_zero, segments_at, block_parts, block_names, name_parts, names_of, names_at, flat, list_size, list_parts}
use Rattle.gsd_format.specs.Opening.{unclosed_from, open_name}
use Rattle.gsd_format.proofs.Lists.{Each, each-so}
use Rattle.gsd_format.proofs.Bytes.{Same, same_head, same-tail, same_from, zero-found, no_zero, zero_in_lem, zero-out}
use Rattle.gsd_format.proofs.Names.{Full, Lies, parts-lie, parts_same, parts-listed, is-names, parts-of-block, parts-many, names_of-are}
use Rattle.gsd_format.proofs.Names.{names-of-block, names-recent, names-hold}
use Rattle.gsd_format.proofs.Names.{parts-recent, parts-10, open-recent, open-10}

-- The bytes before the first zero

before-end : (x : List ℕ) (at n : ℕ) → get_or x at 0 ≡ 0 → before_zero x at n ≡ 0
unfolding before_zero
before-end x at zero z = refl
before-end x at (suc n) z = rw (z, before_zero)

before_more : (x : List ℕ) (at n : ℕ) → (get_or x at 0 ≡ 0 → ⊥) → before_zero x at (suc n) ≡ suc (before_zero x (at + 1) n)
unfolding before_zero
before_more x at n z = rw (ne_eqb (get_or x at 0) 0 z, before_zero)

-- they are k where none of the k is zero and the one behind them is, or is the last of all
pub before-is : (k : ℕ) (x : List ℕ) (at n : ℕ) → k ≤ n → Full x at k → (k < n → get_or x (at + k) 0 ≡ 0) → before_zero x at n ≡ k
unfolding before_zero
before-is zero x at zero l f z = refl
before-is zero x at (suc n) l f z = before-end x at (suc n) (ap (λ i. get_or x i 0) (sym (add-zero at)) ∙ z (omega arith))
before-is (suc k) x at zero l f z = absurd (omega arith)
before-is (suc k) x at (suc n) l f z =
    before_more x at n (λ e. f 0 (omega arith) (ap (λ i. get_or x i 0) (add-zero at) ∙ e))
    ∙ ap suc (before-is k x (at + 1) n (omega arith)
    (λ i u e. f (suc i) (omega arith) (ap (λ j. get_or x j 0) (let q : at + suc i ≡ at + 1 + i = omega arith in q) ∙ e))
    (λ u. ap (λ j. get_or x j 0) (let q : at + 1 + k ≡ at + suc k = omega arith in q) ∙ z (omega arith)))

-- The segments from a place on

pub segments-none : (x : List ℕ) (at : ℕ) → segments_at x at 0 ≡ []
unfolding segments_at
segments-none x at = refl

pub segments-end : (x : List ℕ) (at n : ℕ) → get_or x at 0 ≡ 0 → segments_at x at n ≡ []
unfolding segments_at
segments-end x at zero z = refl
segments-end x at (suc n) z = rw (z, segments_at)

pub segments-more : (x : List ℕ) (at n k : ℕ) → (get_or x at 0 ≡ 0 → ⊥) → before_zero x at 64 ≡ k →
    segments_at x at (suc n) ≡ record { start = at; size = k } ∷ segments_at x (at + 64) n
unfolding segments_at
segments-more x at n k z e = rw (ne_eqb (get_or x at 0) 0 z, e, segments_at)

-- 9 of 1.0

pub open_none : (x : List ℕ) (at : ℕ) → unclosed_from x at 0 ≡ false
unfolding unclosed_from
open_none x at = refl

pub open-end : (x : List ℕ) (at n : ℕ) → get_or x at 0 ≡ 0 → unclosed_from x at n ≡ false
unfolding unclosed_from
open-end x at zero z = refl
open-end x at (suc n) z = rw (z, unclosed_from)

pub open-here : (x : List ℕ) (at n : ℕ) → (get_or x at 0 ≡ 0 → ⊥) → Full x at 64 → unclosed_from x at (suc n) ≡ true
unfolding unclosed_from
open-here x at n z f = rw (ne_eqb (get_or x at 0) 0 z, zero-out x at 64 f, unclosed_from)

pub open_more : (x : List ℕ) (at n k : ℕ) → (get_or x at 0 ≡ 0 → ⊥) → k < 64 → get_or x (at + k) 0 ≡ 0 →
    unclosed_from x at (suc n) ≡ unclosed_from x (at + 64) n
unfolding unclosed_from
open_more x at n k z l e = rw (ne_eqb (get_or x at 0) 0 z, zero_in_lem x at 64 k l e, unclosed_from)

-- Where closed names lie

-- the first zero of a stretch that has one, and no zero before it
first : (x : List ℕ) (at n k : ℕ) → k < n → get_or x (at + k) 0 ≡ 0 → (j : ℕ) × (j < n) × Full x at j × (get_or x (at + j) 0 ≡ 0)
first x at n k l z = up k 0 (omega arith) (λ i u. absurd (omega arith))
  where
    up : (m j : ℕ) → j + m ≡ k → Full x at j → (i : ℕ) × (i < n) × Full x at i × (get_or x (at + i) 0 ≡ 0)
    up zero j e f = (j, omega arith, f, ap (λ i. get_or x (at + i) 0) (let q : j ≡ k = omega arith in q) ∙ z)
    up (suc m) j e f = go (up m (j + 1) (omega arith)) (ℕ_discrete (get_or x (at + j) 0) 0)
      where
        go : (Full x at (j + 1) → (i : ℕ) × (i < n) × Full x at i × (get_or x (at + i) 0 ≡ 0)) → Dec (get_or x (at + j) 0 ≡ 0) →
            (i : ℕ) × (i < n) × Full x at i × (get_or x (at + i) 0 ≡ 0)
        go r (yes h) = (j, omega arith, f, h)
        go r (no h) = r (below_more (λ i. get_or x (at + i) 0 ≡ 0 → ⊥) j f h)

pub segments-lie : (n : ℕ) (x : List ℕ) (at : ℕ) → unclosed_from x at n ≡ false → Each (Lies x at (64 * n)) (segments_at x at n)
segments-lie zero x at h = rw (segments-none x at) tt
segments-lie (suc n) x at h = go (segments-lie n x (at + 64)) (ℕ_discrete (get_or x at 0) 0)
  where
    go : (unclosed_from x (at + 64) n ≡ false → Each (Lies x (at + 64) (64 * n)) (segments_at x (at + 64) n)) → Dec (get_or x at 0 ≡ 0) →
        Each (Lies x at (64 * suc n)) (segments_at x at (suc n))
    go r (yes z) = rw (segments-end x at (suc n) z) tt
    go r (no z) = zeros (zero_in x at 64) refl
      where
        some : (j : ℕ) → get_or x (at + j) 0 ≡ 0 → 0 < j
        some zero c = absurd (z (ap (λ i. get_or x i 0) (sym (add-zero at)) ∙ c))
        some (suc j) c = omega arith

        zeros : (b : Bool) → zero_in x at 64 ≡ b → Each (Lies x at (64 * suc n)) (segments_at x at (suc n))
        zeros false e = absurd (true≢false (sym (open-here x at n z (no_zero x at 64 e)) ∙ h))
        zeros true e =
            let there = zero-found x at 64 e in
            let (j, l, f, c) = first x at 64 there.0 there.1 there.2 in
            let s : 0 < j = some j c in
            rw (segments-more x at n j z (before-is j x at 64 (omega arith) f (λ u. c))) (
              record { low = omega arith; high = omega arith; some = s; full = f; closed = c },
              each-so (Lies x (at + 64) (64 * n)) (Lies x at (64 * suc n))
                  (λ p a. record { low = omega (arith, a.low); high = omega (arith, a.high); some = a.some; full = a.full; closed = a.closed })
                  (segments_at x (at + 64) n) (r (sym (open_more x at n j z l c) ∙ h)),
            )

-- In every version

-- closed names lie in the block
pub parts_within : (x : List ℕ) (l : Layout) → open_name x l (block_names x l) ≡ false → Each (Lies x l.namelist (64 * l.segments)) (block_parts x l)
parts_within x l h = go (v10 l.version) refl
  where
    go : (v : Bool) → v10 l.version ≡ v → Each (Lies x l.namelist (64 * l.segments)) (block_parts x l)
    go true r = rw (parts-10 x l r) (segments-lie l.segments x l.namelist (sym (open-10 x l (block_names x l) r) ∙ h))
    go false r = rw (parts-recent x l r) (parts-lie x l.namelist (64 * l.segments))

-- A list of names, by the version

pub list-recent : (version : ℕ) (x : List ℕ) (at n : ℕ) → v10 version ≡ false → list_parts version x at n ≡ parts_at x at at n
unfolding list_parts
list-recent version x at n r = rw (r, list_parts)

pub list-10 : (version : ℕ) (x : List ℕ) (at n : ℕ) → v10 version ≡ true → list_parts version x at n ≡ segments_at x at (n / 64)
unfolding list_parts
list-10 version x at n r = rw (r, list_parts)

pub size-recent : (version : ℕ) (ns : List (List ℕ)) → v10 version ≡ false → list_size version ns ≡ length (flat ns)
unfolding list_size
size-recent version ns r = rw (r, list_size)

pub size-10 : (version : ℕ) (ns : List (List ℕ)) → v10 version ≡ true → list_size version ns ≡ 64 * length ns
unfolding list_size
size-10 version ns r = rw (r, list_size)

-- it depends on its bytes alone
before_same : (n : ℕ) (x y : List ℕ) (at : ℕ) → Same x at y at n → before_zero x at n ≡ before_zero y at n
unfolding before_zero
before_same zero x y at h = refl
before_same (suc n) x y at h = go (before_same n x y (at + 1) (same-tail x at y at n h)) (ℕ_discrete (get_or y at 0) 0)
  where
    first : get_or x at 0 ≡ get_or y at 0
    first = same_head x at y at n h

    go : before_zero x (at + 1) n ≡ before_zero y (at + 1) n → Dec (get_or y at 0 ≡ 0) → before_zero x at (suc n) ≡ before_zero y at (suc n)
    go r (yes z) = before-end x at (suc n) (first ∙ z) ∙ sym (before-end y at (suc n) z)
    go r (no z) = before_more x at n (λ e. z (sym first ∙ e)) ∙ ap suc r ∙ sym (before_more y at n z)

segments-same : (n : ℕ) (x y : List ℕ) (at : ℕ) → Same x at y at (64 * n) → segments_at x at n ≡ segments_at y at n
segments-same zero x y at h = segments-none x at ∙ sym (segments-none y at)
segments-same (suc n) x y at h = go (segments-same n x y (at + 64) (same_from x at y at 64 (64 * n) (λ k l. h k (omega arith)))) (ℕ_discrete (get_or y at 0) 0)
  where
    first : get_or x at 0 ≡ get_or y at 0
    first = same_head x at y at 63 (λ k l. h k (omega arith))

    go : segments_at x (at + 64) n ≡ segments_at y (at + 64) n → Dec (get_or y at 0 ≡ 0) → segments_at x at (suc n) ≡ segments_at y at (suc n)
    go r (yes z) = segments-end x at (suc n) (first ∙ z) ∙ sym (segments-end y at (suc n) z)
    go r (no z) =
        segments-more x at n (before_zero y at 64) (λ e. z (sym first ∙ e)) (before_same 64 x y at (λ k l. h k (omega arith)))
        ∙ ap (λ ps. record { start = at; size = before_zero y at 64 } ∷ ps) r ∙ sym (segments-more y at n (before_zero y at 64) z refl)

pub list_same : (version : ℕ) (x y : List ℕ) (at n : ℕ) → Same x at y at n → list_parts version x at n ≡ list_parts version y at n
list_same version x y at n h = go (v10 version) refl
  where
    go : (v : Bool) → v10 version ≡ v → list_parts version x at n ≡ list_parts version y at n
    go true r = list-10 version x at n r ∙ segments-same (n / 64) x y at (λ k l. h k (omega arith)) ∙ sym (list-10 version y at n r)
    go false r = list-recent version x at n r ∙ parts_same x at y at n h ∙ sym (parts-listed y at n) ∙ sym (list-recent version y at n r)

-- and lies in them
pub record Within (at n : ℕ) (p : Part) : Type 0 where
  pub low : at ≤ p.start
  pub high : p.start + p.size ≤ at + n

before-most : (n : ℕ) (x : List ℕ) (at : ℕ) → before_zero x at n ≤ n
before-most zero x at = omega (arith, before-is zero x at zero (omega arith) (λ k l. absurd (omega arith)) (λ l. absurd (omega arith)))
before-most (suc n) x at = go (before-most n x (at + 1)) (ℕ_discrete (get_or x at 0) 0)
  where
    go : before_zero x (at + 1) n ≤ n → Dec (get_or x at 0 ≡ 0) → before_zero x at (suc n) ≤ suc n
    go r (yes z) = omega (arith, before-end x at (suc n) z)
    go r (no z) = omega (arith, before_more x at n z)

segments-within : (n : ℕ) (x : List ℕ) (at : ℕ) → Each (Within at (64 * n)) (segments_at x at n)
segments-within zero x at = rw (segments-none x at) tt
segments-within (suc n) x at = go (segments-within n x (at + 64)) (ℕ_discrete (get_or x at 0) 0)
  where
    go : Each (Within (at + 64) (64 * n)) (segments_at x (at + 64) n) → Dec (get_or x at 0 ≡ 0) → Each (Within at (64 * suc n)) (segments_at x at (suc n))
    go r (yes z) = rw (segments-end x at (suc n) z) tt
    go r (no z) = rw (segments-more x at n (before_zero x at 64) z refl) (
      record { low = omega arith; high = omega (arith, before-most 64 x at) },
      each-so (Within (at + 64) (64 * n)) (Within at (64 * suc n)) (λ p a. record { low = omega (arith, a.low); high = omega (arith, a.high) })
          (segments_at x (at + 64) n) r,
    )

pub list-within : (version : ℕ) (x : List ℕ) (at n : ℕ) → Each (Within at n) (list_parts version x at n)
list-within version x at n = go (v10 version) refl
  where
    go : (v : Bool) → v10 version ≡ v → Each (Within at n) (list_parts version x at n)
    go true r = rw (list-10 version x at n r) (each-so (Within at (64 * (n / 64))) (Within at n)
        (λ p a. record { low = a.low; high = omega (arith, a.high) }) (segments_at x at (n / 64)) (segments-within (n / 64) x at))
    go false r = rw (list-recent version x at n r) (each-so (Lies x at n) (Within at n)
        (λ p a. record { low = a.low; high = omega (arith, a.high) }) (parts_at x at at n) (parts-lie x at n))

-- the list of a block's names has just them
segments-listed : (n : ℕ) (x : List ℕ) (at : ℕ) → segments_at x at (length (segments_at x at n)) ≡ segments_at x at n
segments-listed zero x at = ap (λ ps. segments_at x at (length ps)) (segments-none x at) ∙ segments-none x at ∙ sym (segments-none x at)
segments-listed (suc n) x at = go (segments-listed n x (at + 64)) (ℕ_discrete (get_or x at 0) 0)
  where
    go : segments_at x (at + 64) (length (segments_at x (at + 64) n)) ≡ segments_at x (at + 64) n → Dec (get_or x at 0 ≡ 0) →
        segments_at x at (length (segments_at x at (suc n))) ≡ segments_at x at (suc n)
    go r (yes z) = segments-end x at (length (segments_at x at (suc n))) z ∙ sym (segments-end x at (suc n) z)
    go r (no z) =
        let more = segments-more x at n (before_zero x at 64) z refl in
        ap (λ ps. segments_at x at (length ps)) more
        ∙ segments-more x at (length (segments_at x (at + 64) n)) (before_zero x at 64) z refl
        ∙ ap (λ ps. record { start = at; size = before_zero x at 64 } ∷ ps) r ∙ sym more

pub list-listed : (x : List ℕ) → open_name x (layout_of x) (names_of x) ≡ false →
    list_parts (layout_of x).version x (layout_of x).namelist (list_size (layout_of x).version (names_of x)) ≡ name_parts x
list-listed x closed = go (v10 (layout_of x).version) refl
  where
    go : (v : Bool) → v10 (layout_of x).version ≡ v →
        list_parts (layout_of x).version x (layout_of x).namelist (list_size (layout_of x).version (names_of x)) ≡ name_parts x
    go true r =
        let parts : name_parts x ≡ segments_at x (layout_of x).namelist (layout_of x).segments = parts-of-block x ∙ parts-10 x (layout_of x) r in
        let many : list_size (layout_of x).version (names_of x) / 64 ≡ length (segments_at x (layout_of x).namelist (layout_of x).segments) =
        omega (arith, size-10 (layout_of x).version (names_of x) r, parts-many x, ap length parts) in
        list-10 (layout_of x).version x (layout_of x).namelist (list_size (layout_of x).version (names_of x)) r
        ∙ ap (segments_at x (layout_of x).namelist) many ∙ segments-listed (layout_of x).segments x (layout_of x).namelist ∙ sym parts
    go false r =
        let are = names_of-are x r (sym (open-recent x (layout_of x) (names_of x) r) ∙ closed) in
        list-recent (layout_of x).version x (layout_of x).namelist (list_size (layout_of x).version (names_of x)) r
        ∙ ap (parts_at x (layout_of x).namelist (layout_of x).namelist) (size-recent (layout_of x).version (names_of x) r)
        ∙ is-names x (layout_of x).namelist (length (flat (names_of x))) (names_of x)
        (record { few = omega arith; each = are.each; good = are.good; closed = λ l. absurd (omega arith) })
        ∙ sym (is-names x (layout_of x).namelist (64 * (layout_of x).segments) (names_of x) are)
        ∙ sym (parts-recent x (layout_of x) r) ∙ sym (parts-of-block x)

-- and is no longer than the block
segments-few : (n : ℕ) (x : List ℕ) (at : ℕ) → length (segments_at x at n) ≤ n
segments-few zero x at = omega (arith, ap length (segments-none x at))
segments-few (suc n) x at = go (segments-few n x (at + 64)) (ℕ_discrete (get_or x at 0) 0)
  where
    go : length (segments_at x (at + 64) n) ≤ n → Dec (get_or x at 0 ≡ 0) → length (segments_at x at (suc n)) ≤ suc n
    go r (yes z) = omega (arith, ap length (segments-end x at (suc n) z))
    go r (no z) = omega (arith, ap length (segments-more x at n (before_zero x at 64) z refl))

pub list-few : (x : List ℕ) → list_size (layout_of x).version (names_of x) ≤ 64 * (layout_of x).segments
list-few x = go (v10 (layout_of x).version) refl
  where
    go : (v : Bool) → v10 (layout_of x).version ≡ v → list_size (layout_of x).version (names_of x) ≤ 64 * (layout_of x).segments
    go true r =
        omega (
          arith,
          size-10 (layout_of x).version (names_of x) r,
          parts-many x,
          ap length (parts-of-block x ∙ parts-10 x (layout_of x) r),
          segments-few (layout_of x).segments x (layout_of x).namelist,
        )
    go false r =
        let names : names_of x ≡ names_at x (layout_of x).namelist (64 * (layout_of x).segments) = names-of-block x ∙ names-recent x (layout_of x) r in
        omega (
          arith,
          size-recent (layout_of x).version (names_of x) r,
          ap (λ ns. length (flat ns)) names,
          (names-hold x (layout_of x).namelist (64 * (layout_of x).segments)).few,
        )
