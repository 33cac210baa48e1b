-- The equations of elements: one for each kind of number, and for the k-th element of a chunk; which of them are NaNs.
use Rattle.std.specs.Prelude.{Ok, Err}
use Prim.Native.Nat.{ℕ, zero, suc, ◌+◌, ◌*◌, ◌-◌, ◌/◌, ◌^◌, ◌≤◌, ◌<◌}
use mathlib.Core.Path.{◌≡◌, refl, sym, ◌∙◌}
use mathlib.Core.Bool.{Bool, cond, true, false, true≢false, ◌||◌}
use mathlib.Core.List.{List}
use native.Mathlib.Numerals.{add-one}
use native.Mathlib.Decide.{ℕ_discrete}
use native.Mathlib.Omega.{arith}
use lib.Dec.{ltb}
use lib.IntN.{pos, negsuc}
use lib.Ieee as Ieee
use lib.Ieee.Bits.{nan_bits_is}
use borrow.Author.Tests.{le-leb, lt-leb, lt-ltb, le-ltb, ne_eqb}
use Rattle.gsd_format.specs.declared.Entry.{Entry}
use Rattle.gsd_format.specs.declared.element.Number.{Number}
use Rattle.gsd_format.specs.Bytes.{le}
use Rattle.gsd_format.specs.Types.{size_of}
use Rattle.gsd_format.specs.Elements.{signed, element_of, element_in, nan_element, NanAt, any_nan}
use Rattle.gsd_format.proofs.Refusals.{neither-of, left-holds, right-holds, right-decides}
use Rattle.gsd_format.proofs.Bytes.{Same, le-further}

pub signed_is : (w bits half : ℕ) → 256 ^ w ≡ 2 * half → signed w bits ≡ cond (ltb bits half) (pos bits) (negsuc (2 * half - 1 - bits))
unfolding signed
signed_is w bits half e = by_cases (256 ^ w) (256 ^ w / 2) e (omega arith)
  where
    by-test : (t : Bool) → elim t [ true ↦ pos bits | false ↦ negsuc (2 * half - 1 - bits) ] ≡ cond t (pos bits) (negsuc (2 * half - 1 - bits))
    by-test true = refl
    by-test false = refl

    by_cases : (p h : ℕ) → p ≡ 2 * half → h ≡ half → elim (ltb bits h) [ true ↦ pos bits | false ↦ negsuc (p - 1 - bits) ] ≡ cond (ltb bits half) (pos bits) (negsuc (2 * half - 1 - bits))
    by_cases p h a b = (λ i. elim (ltb bits (b i)) [ true ↦ pos bits | false ↦ negsuc (a i - 1 - bits) ]) ∙ by-test (ltb bits half)

pub element-unsigned : (kind bits : ℕ) → kind ≤ 4 → element_of kind bits ≡ Number.Unsigned bits
unfolding element_of
element-unsigned kind bits h = rw (le-leb kind 4 h, element_of)

pub element-character : (bits : ℕ) → element_of 11 bits ≡ Number.Unsigned bits
unfolding element_of
element-character bits = refl

pub element-signed : (kind bits : ℕ) → 4 < kind → kind ≤ 8 → element_of kind bits ≡ Number.Signed (signed (size_of kind) bits)
unfolding element_of
element-signed kind bits h g = rw (lt-leb kind 4 h, ne_eqb kind 11 (λ e. omega arith), le-leb kind 8 g, element_of)

pub element-single : (bits : ℕ) → element_of 9 bits ≡ Number.Single (Ieee.of_bits Ieee.binary32 bits) bits
unfolding element_of
element-single bits = refl

pub element-double : (bits : ℕ) → element_of 10 bits ≡ Number.Double (Ieee.of_bits Ieee.binary64 bits) bits
unfolding element_of
element-double bits = refl

-- the k-th element of a chunk, and none behind its last
pub element-at : (img : List ℕ) (e : Entry) (k : ℕ) → k < e.n * e.m →
    element_in img e k ≡ Ok (element_of e.kind (le (size_of e.kind) img (e.location + k * size_of e.kind)))
unfolding element_in
element-at img e k h = rw (lt-ltb k (e.n * e.m) h, element_in)

pub element-behind : (img : List ℕ) (e : Entry) (k : ℕ) → e.n * e.m ≤ k → element_in img e k ≡ Err 43
unfolding element_in
element-behind img e k h = rw (le-ltb k (e.n * e.m) h, element_in)

-- NaNs

-- the element is the NaN of the float model
pub nan-single : (bits : ℕ) → nan_element 9 bits ≡ Ieee.is_nan (Ieee.of_bits Ieee.binary32 bits)
unfolding nan_element
nan-single bits = nan_bits_is Ieee.binary32 bits

pub nan-double : (bits : ℕ) → nan_element 10 bits ≡ Ieee.is_nan (Ieee.of_bits Ieee.binary64 bits)
unfolding nan_element
nan-double bits = nan_bits_is Ieee.binary64 bits

pub nan-other : (kind bits : ℕ) → (kind ≡ 9 → ⊥) → (kind ≡ 10 → ⊥) → nan_element kind bits ≡ false
unfolding nan_element
nan-other kind bits f g = rw (ne_eqb kind 9 f, ne_eqb kind 10 g, nan_element)

pub nan-none : (n kind : ℕ) (s : List ℕ) (at : ℕ) → (kind ≡ 9 → ⊥) → (kind ≡ 10 → ⊥) → any_nan kind s at n ≡ false
unfolding any_nan
nan-none zero kind s at f g = refl
nan-none (suc n) kind s at f g = neither-of (any_nan kind s at n) _ (nan-none n kind s at f g) (nan-other kind _ f g)

-- one element more, of a type of this size
pub nan-more : (kind size : ℕ) → size_of kind ≡ size → (s : List ℕ) (at n bits : ℕ) (before this : Bool) → before ≡ any_nan kind s at n
    → bits ≡ le size s (at + n * size) → this ≡ nan_element kind bits → (before || this) ≡ any_nan kind s at (n + 1)
unfolding any_nan
nan-more kind size e s at n bits before this f b t = rw (add-one, any_nan, f, t, b, e)

-- the same bytes at another place
pub nan_same : (n kind : ℕ) (x : List ℕ) (a : ℕ) (y : List ℕ) (b : ℕ) → Same x a y b (n * size_of kind) → any_nan kind x a n ≡ any_nan kind y b n
unfolding any_nan
nan_same zero kind x a y b h = refl
nan_same (suc n) kind x a y b h =
    let e : le (size_of kind) x (a + n * size_of kind) ≡ le (size_of kind) y (b + n * size_of kind) =
    le-further (size_of kind) x a y b (n * size_of kind) (λ k l. h k (omega arith)) in
    rw (e, nan_same n kind x a y b (λ k l. h k (omega arith)))

-- one that is found, and one that is there
pub nan-found : (n kind : ℕ) (s : List ℕ) (at : ℕ) → any_nan kind s at n ≡ true → (k : ℕ) × (k < n) × NanAt kind s at k
unfolding any_nan
nan-found zero kind s at h = absurd (true≢false (sym h))
nan-found (suc n) kind s at h = go (nan-found n kind s at) (any_nan kind s at n) refl
  where
    go : (any_nan kind s at n ≡ true → (k : ℕ) × (k < n) × NanAt kind s at k) → (b : Bool) → any_nan kind s at n ≡ b → (k : ℕ) × (k < suc n) × NanAt kind s at k
    go f true e = let r : (k : ℕ) × (k < n) × NanAt kind s at k = f e in (r.0, omega (arith, r.1), r.2)
    go f false e = (n, omega arith, sym (right-decides (any_nan kind s at n) _ e) ∙ h)

pub nan-in : (n kind : ℕ) (s : List ℕ) (at k : ℕ) → k < n → NanAt kind s at k → any_nan kind s at n ≡ true
unfolding any_nan
nan-in zero kind s at k l h = absurd (omega arith)
nan-in (suc n) kind s at k l h = go (nan-in n kind s at k) (ℕ_discrete k n)
  where
    go : (k < n → NanAt kind s at k → any_nan kind s at n ≡ true) → Dec (k ≡ n) → any_nan kind s at (suc n) ≡ true
    go f (yes e) = right-holds (any_nan kind s at n) _ (rw e at h)
    go f (no e) = left-holds (any_nan kind s at n) _ (f (omega arith) h)
