-- Laws of the fingerprint: no step passes 64 bits, a lane goes word by word, and an ending is one of three.
use Prim.Native.Nat.{ℕ, suc, ◌+◌, ◌*◌, ◌-◌, ◌/◌, ◌^◌, ◌≤◌, ◌<◌}
use mathlib.Core.Path.{◌≡◌, refl, sym, ◌∙◌, ap}
use mathlib.Core.List.{List, [], ◌∷◌}
use native.Mathlib.Nat.{mul-zero, mul-suc, zero-add, sub-zero}
use native.Mathlib.Numerals.{add-one}
use native.Mathlib.Omega.{arith}
use lib.Bits.{bit_xor, xor_lt}
use lib.ListN.{length, get_or}
use borrow.Author.Tests.{le-leb, lt-leb}
use Rattle.gsd_format.specs.Bytes.{le}
use Rattle.gsd_fingerprint.specs.Fingerprint.{stirred, mixed, lane, blocks, ending}

pub upper-half : (h w : ℕ) → h < 2 ^ 64 → w < 2 ^ 64 → bit_xor h w / 4294967296 < 4294967296
upper-half h w f g = omega (arith, xor_lt 64 h w f g)

pub stirred-fits : (a b : ℕ) → a < 4294967296 → b < 4294967296 → 2654435761 * a + 1580030131 * b < 2 ^ 64
stirred-fits a b f g = omega arith

places : (far i at : ℕ) → far * (i + 1) + at ≡ far * i + at + far
places far i at = rw (add-one, mul-suc) (omega arith)

lane-next : (far : ℕ) (s : List ℕ) (at next m n h : ℕ) → n ≡ suc m → next ≡ at + far → lane far s at n h ≡ lane far s next m (mixed h (le 8 s at))
unfolding lane
lane-next far s at next m n h e f = rw (e, f)

lane-none : (far : ℕ) (s : List ℕ) (at n h : ℕ) → n ≡ 0 → lane far s at n h ≡ h
unfolding lane
lane-none far s at n h e = rw e

-- i of the lane's n words are mixed into h: from here the others lead to its end
abbrev pub Along : ℕ → List ℕ → ℕ → ℕ → ℕ → ℕ → ℕ → Type 0
Along far s at n start i h = lane far s (far * i + at) (n - i) h ≡ lane far s at n start

-- the four lanes of the blocks, i blocks in
pub record Lanes (s : List ℕ) (n i a b c d : ℕ) : Type 0 where
  pub first : Along 32 s 0 n 0 i a
  pub second : Along 32 s 8 n 0 i b
  pub third : Along 32 s 16 n 0 i c
  pub fourth : Along 32 s 24 n 0 i d

pub along-none : (far : ℕ) (s : List ℕ) (at n start : ℕ) → Along far s at n start 0 start
along-none far s at n start = simp (mul-zero, zero-add, sub-zero)

pub along-more : (far : ℕ) (s : List ℕ) (at n start i h p g : ℕ) → i < n → p ≡ far * i + at → g ≡ mixed h (le 8 s p)
    → Along far s at n start i h → Along far s at n start (i + 1) g
along-more far s at n start i h p g l e f w =
    ap (lane far s (far * (i + 1) + at) (n - (i + 1))) (f ∙ ap (λ q. mixed h (le 8 s q)) e)
    ∙ sym (lane-next far s (far * i + at) (far * (i + 1) + at) (n - (i + 1)) (n - i) h (omega arith) (places far i at)) ∙ w

pub along-all : (far : ℕ) (s : List ℕ) (at n start i h : ℕ) → i ≡ n → Along far s at n start i h → h ≡ lane far s at n start
along-all far s at n start i h e w = sym (lane-none far s (far * i + at) (n - i) h (omega arith)) ∙ w

pub blocks-none : (s : List ℕ) (n : ℕ) → n ≡ 0 → 0 ≡ blocks s n
unfolding blocks lane mixed stirred
blocks-none s n e = rw e

pub blocks-all : (s : List ℕ) (n i a b c d e f g h : ℕ) → Lanes s n i a b c d → i ≡ n
    → e ≡ mixed 0 a → f ≡ mixed e b → g ≡ mixed f c → h ≡ mixed g d → h ≡ blocks s n
unfolding blocks
blocks-all s n i a b c d e f g h lanes l p q r t =
    let first = along-all 32 s 0 n 0 i a l lanes.first in
    let second = along-all 32 s 8 n 0 i b l lanes.second in
    let third = along-all 32 s 16 n 0 i c l lanes.third in
    let fourth = along-all 32 s 24 n 0 i d l lanes.fourth in
    cc

pub ending-eight : (s : List ℕ) → 8 ≤ length s → ending s ≡ le 8 s (length s - 8)
unfolding ending
ending-eight s l = rw (le-leb 8 (length s) l, ending)

pub ending-four : (s : List ℕ) → length s < 8 → 4 ≤ length s → ending s ≡ le 4 s 0 + 4294967296 * le 4 s (length s - 4)
unfolding ending
ending-four s l m = rw (lt-leb 8 (length s) l, le-leb 4 (length s) m, ending)

pub ending-few : (s : List ℕ) → length s < 4 → ending s ≡ get_or s 0 0 + 256 * get_or s (length s / 2) 0 + 65536 * get_or s (length s - 1) 0
unfolding ending
ending-few s l = rw (lt-leb 8 (length s) (omega arith), lt-leb 4 (length s) l, ending)

pub ending-none : (s : List ℕ) → length s ≡ 0 → 0 ≡ ending s
unfolding ending
ending-none [] e = refl
ending-none (b ∷ s) e = absurd (omega arith)
