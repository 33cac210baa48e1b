-- Laws of what a file says, by the number of its dimensions.
use Prim.Native.Nat.{ℕ, ◌+◌, ◌*◌, ◌-◌, ◌≤◌, ◌<◌}
use mathlib.Core.Path.{◌≡◌, sym, ◌∙◌}
use mathlib.Core.Bool.{Bool, true, false, ◌&&◌, ◌||◌}
use mathlib.Core.List.{List}
use native.Mathlib.Decide.{ℕ_discrete, dec_lt}
use native.Mathlib.Omega.{arith}
use lib.ListN.{length}
use lib.Dec.{leb, eqb}
use borrow.Author.Tests.{leb-true, le-leb, lt-leb, eq-eqb, ne_eqb}
use Rattle.gsd_format.specs.Bytes.{le}
use Rattle.gsd_format.proofs.Refusals.{both_true, second-of}
use Rattle.gsd_rawarray.specs.Said.{width, data_length, dimensions, data_start, raw_n, raw_m}
use Rattle.gsd_rawarray.specs.Requests.{dimensioned, filled}

-- N and M

module _ (f : List ℕ) (one : dimensions f ≡ 1) where
  pub n-one : le 8 f 48 ≡ raw_n f
  unfolding raw_n
  n-one = rw (eq-eqb (dimensions f) 1 one, raw_n)

  pub m-one : 1 ≡ raw_m f
  unfolding raw_m
  m-one = rw (eq-eqb (dimensions f) 1 one, raw_m)

module _ (f : List ℕ) (not-one : dimensions f ≡ 1 → ⊥) where
  pub n-two : le 8 f 56 ≡ raw_n f
  unfolding raw_n
  n-two = rw (ne_eqb (dimensions f) 1 not-one, raw_n)

  pub m-two : le 8 f 48 ≡ raw_m f
  unfolding raw_m
  m-two = rw (ne_eqb (dimensions f) 1 not-one, raw_m)

-- Where dimensions and data lie

module _ (f : List ℕ) (h : dimensioned f ≡ true) where
  pub two : (dimensions f ≡ 1 → ⊥) → dimensions f ≡ 2
  two n = second-of (dimensions f) 1 2 (both_true (eqb (dimensions f) 1 || eqb (dimensions f) 2) _ h).0 n

  pub start-inside : data_start f ≤ length f
  start-inside = leb-true (data_start f) (length f) (both_true (eqb (dimensions f) 1 || eqb (dimensions f) 2) _ h).1

  pub some-start : 56 ≤ data_start f
  some-start = go (ℕ_discrete (dimensions f) 1)
    where
      go : Dec (dimensions f ≡ 1) → 56 ≤ data_start f
      go (yes e) = omega (arith, e)
      go (no n) = omega (arith, two n)

  pub long : 56 ≤ length f
  long = omega (arith, some-start, start-inside)

  pub longer : (dimensions f ≡ 1 → ⊥) → 64 ≤ length f
  longer n = omega (arith, two n, start-inside)

-- Whether they are there

module _ (f : List ℕ) where
  pub dims-one : dimensions f ≡ 1 → leb 56 (length f) ≡ dimensioned f
  dims-one e = rw e

  pub dims-two : dimensions f ≡ 2 → leb 64 (length f) ≡ dimensioned f
  dims-two e = rw e

  pub dims-none : (dimensions f ≡ 1 → ⊥) → (dimensions f ≡ 2 → ⊥) → false ≡ dimensioned f
  dims-none a b = rw (ne_eqb (dimensions f) 1 a, ne_eqb (dimensions f) 2 b)

  -- the data, by what lies behind the dimensions
  pub data-told : dimensioned f ≡ true → (product : Bool) (size start n m w : ℕ) → size ≡ data_length f → start ≡ data_start f → n ≡ raw_n f → m ≡ raw_m f →
      w ≡ width f → product ≡ eqb size (n * m * w) → (product && leb size (length f - start)) ≡ filled f
  data-told h product size start n m w es ea en em ew p =
      (λ i. (p ∙ (λ j. eqb (es j) (en j * em j * ew j))) i && (inside ∙ (λ j. leb (ea j + es j) (length f))) i)
    where
      inside : leb size (length f - start) ≡ leb (start + size) (length f)
      inside = go (dec_lt (length f) (start + size))
        where
          room : start ≤ length f
          room = omega (arith, ea, start-inside f h)

          go : Dec (length f < start + size) → leb size (length f - start) ≡ leb (start + size) (length f)
          go (yes l) = lt-leb size (length f - start) (omega (arith, room)) ∙ sym (lt-leb (start + size) (length f) l)
          go (no l) = le-leb size (length f - start) (omega (arith, room)) ∙ sym (le-leb (start + size) (length f) (omega arith))
