-- Texts in an image: how one is put together and taken apart, and that it stands wherever its bytes stand.
use Prim.Native.Nat.{ℕ, zero, suc, ◌+◌, ◌-◌, ◌≤◌, ◌<◌}
use mathlib.Core.Path.{◌≡◌, sym, ◌∙◌, ap}
use mathlib.Core.List.{List, ◌∷◌, ◌++◌}
use native.Mathlib.Decide.{dec_lt}
use native.Mathlib.Omega.{arith}
use lib.ListN.{length, get_or, length-append, get_or-append, get_or-eq_default}
use lib.Seq.{get_or-append-add, ext_get_or}
use Rattle.gsd_format.specs.Bytes.{part}
use Rattle.gsd_format.proofs.Bytes.{Same, Text, part_length, part_at}

-- the byte at one place, told in two ways
pub place : (x : List ℕ) (i j : ℕ) → i ≡ j → get_or x i 0 ≡ get_or x j 0
place x i j e = ap (λ k. get_or x k 0) e

-- a byte that is not zero lies in the image
pub byte_inside : (x : List ℕ) (p : ℕ) → (get_or x p 0 ≡ 0 → ⊥) → p < length x
byte_inside x p h = go (dec_lt p (length x))
  where
    go : Dec (p < length x) → p < length x
    go (yes l) = l
    go (no l) = absurd (h (get_or-eq_default x 0 (omega arith)))

pub text_head : (x : List ℕ) (at c : ℕ) (r : List ℕ) → Text x at (c ∷ r) → get_or x at 0 ≡ c
text_head x at c r h = place x at (at + 0) (omega arith) ∙ h 0 (omega arith)

pub text-tail : (x : List ℕ) (at c : ℕ) (r : List ℕ) → Text x at (c ∷ r) → Text x (at + 1) r
text-tail x at c r h k l = place x (at + 1 + k) (at + suc k) (omega arith) ∙ h (suc k) (omega arith)

pub text-cons : (x : List ℕ) (at c : ℕ) (r : List ℕ) → get_or x at 0 ≡ c → Text x (at + 1) r → Text x at (c ∷ r)
text-cons x at c r e h zero l = place x (at + 0) at (omega arith) ∙ e
text-cons x at c r e h (suc k) l = place x (at + suc k) (at + 1 + k) (omega arith) ∙ h k (omega arith)

pub text-front : (x : List ℕ) (at : ℕ) (b r : List ℕ) → Text x at (b ++ r) → Text x at b
text-front x at b r h k l = h k (omega (arith, length-append b r)) ∙ get_or-append b r 0 k l

pub text-back : (x : List ℕ) (at : ℕ) (b r : List ℕ) → Text x at (b ++ r) → Text x (at + length b) r
text-back x at b r h k l =
    place x (at + length b + k) (at + (length b + k)) (omega arith)
    ∙ h (length b + k) (omega (arith, length-append b r)) ∙ get_or-append-add b r k 0

pub text-append : (x : List ℕ) (at : ℕ) (b r : List ℕ) → Text x at b → Text x (at + length b) r → Text x at (b ++ r)
text-append x at b r h g k l = go (dec_lt k (length b))
  where
    go : Dec (k < length b) → get_or x (at + k) 0 ≡ get_or (b ++ r) k 0
    go (yes m) = h k m ∙ sym (get_or-append b r 0 k m)
    go (no m) =
        let j : ℕ = k - length b in
        place x (at + k) (at + length b + j) (omega arith) ∙ g j (omega (arith, length-append b r))
        ∙ sym (get_or-append-add b r j 0) ∙ place (b ++ r) (length b + j) k (omega arith)

-- a text stands wherever the same bytes stand
pub text-kept : (x : List ℕ) (a : ℕ) (y : List ℕ) (b : ℕ) (t : List ℕ) → Text x a t → Same y b x a (length t) → Text y b t
text-kept x a y b t h s k l = s k l ∙ h k l

pub same_text : (x : List ℕ) (a : ℕ) (y : List ℕ) (b : ℕ) (t : List ℕ) → Text x a t → Text y b t → Same x a y b (length t)
same_text x a y b t h g k l = h k l ∙ sym (g k l)

-- a text inside the image is the part where it stands
pub text-part : (x : List ℕ) (at : ℕ) (t : List ℕ) → at + length t ≤ length x → Text x at t → part x at (length t) ≡ t
text-part x at t f h =
    ext_get_or 0 (part x at (length t)) t (part_length x at (length t) f)
    (λ i l. let m : i < length t = rw (part_length x at (length t) f) at l in part_at x at (length t) i m ∙ h i m)

pub part-text : (x : List ℕ) (at n : ℕ) → at + n ≤ length x → Text x at (part x at n)
part-text x at n f k l = sym (part_at x at n k (rw (part_length x at n f) at l))
