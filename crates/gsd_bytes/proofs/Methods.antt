-- Laws that join std's words with those of gsd_format: numbers read and stored, comparison, copies and zeros.
use Rattle.std.proofs.Common.{◌≡◌, ℕ, zero, suc, ◌+◌, ◌/◌, ◌%◌, ◌^◌, ◌<◌, ◌≤◌, Bool, true, false, ◌&&◌, ◌||◌, nat_eq, List, [], ◌∷◌, ◌++◌, length, take, drop, get_or, w16, w32, w64, sym, refl, ap, ◌∙◌, arith, append_assoc, drop-drop, drop-cons, add-one, zero-add, pow-suc}
use native.Mathlib.Nat.{div-div-eq-div-mul}
use borrow.Rule.Slice.PartMut.{put_mid}
use Rattle.std.specs.Int.{from_le_bytes, to_le_bytes, bytes_low_first}
use Rattle.std.specs.Cmp.Lexicographic.{pointwise}
use Rattle.std.specs.List.{list_any}
use Rattle.gsd_format.specs.Bytes.{le, le_bytes, part, same, zero_in, stored}
use Rattle.gsd_format.proofs.Bytes.{le_same, part_at, stored-paste}

-- Numbers

pub read-two : (xs : List ℕ) → from_le_bytes w16 xs ≡ le 2 xs 0
unfolding le
read-two xs = omega arith

pub read-four : (xs : List ℕ) → from_le_bytes w32 xs ≡ le 4 xs 0
unfolding le
read-four xs = omega arith

pub read-eight : (xs : List ℕ) → from_le_bytes w64 xs ≡ le 8 xs 0
unfolding le
read-eight xs = omega arith

-- the number of a part is that of the bytes where it stands
pub read-part : (n : ℕ) (s xs : List ℕ) (at r : ℕ) → xs ≡ part s at n → r ≡ le n xs 0 → r ≡ le n s at
read-part n s xs at r e f =
    f ∙ ap (λ l. le n l 0) e ∙ le_same n (part s at n) 0 s at (λ k l. ap (λ i. get_or (part s at n) i 0) (zero-add k) ∙ part_at s at n k l)

low-bytes : (k i w : ℕ) → bytes_low_first (suc i) k w ≡ le_bytes k (w / 256 ^ suc i)
unfolding le_bytes
low-bytes zero i w = refl
low-bytes (suc k) i w =
    let next : w / 256 ^ suc (suc i) ≡ w / 256 ^ suc i / 256 = rw (pow-suc 256 (suc i)) (sym (div-div-eq-div-mul w (256 ^ suc i) 256)) in
    ap (λ l. w / 256 ^ suc i % 256 ∷ l) (low-bytes k (suc i) w ∙ ap (le_bytes k) next)

pub bytes-eight : (w : ℕ) → to_le_bytes w64 w ≡ le_bytes 8 w
unfolding le_bytes
bytes-eight w = ap (λ l. w % 256 ∷ l) (low-bytes 7 0 w)

pub bytes-four : (w : ℕ) → take 4 (to_le_bytes w64 w) ≡ le_bytes 4 w
unfolding le_bytes
bytes-four w = ap (take 4) (bytes-eight w)

-- Copies

pub stored-mid : (s t y : List ℕ) (at n : ℕ) → y ≡ t → n ≡ length t → at + length t ≤ length s → put_mid at n s y ≡ stored s at t
stored-mid s t y at n e m h =
    ap (λ l. put_mid at n s l) e ∙ ap (λ k. put_mid at k s t) m ∙ ap (λ l. take at s ++ (t ++ l)) (drop-drop (length t) at s)
    ∙ sym (append_assoc (take at s) t (drop (at + length t) s)) ∙ sym (stored-paste s at t h)

-- Comparison

pub same-pointwise : (s t : List ℕ) → pointwise nat_eq s t ≡ same s t
unfolding same
same-pointwise [] [] = refl
same-pointwise [] (b ∷ t) = refl
same-pointwise (a ∷ s) [] = refl
same-pointwise (a ∷ s) (b ∷ t) = go (nat_eq a b) (same-pointwise s t)
  where
    go : (e : Bool) → pointwise nat_eq s t ≡ same s t → (e && pointwise nat_eq s t) ≡ elim e [ true ↦ same s t | false ↦ false ]
    go true h = h
    go false h = refl

-- Zeros

pub zero-any : (n : ℕ) (s : List ℕ) (i : ℕ) → i + n ≤ length s → list_any (λ b. nat_eq b 0) (part s i n) ≡ zero_in s i n
unfolding zero_in
zero-any zero s i h = refl
zero-any (suc n) s i h =
    let l : i < length s = omega arith in
    rw (drop-cons s i 0 l) (go (nat_eq (get_or s i 0) 0) (ap (λ k. list_any (λ b. nat_eq b 0) (take n (drop k s))) (sym (add-one i)) ∙ zero-any n s (i + 1) (omega arith)))
  where
    go : (e : Bool) → list_any (λ b. nat_eq b 0) (take n (drop (suc i) s)) ≡ zero_in s (i + 1) n
        → (e || list_any (λ b. nat_eq b 0) (take n (drop (suc i) s))) ≡ elim e [ true ↦ true | false ↦ zero_in s (i + 1) n ]
    go true h = refl
    go false h = h
