-- Laws of big-endian numbers: their halves, the number with its bytes turned round, that they read back, and numbers in a row.
use Prim.Native.Nat.{ℕ, zero, suc, ◌+◌, ◌*◌, ◌/◌, ◌%◌, ◌^◌, ◌<◌}
use mathlib.Core.Path.{◌≡◌, refl, sym, ◌∙◌, ap}
use mathlib.Core.List.{List, [], ◌∷◌, ◌++◌, append_assoc, append-nil}
use native.Mathlib.Nat.{add-zero, add-suc, zero-mul, suc-mul, mul_assoc, pow-suc, pow-succ', div-one, div-div-eq-div-mul}
use native.Mathlib.Numerals.{add-one}
use native.Mathlib.Decide.{ℕ_discrete}
use native.Mathlib.Omega.{arith}
use lib.ListN.{length, get_or, length-append}
use lib.Seq.{get_or_at}
use Rattle.std.specs.Int.{w32, w64, swap_bytes, to_be_bytes, bytes_low_first, bytes_high_first}
use Rattle.std.proofs.lemmas.Nat.{le_bytes_4, le_bytes_8}
use Rattle.gsd_format.specs.Bytes.{le, le_bytes, stored}
use Rattle.gsd_format.proofs.Bytes.{Text, stored-then}
use Rattle.gsd_format.proofs.Texts.{text-front, text-back}
use Rattle.gsd_xdr.specs.Xdr.{be, be_bytes, be_row, numbers}

pub be_bytes-length : (k w : ℕ) → length (be_bytes k w) ≡ k
unfolding be_bytes
be_bytes-length zero w = refl
be_bytes-length (suc k) w = length-append (be_bytes k (w / 256)) (w % 256 ∷ []) ∙ (let h = be_bytes-length k (w / 256) in omega arith)

-- the bytes of a number: the n of what stands above the low m, then these
pub be_bytes-append : (n m w : ℕ) → be_bytes (n + m) w ≡ be_bytes n (w / 256 ^ m) ++ be_bytes m w
unfolding be_bytes
be_bytes-append n zero w = rw (add-zero, div-one) (sym (append-nil (be_bytes n w)))
be_bytes-append n (suc m) w =
    rw (add-suc, pow-succ', ← div-div-eq-div-mul, be_bytes)
    (ap (λ l. l ++ (w % 256 ∷ [])) (be_bytes-append n m (w / 256)) ∙ append_assoc (be_bytes n (w / 256 / 256 ^ m)) (be_bytes m (w / 256)) (w % 256 ∷ []))

-- what stands above the k low bytes is not among them
one_more : (k b : ℕ) → 256 ^ suc k * b ≡ 256 * (256 ^ k * b)
one_more k b = ap (λ p. p * b) (pow-succ' 256 k) ∙ mul_assoc 256 (256 ^ k) b

byte_above : (a t u : ℕ) → t ≡ 256 * u → (a + t) % 256 ≡ a % 256
byte_above a t u e = omega arith

rest-above : (a t u : ℕ) → t ≡ 256 * u → (a + t) / 256 ≡ a / 256 + u
rest-above a t u e = omega arith

low-le : (k a b : ℕ) → le_bytes k (a + 256 ^ k * b) ≡ le_bytes k a
unfolding le_bytes
low-le zero a b = refl
low-le (suc k) a b =
    rw (byte_above a (256 ^ suc k * b) (256 ^ k * b) (one_more k b), rest-above a (256 ^ suc k * b) (256 ^ k * b) (one_more k b), low-le k (a / 256) b)

pub low-be : (k a b : ℕ) → be_bytes k (a + 256 ^ k * b) ≡ be_bytes k a
unfolding be_bytes
low-be zero a b = refl
low-be (suc k) a b =
    rw (byte_above a (256 ^ suc k * b) (256 ^ k * b) (one_more k b), rest-above a (256 ^ suc k * b) (256 ^ k * b) (one_more k b), low-be k (a / 256) b)

-- std's bytes of a number, either way round

low-first : (i k n : ℕ) → le_bytes k (n / 256 ^ i) ≡ bytes_low_first i k n
unfolding le_bytes
low-first i zero n = refl
low-first zero (suc k) n = ap (λ m. m % 256 ∷ le_bytes k (m / 256)) (div-one n) ∙ ap (λ l. n % 256 ∷ l) (low-first 1 k n)
low-first (suc i) (suc k) n =
    ap (λ l. n / 256 ^ suc i % 256 ∷ l) (ap (le_bytes k) (div-div-eq-div-mul n (256 ^ suc i) 256 ∙ ap (λ p. n / p) (sym (pow-suc 256 (suc i)))) ∙ low-first (suc (suc i)) k n)

high-first : (k n : ℕ) → bytes_high_first k n ≡ be_bytes k n
unfolding be_bytes
high-first zero n = refl
high-first (suc zero) n = refl
high-first (suc (suc k)) n =
    let e : suc (suc k) ≡ 1 + suc k = omega arith in
    ap (λ l. n / 256 ^ suc k % 256 ∷ l) (high-first (suc k) n) ∙ sym (ap (λ m. be_bytes m n) e ∙ be_bytes-append 1 (suc k) n)

low_byte : (q : ℕ) → q % 256 < 256
low_byte q = omega arith

high-octets : (k n i : ℕ) → get_or (bytes_high_first k n) i 0 < 256
high-octets zero n i = omega arith
high-octets (suc zero) n zero = low_byte n
high-octets (suc (suc k)) n zero = low_byte (n / 256 ^ suc k)
high-octets (suc k) n (suc i) = high-octets k n i

-- turned round by std, the bytes of a number are its own, the highest first
pub swapped-single : (w : ℕ) → le_bytes 4 (swap_bytes w32 w) ≡ be_bytes 4 w
swapped-single w =
    ap (le_bytes 4) (sym (div-one _)) ∙ low-first 0 4 (swap_bytes w32 w)
    ∙ le_bytes_4 (to_be_bytes w32 w) (swap_bytes w32 w) refl (high-octets 4 w) (omega arith) ∙ high-first 4 w

pub swapped-double : (w : ℕ) → le_bytes 8 (swap_bytes w64 w) ≡ be_bytes 8 w
swapped-double w =
    ap (le_bytes 8) (sym (div-one _)) ∙ low-first 0 8 (swap_bytes w64 w)
    ∙ le_bytes_8 (to_be_bytes w64 w) (swap_bytes w64 w) refl (high-octets 8 w) (omega arith) ∙ high-first 8 w

-- a number reads back from where its bytes stand
pub be-text : (k w : ℕ) (x : List ℕ) (at : ℕ) → w < 256 ^ k → Text x at (be_bytes k w) → be k x at ≡ w
unfolding be be_bytes
be-text zero w x at h t = omega arith
be-text (suc k) w x at h t =
    let n : length (be_bytes k (w / 256)) ≡ k = be_bytes-length k (w / 256) in
    let m : length (be_bytes k (w / 256) ++ (w % 256 ∷ [])) ≡ suc k = be_bytes-length (suc k) w in
    let high : be k x at ≡ w / 256 =
    be-text k (w / 256) x at (omega (arith, pow-suc 256 k)) (text-front x at (be_bytes k (w / 256)) (w % 256 ∷ []) t) in
    let last : get_or x (at + k) 0 ≡ w % 256 = t k (omega arith) ∙ get_or_at (be_bytes k (w / 256)) (w % 256) [] 0 k n in
    omega arith

-- the second part of a text, at its place told in another way
pub text-behind : (x : List ℕ) (at : ℕ) (a b : List ℕ) (p : ℕ) → Text x at (a ++ b) → p ≡ at + length a → Text x p b
text-behind x at a b p t e = rw e (text-back x at a b t)

-- Numbers in a row

module _ (k : ℕ) (w : ℕ → ℕ) where
  pub row-length : (n : ℕ) → length (be_row k w n) ≡ n * k
  unfolding be_row
  row-length zero = sym (zero-mul k)
  row-length (suc n) =
      length-append (be_row k w n) (be_bytes k (w n)) ∙ (λ i. row-length n i + be_bytes-length k (w n) i) ∙ sym (suc-mul n k)

  -- the store of one more, where what is stored is called v and its place p, and of the last
  pub store-next : (out₀ : List ℕ) (to i v p : ℕ) (out out' : List ℕ) → out ≡ stored out₀ to (be_row k w i) → v ≡ w i → p ≡ to + i * k →
      out' ≡ stored out p (be_bytes k v) → out' ≡ stored out₀ to (be_row k w (i + 1))
  unfolding be_row
  store-next out₀ to i v p out out' e q r f =
      f ∙ (λ j. stored (e j) (r j) (be_bytes k (q j)))
      ∙ stored-then out₀ to (be_row k w i) (be_bytes k (w i)) (to + i * k) (ap (λ m. to + m) (row-length i))
      ∙ rw add-one

  pub store-all : (out₀ : List ℕ) (to i n : ℕ) (out : List ℕ) → i ≡ n → out ≡ stored out₀ to (be_row k w i) → out ≡ stored out₀ to (be_row k w n)
  store-all out₀ to i n out e p = p ∙ ap (λ m. stored out₀ to (be_row k w m)) e

  -- the i-th stands i times k bytes behind the first
  pub row-text : (n i : ℕ) (x : List ℕ) (at : ℕ) → i < n → Text x at (be_row k w n) → Text x (at + i * k) (be_bytes k (w i))
  unfolding be_row
  row-text zero i x at l t = absurd (omega arith)
  row-text (suc n) i x at l t = go (row-text n i x at) (ℕ_discrete i n)
    where
      go : (i < n → Text x at (be_row k w n) → Text x (at + i * k) (be_bytes k (w i))) → Dec (i ≡ n) → Text x (at + i * k) (be_bytes k (w i))
      go f (yes e) = rw e (text-behind x at (be_row k w n) (be_bytes k (w n)) (at + n * k) t (ap (λ m. at + m) (sym (row-length n))))
      go f (no e) = f (omega arith) (text-front x at (be_row k w n) (be_bytes k (w n)) t)

  -- and reads as it is
  pub row-be : (n i : ℕ) (x : List ℕ) (at : ℕ) → i < n → w i < 256 ^ k → Text x at (be_row k w n) → be k x (at + i * k) ≡ w i
  row-be n i x at l b t = be-text k (w i) x (at + i * k) b (row-text n i x at l t)

-- a number that was read at a place is the i-th
pub number_is : (k : ℕ) (s : List ℕ) (from i v p : ℕ) → v ≡ le k s p → p ≡ from + i * k → v ≡ numbers k s from i
number_is k s from i v p e r = e ∙ ap (le k s) r
