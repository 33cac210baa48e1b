-- Laws of a product of three numbers that is tested by division.
use Prim.Native.Nat.{ℕ, zero, suc, ◌*◌, ◌/◌, ◌%◌, ◌<◌}
use mathlib.Core.Path.{◌≡◌, refl, sym, ◌∙◌, ap}
use mathlib.Core.Bool.{false, ◌&&◌}
use native.Mathlib.Nat.{mul-zero, zero-mul, mul-div_cancel, mul_comm, mod-add-div}
use native.Mathlib.Decide.{ℕ_discrete}
use native.Mathlib.Omega.{arith}
use lib.Dec.{eqb}
use borrow.Author.Tests.{eq-eqb, ne_eqb}

-- a factor 0
pub no-columns : (n m width : ℕ) → m ≡ 0 → n * m * width ≡ 0
no-columns n m width h = rw (h, mul-zero) (zero-mul width)

pub no-width : (n m width : ℕ) → width ≡ 0 → n * m * width ≡ 0
no-width n m width h = rw h (mul-zero (n * m))

-- a divisor leaves no rest exactly of its multiples
module _ (a b : ℕ) where
  no-rest : a % b ≡ 0 → a / b * b ≡ a
  no-rest h = omega (arith, mod-add-div a b, mul_comm b (a / b), h)

  rest : (a % b ≡ 0 → ⊥) → a / b * b ≡ a → ⊥
  rest h e = h (omega (arith, mod-add-div a b, mul_comm b (a / b), e))

above-0 : (n : ℕ) → (n ≡ 0 → ⊥) → 0 < n
above-0 zero h = absurd (h refl)
above-0 (suc n) h = omega arith

module _ (size n m width : ℕ) (w : width ≡ 0 → ⊥) where
  -- so many elements
  count : size ≡ n * m * width → size / width ≡ n * m
  count e = ap (λ s. s / width) e ∙ mul-div_cancel (n * m) (above-0 width w)

  pub ragged : (size % width ≡ 0 → ⊥) → eqb size (n * m * width) ≡ false
  ragged h = ne_eqb size (n * m * width) (λ e. rest size width h (ap (λ c. c * width) (count e) ∙ sym e))

  module _ (c : m ≡ 0 → ⊥) where
    rows : size ≡ n * m * width → size / width / m ≡ n
    rows e = ap (λ s. s / m) (count e) ∙ mul-div_cancel n (above-0 m c)

    pub ragged-rows : (size / width % m ≡ 0 → ⊥) → eqb size (n * m * width) ≡ false
    ragged-rows h = ne_eqb size (n * m * width) (λ e. rest (size / width) m h (ap (λ r. r * m) (rows e) ∙ sym (count e)))

    pub even : size % width ≡ 0 → size / width % m ≡ 0 → eqb (size / width / m) n ≡ eqb size (n * m * width)
    even h g = go (ℕ_discrete (size / width / m) n)
      where
        product : size / width / m ≡ n → size ≡ n * m * width
        product e = sym (no-rest size width h) ∙ ap (λ k. k * width) (sym (no-rest (size / width) m g) ∙ ap (λ k. k * m) e)

        go : Dec (size / width / m ≡ n) → eqb (size / width / m) n ≡ eqb size (n * m * width)
        go (yes e) = eq-eqb _ _ e ∙ sym (eq-eqb _ _ (product e))
        go (no e) = ne_eqb _ _ e ∙ sym (ne_eqb _ _ (λ p. e (rows p)))

    -- the three tests in a row
    pub divided : (eqb (size % width) 0 && eqb (size / width % m) 0 && eqb (size / width / m) n) ≡ eqb size (n * m * width)
    divided = go (ℕ_discrete (size % width) 0) (ℕ_discrete (size / width % m) 0)
      where
        go : Dec (size % width ≡ 0) → Dec (size / width % m ≡ 0) → (eqb (size % width) 0 && eqb (size / width % m) 0 && eqb (size / width / m) n) ≡ eqb size (n * m * width)
        go (yes h) (yes g) = rw (eq-eqb _ _ h, eq-eqb _ _ g) (even h g)
        go (yes h) (no g) = rw (eq-eqb _ _ h, ne_eqb _ _ g) (sym (ragged-rows g))
        go (no h) g = rw (ne_eqb _ _ h) (sym (ragged h))
