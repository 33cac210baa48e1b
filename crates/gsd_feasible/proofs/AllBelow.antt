-- Laws of a test of every number below n: it tells whether it holds of each.
use Prim.Native.Nat.{ℕ, zero, suc, ◌+◌, ◌<◌}
use mathlib.Core.Path.{◌≡◌, refl, sym, ◌∙◌, ap}
use mathlib.Core.Bool.{Bool, true, ◌&&◌}
use native.Mathlib.Nat.{add-zero, zero-add}
use native.Mathlib.Numerals.{add-one}
use native.Mathlib.Omega.{arith}
use native.Mathlib.Decide.{ℕ_discrete}
use Rattle.std.specs.List.{list_all, range_with_len}
use Rattle.std.proofs.Math.Bool.{and_assoc, and-true}
use Rattle.gsd_format.proofs.Refusals.{both_true, both_of}
use Rattle.gsd_feasible.specs.Feasible.{all_below}

module _ (f : ℕ → Bool) where
  pub all-each : (n : ℕ) → all_below n f ≡ true → (i : ℕ) → i < n → f i ≡ true
  unfolding all_below
  all-each zero h i l = absurd (omega arith)
  all-each (suc n) h i l = go (all-each n) (ℕ_discrete i n)
    where
      go : (all_below n f ≡ true → (j : ℕ) → j < n → f j ≡ true) → Dec (i ≡ n) → f i ≡ true
      go r (yes e) = rw e (both_true (all_below n f) (f n) h).1
      go r (no a) = r (both_true (all_below n f) (f n) h).0 i (omega arith)

  pub each_all : (n : ℕ) → ((i : ℕ) → i < n → f i ≡ true) → all_below n f ≡ true
  unfolding all_below
  each_all zero h = refl
  each_all (suc n) h = both_of (all_below n f) (f n) (each_all n (λ i l. h i (omega arith))) (h n (omega arith))

  -- an iterator's test of the numbers from a on
  from-range : (a n : ℕ) → (all_below a f && list_all f (range_with_len a n)) ≡ all_below (a + n) f
  unfolding all_below
  from-range a zero = and-true (all_below a f) ∙ ap (λ k. all_below k f) (sym (add-zero a))
  from-range a (suc n) =
      let one : all_below (a + 1) f ≡ (all_below a f && f a) = rw (add-one, all_below) in
      let last : a + 1 + n ≡ a + suc n = omega arith in
      sym (and_assoc (all_below a f) (f a) (list_all f (range_with_len (a + 1) n)))
      ∙ ap (λ t. t && list_all f (range_with_len (a + 1) n)) (sym one) ∙ from-range (a + 1) n ∙ ap (λ k. all_below k f) last

  pub all-range : (n : ℕ) → list_all f (range_with_len 0 n) ≡ all_below n f
  unfolding all_below
  all-range n = from-range 0 n ∙ ap (λ k. all_below k f) (zero-add n)
