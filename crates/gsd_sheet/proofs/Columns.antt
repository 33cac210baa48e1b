-- Laws of a column that is filled one number after the other, and of columns that are kept while others are filled.
use Prim.Native.Nat.{ℕ, ◌+◌, ◌≤◌, ◌<◌}
use mathlib.Core.Path.{◌≡◌, refl, ◌∙◌}
use mathlib.Core.List.{List}
use native.Mathlib.Omega.{arith}
use lib.ListN.{length, get_or, set, length-set}
use lib.Seq.{get_or-set_same, get_or-set_other}
use borrow.Author.Count.{below_more}
use Rattle.gsd_sheet.specs.Columns.{Filled, Kept}

module _ {b : ℕ} {f : ℕ → ℕ} {c : List ℕ} where
  pub filled_none : Filled b f c 0
  filled_none = record { at = λ i h. absurd (omega arith) }

  pub filled-to : {n m : ℕ} → n ≡ m → Filled b f c n → Filled b f c m
  filled-to e h = record { at = λ i l. h.at i (omega arith) }

  -- a number is put behind the last one, or outside of what is filled
  pub filled_more : {n v : ℕ} → Filled b f c n → b + n < length c → v ≡ f n → Filled b f (set c (b + n) v) (n + 1)
  filled_more {n} {v} h l e = record {
    at = below_more (λ i. get_or (set c (b + n) v) (b + i) 0 ≡ f i) n
        (λ i m. get_or-set_other c (b + n) (b + i) v 0 (λ q. omega arith) ∙ h.at i m)
        (get_or-set_same c (b + n) v 0 l ∙ e);
  }

  pub filled_off : {n : ℕ} → Filled b f c n → (k v : ℕ) → (b ≤ k → k < b + n → ⊥) → Filled b f (set c k v) n
  filled_off h k v o = record { at = λ i l. get_or-set_other c k (b + i) v 0 (λ q. o (omega arith) (omega arith)) ∙ h.at i l }

  pub filled-kept : {base n : ℕ} {c' : List ℕ} → Kept base c c' → b + n ≤ base → Filled b f c n → Filled b f c' n
  filled-kept k l h = record { at = λ i m. k.at (b + i) (omega arith) ∙ h.at i m }

module _ {base : ℕ} {c : List ℕ} where
  pub kept-none : Kept base c c
  kept-none = record { long = refl; at = λ k l. refl }

  -- a number is put into a later column
  pub kept_more : {c' : List ℕ} → Kept base c c' → (k v : ℕ) → base ≤ k → Kept base c (set c' k v)
  kept_more {c'} h k v l = record { long = length-set c' k v ∙ h.long; at = λ i m. get_or-set_other c' k i v 0 (λ q. omega arith) ∙ h.at i m }

  pub kept_trans : {c' c'' : List ℕ} → Kept base c c' → Kept base c' c'' → Kept base c c''
  kept_trans h g = record { long = g.long ∙ h.long; at = λ k l. g.at k l ∙ h.at k l }

  pub kept_less : {less : ℕ} {c' : List ℕ} → Kept base c c' → less ≤ base → Kept less c c'
  kept_less h l = record { long = h.long; at = λ k m. h.at k (omega arith) }
