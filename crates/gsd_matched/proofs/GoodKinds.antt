-- Lists of good extents, and those of a block that may move.
use Prim.Native.Nat.{ℕ, zero, suc, ◌+◌, ◌*◌, ◌-◌, ◌%◌, ◌≤◌, ◌<◌}
use mathlib.Core.Path.{◌≡◌, refl, ◌∙◌}
use mathlib.Core.Bool.{Bool, true, false, cond}
use mathlib.Core.List.{List, ◌++◌}
use native.Mathlib.Decide.{ℕ_discrete}
use native.Mathlib.Omega.{arith}
use lib.ListN.{length}
use borrow.Author.Tests.{ne_eqb}
use Rattle.gsd_format.specs.Header.{greatest_length}
use Rattle.gsd_format.proofs.Lists.{Each, each_append}
use Rattle.gsd_stores.proofs.Plan.{taken}
use Rattle.gsd_extents.specs.declared.extent.Extent.{Extent}
use Rattle.gsd_extents.specs.Exec.{Good}
use Rattle.gsd_extents.proofs.Extents.{good-number, good-copied}
use Rattle.gsd_steps.specs.declared.Move.{Move}
use Rattle.gsd_steps.specs.Steps.{listed, if_moved, move_extent, tab, Small}
use Rattle.gsd_matched.proofs.Blocks.{Moving}

-- all extents of a list are good
pub record AllGood (n m : ℕ) (es : List Extent) : Type 0 where
  pub each : Each (Good n m) es

infixl 20 ◌⊹◌
pub ◌⊹◌ : {n m : ℕ} {a b : List Extent} → AllGood n m a → AllGood n m b → AllGood n m (a ++ b)
◌⊹◌ {n} {m} {a} {b} f g = record { each = each_append (Good n m) a b f.each g.each }

pub good-tab : {n m : ℕ} (f : ℕ → Extent) (i k : ℕ) → ((j : ℕ) → j < i + k → Good n m (f j)) → AllGood n m (tab f i k)
unfolding tab
good-tab f i zero h = record { each = tt }
good-tab f i (suc k) h = record { each = (h i (omega arith), (good-tab f (suc i) k (λ j l. h j (omega arith))).each) }

-- Blocks that may move

-- the extents of such a block can be computed and keep to an image of n bytes
pub record Held (n : ℕ) (b : Move) : Type 0 where
  pub small : Small b
  pub order : b.from ≤ b.until
  pub listed_in : (b.count ≡ 0 → ⊥) → listed b ≤ b.words
  pub even : b.to % 8 ≡ 0
  pub word : b.header % 8 ≡ 0
  pub low : b.header + 16 ≤ n
  pub high : b.until ≤ n
  pub room : (b.count ≡ 0 → ⊥) → b.to + 8 * b.words ≤ n

module _ {n m : ℕ} (b : Move) (h : Held n b) where
  good-moved : (e : Extent) → ((b.count ≡ 0 → ⊥) → Good n m e) → Good n m (if_moved b e)
  good-moved e f = go (ℕ_discrete b.count 0)
    where
      go : Dec (b.count ≡ 0) → Good n m (if_moved b e)
      go (yes z) = rw z (good-number 0 0 0 refl (omega arith))
      go (no z) = rw (ne_eqb b.count 0 z) (f z)

  pub good-block : AllGood n m (tab (move_extent b) 0 4)
  unfolding tab move_extent
  good-block =
      let copy = good-moved _ (λ z.
      good-copied b.to (listed b) b.from b.until h.even (omega (arith, h.listed_in z, h.room z)) h.order h.high) in
      let clear = good-moved _ (λ z.
      good-number (b.to + 8 * listed b) (b.words - listed b) 0 (omega (arith, h.even)) (omega (arith, h.listed_in z, h.room z))) in
      let place = good-moved _ (λ z. good-number b.header 1 b.to h.word (omega (arith, h.low))) in
      let size = good-moved _ (λ z. good-number (b.header + 8) 1 b.count (omega (arith, h.word)) (omega (arith, h.low))) in
      record { each = (copy, (clear, (place, (size, tt)))) }

-- a count that is 0 where the flag says no: another one tells the flag
flagged : (flag : Bool) (total : ℕ) → (cond flag total 0 ≡ 0 → ⊥) → flag ≡ true
flagged true total f = refl
flagged false total f = absurd (f refl)

-- and what holds of 0 and, where the flag says yes, of the total, holds of it
if-flagged : (P : ℕ → Type 0) (flag : Bool) (total : ℕ) → (flag ≡ true → P total) → P 0 → P (cond flag total 0)
if-flagged P true total f z = f refl
if-flagged P false total f z = z

pub moving-held : {b : Move} {old new n total : ℕ} (flag : Bool) (t : List ℕ) (len : ℕ) → Moving b flag old t new n total → new % 8 ≡ 0 →
    b.header % 8 ≡ 0 → b.header + 16 ≤ len → old + length t ≤ len → len ≤ greatest_length → new ≤ greatest_length → (flag ≡ true → new + 8 * n ≤ len) → (total ≤ n) → Held len b
moving-held {b} {old} {new} {n} {total} flag t len m even word low high a c room few =
    let yes_of : ((b.count ≡ 0 → ⊥) → flag ≡ true) = λ z. flagged flag total (λ e. z (m.count ∙ e)) in
    let size : ((b.count ≡ 0 → ⊥) → b.words ≡ n) = λ z. m.words ∙ taken flag n 0 (yes_of z) in
    record {
      small = record {
        to = omega (arith, m.to);
        until = omega (arith, m.until);
        count = rw m.count (if-flagged (λ k. k ≤ greatest_length) flag total (λ e. omega (arith, room e)) (omega arith));
      };
      order = omega (arith, m.from, m.until);
      listed_in = λ z. omega (arith, m.from, m.until, size z, m.fits);
      even = rw m.to even;
      word = word;
      low = low;
      high = omega (arith, m.until);
      room = λ z. omega (arith, m.to, size z, room (yes_of z));
    }
