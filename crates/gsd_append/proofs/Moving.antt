-- What moving the index costs, about the append of this crate: the entries that its answers say were copied add up to the sum of the
-- run, and keep to its bounds where every call was whole.
use Prim.Native.Nat.{ℕ, ◌+◌, ◌*◌, ◌≤◌, ◌<◌}
use mathlib.Core.Path.{◌≡◌, refl, sym, ◌∙◌, ap, subst}
use mathlib.Core.List.{List}
use lib.ListN.{length}
use Rattle.gsd_format.specs.Entries.{entries_of}
use Rattle.gsd_format.specs.Opening.{verdict}
use Rattle.gsd_stores.specs.Append.{append_answer}
use Rattle.gsd_stores.specs.Runs.{Call, Begins, first, next}
use Rattle.gsd_stores.specs.Moving.{copied_sum, WholeRun, slots_of, MovingCosts}
use Rattle.gsd_stores.proofs.Moving.{moving-costs}
use Rattle.gsd_append.proofs.Demand3.{made-answers, made-leaves, Calls, none, then, calls-run, answer-whole}

-- what the answers of some calls add up to
unfoldable pub answered_sum : {x z : List ℕ} {cs : List Call} → Calls x cs z → ℕ
answered_sum none = 0
answered_sum (then r p q) = r.copied + answered_sum q

-- each made all its stores: a refused one has 0 of 0
unfoldable pub AllWhole : {x z : List ℕ} {cs : List Call} → Calls x cs z → Type 0
AllWhole none = Unit
AllWhole (then r p q) = (r.done ≡ r.whole) × AllWhole q

-- the answers add up to the sum of the run, stopped calls or not
pub answers-add : {x z : List ℕ} {cs : List Call} (q : Calls x cs z) → answered_sum q ≡ copied_sum x cs
unfolding answered_sum copied_sum append_answer
answers-add none = refl
answers-add (then {cs = cs} r p q) =
    λ i. (ap (λ a. a.copied) (made-answers p)) i + (answers-add q ∙ ap (λ m. copied_sum m cs) (made-leaves p)) i

whole-calls : {x z : List ℕ} {cs : List Call} (q : Calls x cs z) → AllWhole q → WholeRun x cs
unfolding AllWhole
whole-calls none _ y d b = elim b [ ]
whole-calls (then r p q) (w, ws) y d first = answer-whole _ _ d r p w
whole-calls (then {cs = cs} r p q) (w, ws) y d (next b) = whole-calls q ws y d (subst (λ m. Begins m cs y d) (sym (made-leaves p)) b)

-- from any image that opens
pub record CallsCost {x z : List ℕ} {cs : List Call} (q : Calls x cs z) : Type 0 where
  pub run : MovingCosts x cs
  pub slots : slots_of x + answered_sum q ≤ slots_of z
  -- if the index has moved at all
  pub entries : slots_of x < slots_of z → answered_sum q < 2 * length (entries_of z)

pub append-costs : {x z : List ℕ} {cs : List Call} → verdict x ≡ 0 → (q : Calls x cs z) → AllWhole q → CallsCost q
append-costs {x} {z} {cs} o q w =
    let run : MovingCosts x cs = moving-costs x cs o (whole-calls q w) in
    record {
      run = run;
      slots = rw (answers-add q, calls-run q) run.slots;
      entries = rw (answers-add q, calls-run q) (λ m. run.entries (run.moved m));
    }
