-- Demand 3 about the append of this crate: from any image that opens, over any appends one after the other, each made by the joined
-- call or by a beginning and its turns. And that a reader is a snapshot over them.
use Rattle.std.specs.Prelude.{Ok}
use Prim.Native.Nat.{ℕ, ◌≤◌}
use mathlib.Core.Path.{◌≡◌, refl, sym, ◌∙◌, ap, subst}
use mathlib.Core.Bool.{true}
use mathlib.Core.List.{List, [], ◌∷◌}
use native.Mathlib.Omega.{arith}
use lib.ListN.{length}
use borrow.Author.Tests.{eqb-true, leb-true, eq-eqb, le-leb}
use Rattle.gsd_format.specs.declared.Reader.{Reader}
use Rattle.gsd_format.specs.Opening.{verdict}
use Rattle.gsd_format.specs.Readers.{reading, Reads}
use Rattle.gsd_format.proofs.Refusals.{both_true, both_of}
use Rattle.gsd_stores.specs.Append.{Answer, stores_for, append_answer}
use Rattle.gsd_stores.specs.Runs.{Call, stores_made, after_stores, Moment, during, Follows, from_start, in_call, after_call, after_run, last_store_made}
use Rattle.gsd_stores.specs.Demand3.{Demand3}
use Rattle.gsd_stores.proofs.Limits.{stopped}
use Rattle.gsd_stores.proofs.Runs.{end-moment}
use Rattle.gsd_stores.proofs.Demand3.{demand3}
use Rattle.gsd_stores.proofs.Snapshot.{snapshot}
use Rattle.gsd_append.proofs.Calls.{Called, call-answers, call-leaves, InTurns, turns-append}

-- An append of a run, on the image x: by either way it answered r and left y. In turns the premise is part of `InTurns`: from the
-- beginning to the last turn nothing else writes the image or the sheet, and each turn takes what the one before gave
pub data Made (x : List ℕ) (c : Call) (r : Answer) (y : List ℕ) : Type 0 where
  joined : Called x c r y → Made x c r y
  in_turns : InTurns x c r y → Made x c r y

module _ {x : List ℕ} {c : Call} {r : Answer} {y : List ℕ} where
  pub made-answers : Made x c r y → r ≡ append_answer x c.sheet c.limit
  made-answers (joined q) = call-answers q
  made-answers (in_turns q) = (turns-append q).0

  pub made-leaves : Made x c r y → y ≡ after_call x c
  made-leaves (joined q) = call-leaves q
  made-leaves (in_turns q) = (turns-append q).1

-- appends one after the other, each on the image that the one before left: from x to z
pub data Calls : List ℕ → List Call → List ℕ → Type 0 where
  none : {x : List ℕ} → Calls x [] x
  then : {x y z : List ℕ} {c : Call} {cs : List Call} (r : Answer) → Made x c r y → Calls y cs z → Calls x (c ∷ cs) z

pub calls-run : {x z : List ℕ} {cs : List Call} → Calls x cs z → z ≡ after_run x cs
unfolding after_run
calls-run none = refl
calls-run (then {cs = cs} r p q) = calls-run q ∙ ap (λ m. after_run m cs) (made-leaves p)

-- the image that they leave is that of the run, and of this run demand 3 holds
pub record Kept (x : List ℕ) (cs : List Call) (z : List ℕ) : Type 0 where
  pub left : z ≡ after_run x cs
  pub demand : Demand3 x cs

pub append-keeps : {x z : List ℕ} {cs : List Call} → verdict x ≡ 0 → Calls x cs z → Kept x cs z
append-keeps {x} {cs = cs} o q = record { left = calls-run q; demand = demand3 x cs o }

-- a reader that was opened before them answers after them as the calls did then; of two moments of the run gsd_stores says the same
pub append-snapshot : {x z : List ℕ} {cs : List Call} → verdict x ≡ 0 → Calls x cs z → (r : Reader) → reading x ≡ Ok r → Reads r z x
append-snapshot {x} {cs = cs} o q r h = rw (calls-run q) (snapshot x cs o (from_start (end-moment x cs)) r h)

-- A moment of the run, in terms of calls: what the append with a smaller limit would have left, so also what a beginning has left with
-- the turns made so far. Of two such the one with the greater limit follows
abbrev pub stopped_at : Call → ℕ → Call
stopped_at c k = record { sheet = c.sheet; bytes = c.bytes; limit = k }

left_at : (x y : List ℕ) (c : Call) (r : Answer) (k : ℕ) → Made x (stopped_at c k) r y → after_stores x c k ≡ y
left_at x y c r k p = stopped x c.sheet k ∙ sym (made-leaves p)

pub append-moment : {x y : List ℕ} {c : Call} {cs : List Call} (k : ℕ) → k ≤ stores_made x c → (r : Answer) → Made x (stopped_at c k) r y →
    Moment x (c ∷ cs) y
append-moment {x} {y} {c} {cs} k h r p = subst (Moment x (c ∷ cs)) (left_at x y c r k p) (during k h)

pub append-follows : {x y z : List ℕ} {c : Call} {cs : List Call} (k l : ℕ) → k ≤ l → l ≤ stores_made x c → (r s : Answer) →
    Made x (stopped_at c k) r y → Made x (stopped_at c l) s z → Follows x (c ∷ cs) y z
append-follows {x} {y} {z} {c} k l h g r s p q = rw (← left_at x y c r k p, ← left_at x z c s l q) (in_call k l h g)

-- The last store was made exactly when the answer says so
module _ (x y : List ℕ) (c : Call) (r : Answer) (p : Made x c r y) where
  pub answer-whole : r.done ≡ r.whole → length (stores_for x c.sheet) ≤ c.limit
  unfolding append_answer
  answer-whole d = omega (arith, ap (λ a. a.done) (made-answers p), ap (λ a. a.whole) (made-answers p))

  pub answer-made : r.number ≡ 0 → r.done ≡ r.whole → last_store_made x c ≡ true
  unfolding last_store_made append_answer
  answer-made n d =
      let number = ap (λ a. a.number) (made-answers p) in
      both_of _ _ (eq-eqb _ _ (sym number ∙ n)) (le-leb (length (stores_for x c.sheet)) c.limit (answer-whole d))

  pub made-answer : last_store_made x c ≡ true → (r.number ≡ 0) × (r.done ≡ r.whole)
  unfolding last_store_made append_answer
  made-answer h =
      let both = both_true _ _ h in
      let few : length (stores_for x c.sheet) ≤ c.limit = leb-true _ _ both.1 in
      let done = ap (λ a. a.done) (made-answers p) in
      let whole = ap (λ a. a.whole) (made-answers p) in
      (ap (λ a. a.number) (made-answers p) ∙ eqb-true _ _ both.0, omega arith)
