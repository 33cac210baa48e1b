-- Beginnings: what one counts by its plan, and that what it gives can be carried on, which is the append.
use Prim.Native.Nat.{ℕ, ◌≤◌, ◌<◌, min}
use mathlib.Core.Path.{◌≡◌, ◌∙◌, ap}
use mathlib.Core.List.{List, ◌++◌}
use native.Mathlib.Omega.{arith}
use lib.ListN.{length, take}
use Rattle.gsd_format.specs.Header.{header_size}
use Rattle.gsd_stores.specs.View.{view_of}
use Rattle.gsd_stores.specs.Append.{append_test, append_answer, appended}
use Rattle.gsd_stores.specs.Runs.{Bytes}
use Rattle.gsd_extents.specs.Exec.{exec}
use Rattle.gsd_steps.specs.Steps.{FrontSound, Ready, copied_in}
use Rattle.gsd_turns.specs.Turns.{whole_of}
use Rattle.gsd_turns.proofs.Count.{count-extents}
use Rattle.gsd_matched.specs.Matches.{Matches}
use Rattle.gsd_plan.specs.Planning.{planned}
use Rattle.gsd_states.specs.declared.Counts.{Counts}
use Rattle.gsd_states.specs.States.{state_of, plan_in, left, Began, Counted}
use Rattle.gsd_states.proofs.States.{plan-put, plan-of, left-of}
use Rattle.gsd_states.proofs.Appends.{Carried, carried, append-ready, header-inside, plan-whole, plan-copied, accepted-append}

-- a plan that matches, put in front of the words, and its marks are the state of an accepted one
pub began-put : (x sheet p rest s : List ℕ) → Bytes x → Bytes sheet → Matches (view_of x) sheet (planned x sheet) p
    → s ≡ state_of (plan_in (p ++ rest)) x sheet 0 → Began x sheet s
began-put x sheet p rest s ox os m e = record {
  image = ox;
  rows = os;
  plan = p;
  matches = m;
  words = e ∙ ap (λ q. state_of q x sheet 0) (plan-put p rest m.long);
}

module _ {x sheet s : List ℕ} (ok : append_test x sheet ≡ 0) (b : Began x sheet s) where
  carries : Carried x sheet b.plan
  carries = carried ok b

  began-plan : plan_in s ≡ b.plan
  began-plan = ap plan_in b.words ∙ plan-of b.plan x sheet 0 b.matches.long

  began-ready : Ready (length x) sheet (plan_in s)
  began-ready = rw began-plan (append-ready carries)

  pub began-front : FrontSound (plan_in s)
  began-front = began-ready.sound.front

  pub began-count : whole_of (plan_in s) < 18446744073709551616
  began-count = omega (arith, count-extents sheet (plan_in s), began-ready.count)

  pub accepted-begins : (whole copies : ℕ) → whole ≡ whole_of (plan_in s) → copies ≡ copied_in (plan_in s)
      → Counted x sheet (record { whole = whole; copied = copies }) s
  accepted-begins whole copies w c = record {
    whole = w ∙ ap whole_of began-plan ∙ plan-whole carries;
    copied = c ∙ ap copied_in began-plan ∙ plan-copied carries;
    state = b;
  }

-- and carried on it is the append
module _ {x sheet s : List ℕ} {b : Counts} (ok : append_test x sheet ≡ 0) (h : Counted x sheet b s) where
  pub begins-ready : (header_size ≤ length x) × Ready (length x) sheet (plan_in s)
  begins-ready = ((header-inside (carries ok h.state)).0, began-ready ok h.state)

  pub begins-append : (limit done : ℕ) (y : List ℕ) → done ≡ min limit (length (left s sheet)) → y ≡ exec sheet x (take done (left s sheet))
      → (record { number = 0; done = done; whole = b.whole; copied = b.copied } ≡ append_answer x sheet limit) × (y ≡ appended x sheet limit)
  begins-append limit done y d e =
      let began = h.state in
      let all = ap (λ w. left w sheet) began.words ∙ left-of began.plan x sheet 0 began.matches.long sheet in
      let r = accepted-append (carried ok began) limit done y (d ∙ ap (λ l. min limit (length l)) all)
      (e ∙ ap (λ l. exec sheet x (take done l)) all) in
      ((λ i. record { number = 0; done = done; whole = h.whole i; copied = h.copied i }) ∙ r.0, r.1)
