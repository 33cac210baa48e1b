-- An accepted append, carried out by a plan that matches it: every prefix of the plan's tasks leaves what so many of the append's
-- stores leave.
use Prim.Native.Nat.{ℕ, zero, suc, ◌+◌, ◌-◌, ◌≤◌, min}
use mathlib.Core.Path.{◌≡◌, refl, sym, ◌∙◌, ap}
use mathlib.Core.List.{List}
use native.Mathlib.Nat.{zero-add}
use native.Mathlib.Omega.{arith}
use lib.ListN.{length, take, drop, length-drop}
use lib.Seq.{take-add}
use Rattle.gsd_format.specs.Header.{header_size, greatest_length}
use Rattle.gsd_format.proofs.Bytes.{Octets}
use Rattle.gsd_format.proofs.Refusals.{both}
use Rattle.gsd_stores.specs.Stores.{after}
use Rattle.gsd_stores.specs.View.{view_of}
use Rattle.gsd_stores.specs.Sheet.{rows_of, Exact}
use Rattle.gsd_stores.specs.Append.{append_test, stores_for, copied_entries, append_answer, appended}
use Rattle.gsd_stores.proofs.Sheet.{accepted}
use Rattle.gsd_stores.proofs.Valid.{Valid, valid, Ready as Accepted, ready}
use Rattle.gsd_stores.proofs.Limits.{refused-answer, refused-image}
use Rattle.gsd_stores.proofs.View.{Is}
use Rattle.gsd_stores.proofs.Shown.{opens-shown}
use Rattle.gsd_stores.proofs.Moments.{stores-are}
use Rattle.gsd_stores.proofs.Moving.{copied-where}
use Rattle.gsd_extents.specs.Exec.{tasks, exec, stores_of}
use Rattle.gsd_extents.proofs.Tasks.{exec-append, exec-after, stores_of-length}
use Rattle.gsd_matched.specs.Matches.{Matches}
use Rattle.gsd_plan.specs.Planning.{planned}
use Rattle.gsd_steps.specs.Numbers.{rows_in}
use Rattle.gsd_steps.specs.Steps.{extents_of, Ready, copied_in}
use Rattle.gsd_matched.proofs.Moves.{entries-copied}
use Rattle.gsd_matched.proofs.StoreList.{stores-listed}
use Rattle.gsd_matched.proofs.GoodExtents.{plan-ready}
use Rattle.gsd_turns.specs.Turns.{whole_of}
use Rattle.gsd_turns.proofs.Count.{count-extents}
use Rattle.gsd_states.specs.States.{Began}

accepted-exact : (x sheet : List ℕ) → append_test x sheet ≡ 0 → Exact sheet
unfolding append_test
accepted-exact x sheet h = (accepted _ sheet (both _ _ (both _ _ (both _ _ h).1).1).0).exact

-- a refused append
pub refused-append : (x sheet : List ℕ) (limit k : ℕ) → k ≡ append_test x sheet → (k ≡ 0 → ⊥)
    → (record { number = k; done = 0; whole = 0; copied = 0 } ≡ append_answer x sheet limit) × (x ≡ appended x sheet limit)
refused-append x sheet limit zero e f = absurd (f refl)
refused-append x sheet limit (suc n) e f = (sym (refused-answer x sheet limit n (sym e)), sym (refused-image x sheet limit n (sym e)))

-- an accepted append, and a plan that matches it
pub record Carried (x sheet p : List ℕ) : Type 0 where
  pub accepts : append_test x sheet ≡ 0
  pub image : Octets x
  pub rows : Octets sheet
  pub plan : Matches (view_of x) sheet (planned x sheet) p

pub carried : {x sheet s : List ℕ} → append_test x sheet ≡ 0 → (b : Began x sheet s) → Carried x sheet b.plan
carried ok b = record { accepts = ok; image = b.image; rows = b.rows; plan = b.matches }

module _ {x sheet p : List ℕ} (h : Carried x sheet p) where
  valid-rows : Valid x (rows_of sheet)
  valid-rows = valid x sheet h.rows h.accepts

  ready-plan : Accepted (view_of x) (rows_of sheet) (planned x sheet)
  ready-plan = ready x (rows_of sheet) valid-rows

  shown : Is x (view_of x)
  shown = opens-shown x valid-rows.opens valid-rows.recent

  pub plan-stores : stores_of sheet x (tasks (extents_of sheet p)) ≡ stores_for x sheet
  plan-stores = stores-listed sheet ready-plan shown (accepted-exact x sheet h.accepts) h.image h.rows p h.plan ∙ sym (stores-are x sheet h.accepts)

  pub plan-count : length (tasks (extents_of sheet p)) ≡ length (stores_for x sheet)
  plan-count = sym (stores_of-length sheet x (tasks (extents_of sheet p))) ∙ ap length plan-stores

  pub plan-prefix : (k : ℕ) → exec sheet x (take k (tasks (extents_of sheet p))) ≡ after x (take k (stores_for x sheet))
  plan-prefix k = exec-after sheet x (tasks (extents_of sheet p)) k ∙ ap (λ xs. after x (take k xs)) plan-stores

  pub append-ready : Ready (length x) sheet p
  append-ready = plan-ready sheet ready-plan shown (accepted-exact x sheet h.accepts) p h.plan valid-rows.few

  pub some-rows : 1 ≤ rows_in p
  some-rows = omega (arith, h.plan.numbers.rows, valid-rows.some)

  pub header-inside : (header_size ≤ length x) × (length x ≤ greatest_length)
  header-inside = (shown.front.low, shown.front.high)

  -- how many stores there are, and how many entries step 5 copies, follows from the plan alone
  pub plan-whole : whole_of p ≡ length (stores_for x sheet)
  plan-whole = sym (count-extents sheet p) ∙ plan-count

  pub plan-copied : copied_in p ≡ copied_entries x sheet
  unfolding view_of
  plan-copied = entries-copied ready-plan shown h.plan.numbers ∙ sym (copied-where x sheet valid-rows h.accepts)

  -- where k stores are made, the next m tasks are the next m stores
  pub next-tasks : (k m : ℕ) (y z : List ℕ) → y ≡ after x (take k (stores_for x sheet)) → z ≡ exec sheet y (take m (drop k (tasks (extents_of sheet p))))
      → z ≡ after x (take (k + m) (stores_for x sheet))
  next-tasks k m y z e f =
      let all = tasks (extents_of sheet p) in
      f
      ∙ ap (λ l. exec sheet l (take m (drop k all))) (e ∙ sym (plan-prefix k))
      ∙ sym (exec-append sheet x (take k all) (take m (drop k all)))
      ∙ ap (exec sheet x) (sym (take-add k m all))
      ∙ plan-prefix (k + m)

  pub tasks-left : (k : ℕ) → length (drop k (tasks (extents_of sheet p))) ≡ length (stores_for x sheet) - k
  tasks-left k = length-drop k (tasks (extents_of sheet p)) ∙ ap (λ n. n - k) plan-count

  -- so the first stores of a plan are those of the append
  pub accepted-append : (limit done : ℕ) (y : List ℕ) → done ≡ min limit (length (drop 0 (tasks (extents_of sheet p))))
      → y ≡ exec sheet x (take done (drop 0 (tasks (extents_of sheet p))))
      → (record { number = 0; done = done; whole = length (stores_for x sheet); copied = copied_entries x sheet } ≡ append_answer x sheet limit)
      × (y ≡ appended x sheet limit)
  unfolding append_answer appended after
  accepted-append limit done y d e =
      let made : done ≡ min limit (length (stores_for x sheet)) = omega (arith, d, tasks-left 0) in (
        (λ i. record { number = sym h.accepts i; done = made i; whole = length (stores_for x sheet); copied = copied_entries x sheet }),
        next-tasks 0 done x y refl e ∙ ap (λ n. after x (take n (stores_for x sheet))) (zero-add done ∙ made),
      )
