-- Laws of a state's words: the plan and the marks are found where they were put, and a turn goes on behind the stores made.
use Prim.Native.Nat.{ℕ, ◌+◌, ◌≤◌, ◌<◌, min}
use mathlib.Core.Path.{◌≡◌, refl, sym, ◌∙◌, ap}
use mathlib.Core.List.{List, [], ◌++◌, append-nil}
use native.Mathlib.Omega.{arith}
use mathlib.Core.Bool.{Bool, true, false}
use lib.ListN.{length, get_or, take, drop, length-drop, drop_of_length-le}
use lib.Seq.{length-take-le, take-append_seam, get_or-append-add}
use borrow.Author.Tests.{eq-eqb, eqb-true}
use Rattle.gsd_format.specs.Bytes.{stored}
use Rattle.gsd_format.specs.Header.{header_size, least_length}
use Rattle.gsd_format.proofs.Bytes.{stored-paste}
use Rattle.gsd_format.proofs.Refusals.{both, both_of, both_true}
use Rattle.gsd_format.proofs.Verdict.{verdict-zero}
use Rattle.gsd_stores.specs.Append.{append_test}
use Rattle.gsd_sheet.specs.Columns.{plan_words}
use Rattle.gsd_extents.specs.Exec.{tasks, exec}
use Rattle.gsd_steps.specs.Steps.{extents_of, Ready}
use Rattle.gsd_turns.specs.declared.turn.Cursor.{Cursor}
use Rattle.gsd_turns.specs.declared.turn.Turned.{Turned}
use Rattle.gsd_turns.specs.Turns.{ahead, Stands, TurnSays}
use Rattle.gsd_feasible.specs.Feasible.{feasible}
use Rattle.gsd_feasible.proofs.Plans.{feasible-ready, feasible-long}
use Rattle.gsd_states.specs.States.{state_words, marks, state_of, plan_in, length_in, sheet_in, done_in, same_header, expects, goes_on, fits, left}

-- what is stored to the end of a list lies behind the part that is kept
stored-tail : (s : List ℕ) (n : ℕ) (bs : List ℕ) → n + length bs ≡ length s → stored s n bs ≡ take n s ++ bs
stored-tail s n bs fill =
    let none : drop (n + length bs) s ≡ [] = drop_of_length-le s {i = n + length bs} (omega (arith, fill)) in
    stored-paste s n bs (omega (arith, fill)) ∙ ap (λ l. take n s ++ bs ++ l) none ∙ append-nil (take n s ++ bs)

-- the marks fill what is behind the plan
pub marks-put : (s bs : List ℕ) → plan_words + length bs ≡ length s → stored s plan_words bs ≡ plan_in s ++ bs
unfolding plan_in
marks-put s bs fill = stored-tail s plan_words bs fill

plan-long : (s : List ℕ) → length s ≡ state_words → length (plan_in s) ≡ plan_words
unfolding plan_in
plan-long s long = length-take-le plan_words s (omega (arith, long))

-- a plan that was put into the words stands at their front
pub plan-put : (p rest : List ℕ) → length p ≡ plan_words → plan_in (p ++ rest) ≡ p
unfolding plan_in
plan-put p rest long = ap (λ n. take n (p ++ rest)) (sym long) ∙ take-append_seam p rest

pub long_of : {a : ℕ} (b : ℕ) → a ≡ b → b ≡ state_words → a ≡ state_words
long_of b e f = e ∙ f

-- an image that takes an append has a header
pub accepted-long : (x sheet : List ℕ) → append_test x sheet ≡ 0 → least_length ≤ length x
unfolding append_test
accepted-long x sheet h = ((verdict-zero x).0 (both _ _ h).0).front.low

-- A turn from the cursor behind the stores made, by the plan in front
module _ (s sheet : List ℕ) {p x y : List ℕ} {from : Cursor} {limit : ℕ} {t : Turned} (front : p ≡ plan_in s)
    (at : Stands sheet p (done_in s) from) (says : TurnSays sheet x p from limit t y) where
  ahead-left : ahead sheet p from ≡ left s sheet
  ahead-left = at.left ∙ ap (λ l. drop (done_in s) (tasks (extents_of sheet l))) front

  pub carried-made : t.made ≡ min limit (length (left s sheet))
  carried-made = says.made ∙ ap (λ l. min limit (length l)) ahead-left

  pub carried-image : y ≡ exec sheet x (take t.made (left s sheet))
  carried-image = says.walked.image ∙ ap (λ l. exec sheet x (take t.made l)) ahead-left

  -- the stores made can be counted on
  pub carried-count : (n : ℕ) → Ready n sheet (plan_in s) → done_in s < 18446744073709551616 → done_in s + t.made < 18446744073709551616
  carried-count n ready small =
      omega (arith, small, carried-made, ready.count, length-drop (done_in s) (tasks (extents_of sheet (plan_in s))))

-- What stands in a state that was put together
module _ (p x sheet : List ℕ) (k : ℕ) (long : length p ≡ plan_words) where
  pub plan-of : plan_in (state_of p x sheet k) ≡ p
  plan-of = plan-put p (marks x sheet k) long

  mark_of : (i : ℕ) → get_or (state_of p x sheet k) (plan_words + i) 0 ≡ get_or (marks x sheet k) i 0
  mark_of i = ap (λ n. get_or (state_of p x sheet k) (n + i) 0) (sym long) ∙ get_or-append-add p (marks x sheet k) i 0

  pub length-of : (length_in (state_of p x sheet k) ≡ length x) × (sheet_in (state_of p x sheet k) ≡ length sheet)
  length-of = (mark_of 0, mark_of 1)

  pub done-of : done_in (state_of p x sheet k) ≡ k
  done-of = mark_of 6

  pub left-of : (rows : List ℕ) → left (state_of p x sheet k) rows ≡ drop k (tasks (extents_of rows p))
  left-of rows = λ i. drop (done-of i) (tasks (extents_of rows (plan-of i)))

  pub goes_of : goes_on (state_of p x sheet k) ≡ feasible (length x) (length sheet) p
  goes_of = λ i. feasible (mark_of 0 i) (mark_of 1 i) (plan-of i)

  -- it expects the image and the sheet of which it was made
  pub expects-own : expects (state_of p x sheet k) x sheet ≡ true
  unfolding expects
  expects-own =
      both_of _ _ (both_of _ _ (eq-eqb _ _ (mark_of 0)) (eq-eqb _ _ (mark_of 1)))
      (both_of _ _ (both_of _ _ (both_of _ _ (eq-eqb _ _ (mark_of 2)) (eq-eqb _ _ (mark_of 3))) (eq-eqb _ _ (mark_of 4))) (eq-eqb _ _ (mark_of 5)))

-- what a turn goes on with
pub fits-goes : (s x sheet : List ℕ) → goes_on s ≡ true → fits s x sheet ≡ expects s x sheet
unfolding fits
fits-goes s x sheet h = rw h

-- the lengths that it expects
pub expects-lengths : (s x sheet : List ℕ) → expects s x sheet ≡ true → (length_in s ≡ length x) × (sheet_in s ≡ length sheet)
unfolding expects
expects-lengths s x sheet h = let b = both_true _ _ (both_true _ _ h).0 in (eqb-true _ _ b.0, eqb-true _ _ b.1)

-- the plan in front is as good as that of the state
pub feasible-of : {p q : List ℕ} (n m : ℕ) → p ≡ q → feasible n m q ≡ true → feasible n m p ≡ true
feasible-of n m e h = ap (feasible n m) e ∙ h

-- A state that fits has the lengths, and a plan that can be carried out
pub record Told (s x sheet : List ℕ) : Type 0 where
  pub image : length_in s ≡ length x
  pub rows : sheet_in s ≡ length sheet
  pub plan : feasible (length x) (length sheet) (plan_in s) ≡ true

module _ (s x sheet : List ℕ) where
  pub fits_told : fits s x sheet ≡ true → Told s x sheet
  unfolding fits
  fits_told h =
      let b = both_true _ _ h in
      let e = expects-lengths s x sheet b.1 in
      record { image = e.0; rows = e.1; plan = (λ i. feasible (sym e.0 i) (sym e.1 i) (plan_in s)) ∙ b.0 }

  -- one that has not does not fit, and of one that has the header tells
  pub fits_not : (Told s x sheet → ⊥) → false ≡ fits s x sheet
  fits_not f = go (fits s x sheet) fits_told
    where
      go : (b : Bool) → (b ≡ true → Told s x sheet) → false ≡ b
      go true g = absurd (f (g refl))
      go false g = refl

  pub fits-header : Told s x sheet → fits s x sheet ≡ same_header s x
  unfolding fits expects
  fits-header t =
      let goes : goes_on s ≡ true = (λ i. feasible (t.image i) (t.rows i) (plan_in s)) ∙ t.plan in
      rw (goes, eq-eqb _ _ t.image, eq-eqb _ _ t.rows)

  pub fits-ready : length s ≡ state_words → fits s x sheet ≡ true → (header_size ≤ length x) × Ready (length x) sheet (plan_in s)
  fits-ready long h =
      let t = fits_told h in
      (feasible-long _ _ (plan_in s) t.plan, feasible-ready _ _ (plan_in s) (plan-long s long) t.plan sheet refl)
