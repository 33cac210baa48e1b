-- Calls by the contracts that are made of the functions: of the joined append, of a beginning and of a turn. A weaker `ensures` is
-- refused here. A beginning with its turns, each on what the one before left, is one append with their limits summed.
use Rattle.std.specs.Prelude.{Result}
use Prim.Native.Nat.{ℕ, ◌+◌, ◌-◌, min}
use mathlib.Core.Path.{◌≡◌, refl, sym, ◌∙◌, ap, subst}
use mathlib.Core.Bool.{true, false}
use mathlib.Core.List.{List, [], ◌∷◌}
use native.Mathlib.Nat.{add-zero, zero-add}
use native.Mathlib.Decide.{ℕ_discrete}
use native.Mathlib.Omega.{arith}
use lib.ListN.{length, take}
use contract.Lifetimes.{Lfts}
use denote.Triple.Clauses.{AtExit}
use borrow.Fn.World.{ArgsD}
use borrow.Fn.Kinds.{ended_of}
use Rattle.gsd_format.specs.declared.refusal.Refusal.{Refusal}
use Rattle.gsd_stores.specs.Stores.{after}
use Rattle.gsd_stores.specs.declared.Appended.{Appended}
use Rattle.gsd_stores.specs.Append.{Answer, answered, stores_for, append_answer, appended}
use Rattle.gsd_stores.specs.Runs.{Call, after_call}
use Rattle.gsd_states.specs.States.{expects}
use Rattle.gsd_append.specs.declared.state.State.{State}
use Rattle.gsd_append.specs.declared.state.Begun.{Begun}
use Rattle.gsd_append.specs.declared.state.Turn.{Turn}
use Rattle.gsd_append.specs.Turns.{refused_state, Beginning, beginning, Begins, turn_made, turn_image, Turned, turned, turn_answer}
use Rattle.gsd_states.proofs.Appends.{refused-append}
use Rattle.gsd_append.proofs.Turns.{turn-count, refused-turn, Given, Touches, given-refused, given_made, given-end, given-touches, given-next}
use Rattle.gsd_append.proofs.Turns.{Reached, begins-reached, reached-given, reached-made, reached-next}
use Rattle.gsd_append.specs.contracts.append as append
use Rattle.gsd_append.proofs.append.Kinds as append-kinds
use Rattle.gsd_append.proofs.append.Reads as append-reads
use Rattle.gsd_append.specs.contracts.state.State.begin as begin
use Rattle.gsd_append.proofs.state.State.begin.Kinds as begin-kinds
use Rattle.gsd_append.proofs.state.State.begin.Reads as begin-reads
use Rattle.gsd_append.specs.contracts.state.State.turn as turn
use Rattle.gsd_append.proofs.state.State.turn.Kinds as turn-kinds
use Rattle.gsd_append.proofs.state.State.turn.Reads as turn-reads

-- `append`, on the image x: it answered r and left y
pub record Called (x : List ℕ) (c : Call) (r : Answer) (y : List ℕ) : Type 0 where
  pub lifetimes : Lfts 2
  pub args : ArgsD append.signature lifetimes
  pub exit : AtExit (ended_of 2 append-kinds.ps append-kinds.r) lifetimes
  pub on_image : args.0.now ≡ x
  pub on_sheet : args.1.0.now ≡ c.sheet
  pub with_limit : args.1.1.0 ≡ c.limit
  pub left : exit.0.now ≡ y
  pub result : Result Appended Refusal
  pub answer : r ≡ answered result
  pub ensured : append-reads.Learnt lifetimes args result exit

-- so the answer is that of the definition, and the image is
module _ {x : List ℕ} {c : Call} {r : Answer} {y : List ℕ} (q : Called x c r y) where
  pub call-answers : r ≡ append_answer x c.sheet c.limit
  call-answers = q.answer ∙ q.ensured.0 ∙ (λ i. append_answer (q.on_image i) (q.on_sheet i) (q.with_limit i))

  pub call-leaves : y ≡ after_call x c
  call-leaves = sym q.left ∙ q.ensured.1 ∙ (λ i. appended (q.on_image i) (q.on_sheet i) (q.with_limit i))

-- `State::begin`, on the image x and with the sheet: it answered b
pub record BeginCalled (x sheet : List ℕ) (b : Beginning) : Type 0 where
  pub lifetimes : Lfts 2
  pub args : ArgsD begin.signature lifetimes
  pub exit : AtExit (ended_of 2 begin-kinds.ps begin-kinds.r) lifetimes
  pub on_image : args.0.now ≡ x
  pub on_sheet : args.1.0.now ≡ sheet
  pub result : Result Begun Refusal
  pub answer : b ≡ beginning result
  pub ensured : begin-reads.Learnt lifetimes args result exit

pub begin-answers : {x sheet : List ℕ} {b : Beginning} → BeginCalled x sheet b → Begins x sheet b
begin-answers {b = b} q = rw (q.answer, ← q.on_image, ← q.on_sheet) q.ensured

-- `State::turn`, of the state s, on the image x and with the sheet and a limit: it answered t and left y
pub record TurnCalled (s : State) (x sheet : List ℕ) (limit : ℕ) (t : Turned) (y : List ℕ) : Type 0 where
  pub lifetimes : Lfts 2
  pub args : ArgsD turn.signature lifetimes
  pub exit : AtExit (ended_of 2 turn-kinds.ps turn-kinds.r) lifetimes
  pub of_state : args.0 ≡ s
  pub on_image : args.1.0.now ≡ x
  pub on_sheet : args.1.1.0.now ≡ sheet
  pub with_limit : args.1.1.1.0 ≡ limit
  pub left : exit.1.0.now ≡ y
  pub result : Turn
  pub answer : t ≡ turned result.made result.state
  pub ensured : turn-reads.Learnt lifetimes args result exit

module _ {s : State} {x sheet : List ℕ} {limit : ℕ} {t : Turned} {y : List ℕ} (q : TurnCalled s x sheet limit t y) where
  pub turn-answers : t ≡ turn_answer s x sheet limit
  turn-answers = q.answer ∙ q.ensured.0 ∙ (λ i. turn_answer (q.of_state i) (q.on_image i) (q.on_sheet i) (q.with_limit i))

  pub turn-leaves : y ≡ turn_image s x sheet limit
  turn-leaves = sym q.left ∙ q.ensured.1 ∙ (λ i. turn_image (q.of_state i) (q.on_image i) (q.on_sheet i) (q.with_limit i))

-- any of these calls may be made: the contracts ask nothing
pub append-asks : (lifetimes : Lfts 2) (args : ArgsD append.signature lifetimes) → append-reads.Asked lifetimes args
append-asks lifetimes args = tt

pub begin-asks : (lifetimes : Lfts 2) (args : ArgsD begin.signature lifetimes) → begin-reads.Asked lifetimes args
begin-asks lifetimes args = tt

pub turn-asks : (lifetimes : Lfts 2) (args : ArgsD turn.signature lifetimes) → turn-reads.Asked lifetimes args
turn-asks lifetimes args = tt

-- Without the premise: a state that the append gave, by its beginning or by any turn on it, on whatever image and sheet a turn meets
pub begins-given : {x sheet : List ℕ} {b : Beginning} → BeginCalled x sheet b → b.number ≡ 0 → Given x sheet b.state.words 0
begins-given {b = b} q z = reached-given b.state (begins-reached (begin-answers q) z)

module _ {x sheet : List ℕ} {s : State} {k : ℕ} (g : Given x sheet s.words k) {y rows : List ℕ} {limit : ℕ} {t : Turned} {z : List ℕ}
    (q : TurnCalled s y rows limit t z) where
  made-is : t.made ≡ turn_made s y rows limit
  made-is = ap (λ a. a.made) (turn-answers q) ∙ turn-count s y rows limit

  -- it is refused for the lengths and header words 8 to 32 alone, and then changes nothing
  pub called-refused : expects s.words y rows ≡ false → (t ≡ record { number = 32; made = 0; state = s }) × (z ≡ y)
  called-refused h = let r = given-refused s g y rows limit h in (turn-answers q ∙ r.0, turn-leaves q ∙ r.1)

  -- else its count is that of the stores left, or its limit; behind the last store it is 0
  pub called-made : expects s.words y rows ≡ true → (t.number ≡ 0) × (t.made ≡ min limit (length (stores_for x sheet) - k))
  called-made h =
      let m = given_made s g y rows limit h in
      (ap (λ a. a.number) (turn-answers q) ∙ m.0, made-is ∙ m.1)

  pub called-end : k ≡ length (stores_for x sheet) → t.made ≡ 0
  called-end e = made-is ∙ given-end s g y rows limit e

  -- it touches words of the append's own stores alone, and gives a state of this append again
  pub called-touches : Touches x sheet k t.made y z
  called-touches =
      let of_image = subst (Touches x sheet k (turn_made s y rows limit) y) (sym (turn-leaves q)) (given-touches s g y rows limit) in
      subst (λ m. Touches x sheet k m y z) (sym made-is) of_image

  pub called-next : Given x sheet t.state.words (k + t.made)
  called-next =
      let next = given-next s g y rows limit in
      let of-answer = subst (λ a. Given x sheet a.state.words (k + turn_made s y rows limit)) (sym (turn-answers q)) next in
      subst (λ m. Given x sheet t.state.words (k + m)) (sym made-is) of-answer

-- Turns that keep to the premise: each is made with the sheet, on the image that the one before left, which nothing else has written,
-- and of the state that it gave back. From the state s and the image x, with the limits ls, to u and z; m stores are made in all
pub data TurnsMade (sheet : List ℕ) : State → List ℕ → List ℕ → ℕ → State → List ℕ → Type 0 where
  none : {s : State} {x : List ℕ} → TurnsMade sheet s x [] 0 s x
  then : {s u : State} {x y z : List ℕ} {l m : ℕ} {ls : List ℕ} (t : Turned) → TurnCalled s x sheet l t y → TurnsMade sheet t.state y ls m u z →
      TurnsMade sheet s x (l ∷ ls) (t.made + m) u z

-- limits are summed as whole numbers, which no word bounds
unfoldable pub summed : List ℕ → ℕ
summed [] = 0
summed (l ∷ ls) = l + summed ls

summed-alone : (l : ℕ) → l ≡ summed (l ∷ [])
unfolding summed
summed-alone l = omega arith

-- from where k stores are made they make the next, as many as the summed limit lets be made
pub turns-reach : {x sheet : List ℕ} {s u : State} {y z ls : List ℕ} {m : ℕ} (k : ℕ) → TurnsMade sheet s y ls m u z → Reached x sheet s.words k y
    → (m ≡ min (summed ls) (length (stores_for x sheet) - k)) × Reached x sheet u.words (k + m) z
unfolding summed
turns-reach {x} {sheet} {s} {y = y} k none r = (omega arith, subst (λ n. Reached x sheet s.words n y) (sym (add-zero k)) r)
turns-reach {x} {sheet} {s} {u} {y} {z} k (then {y = y'} {l = l} {m = m} {ls = ls} t q more) r =
    let made : t.made ≡ turn_made s y sheet l = ap (λ a. a.made) (turn-answers q) ∙ turn-count s y sheet l in
    let here = reached-next s r l in
    let of-answer = subst (λ a. Reached x sheet a.state.words (k + turn_made s y sheet l) (turn_image s y sheet l)) (sym (turn-answers q)) here in
    let of-count = subst (λ n. Reached x sheet t.state.words (k + n) (turn_image s y sheet l)) (sym made) of-answer in
    let next = subst (λ w. Reached x sheet t.state.words (k + t.made) w) (sym (turn-leaves q)) of-count in
    let rest = turns-reach (k + t.made) more next in
    let sum : k + t.made + m ≡ k + (t.made + m) = omega arith in
    (omega (arith, made, reached-made s r l, rest.0), subst (λ n. Reached x sheet u.words n z) sum rest.1)

-- from a refused state they make none
pub turns-refused : {sheet : List ℕ} {s u : State} {x z ls : List ℕ} {m : ℕ} → TurnsMade sheet s x ls m u z → s ≡ refused_state → (m ≡ 0) × (z ≡ x)
turns-refused none e = (refl, refl)
turns-refused {sheet} {x = x} (then {l = l} {m = m} t q more) e =
    let said = turn-answers q ∙ ap (λ s. turn_answer s x sheet l) e ∙ (refused-turn x sheet l).0 in
    let left = turn-leaves q ∙ ap (λ s. turn_image s x sheet l) e ∙ (refused-turn x sheet l).1 in
    let rest = turns-refused more (ap (λ t. t.state) said) in
    (omega (arith, ap (λ t. t.made) said, rest.0), rest.1 ∙ left)

-- A beginning with its turns: it answers the beginning's numbers and the stores that the turns made
pub record InTurns (x : List ℕ) (c : Call) (r : Answer) (y : List ℕ) : Type 0 where
  pub begun : Beginning
  pub begins : BeginCalled x c.sheet begun
  pub limits : List ℕ
  pub last : State
  pub made : ℕ
  pub turns : TurnsMade c.sheet begun.state x limits made last y
  pub with_limit : c.limit ≡ summed limits
  pub answer : r ≡ record { number = begun.number; done = made; whole = begun.whole; copied = begun.copied }

-- its answer, by the stores made, and what it leaves
answer-is : {x sheet : List ℕ} {b : Beginning} → Begins x sheet b → (limit m : ℕ) → m ≡ min limit (length (stores_for x sheet))
    → record { number = b.number; done = m; whole = b.whole; copied = b.copied } ≡ append_answer x sheet limit
unfolding append_answer
answer-is h limit m e = λ i. record { number = h.number i; done = e i; whole = h.whole i; copied = h.copied i }

done-is : (x sheet : List ℕ) (limit : ℕ) {k : ℕ} → record { number = k; done = 0; whole = 0; copied = 0 } ≡ append_answer x sheet limit
    → 0 ≡ min limit (length (stores_for x sheet))
unfolding append_answer
done-is x sheet limit e = ap (λ a. a.done) e

image-is : {x sheet s y : List ℕ} (limit m : ℕ) → m ≡ min limit (length (stores_for x sheet)) → Reached x sheet s (0 + m) y → y ≡ appended x sheet limit
unfolding appended
image-is {x} {sheet} limit m e r = r.image ∙ ap (λ n. after x (take n (stores_for x sheet))) (zero-add m ∙ e)

-- A beginning with its turns is one append with the summed limit: the whole where that is less, and a refused one where it is refused
pub turns-append : {x : List ℕ} {c : Call} {r : Answer} {y : List ℕ} → InTurns x c r y → (r ≡ append_answer x c.sheet c.limit) × (y ≡ after_call x c)
turns-append {x} {c} {r} {y} q = go (ℕ_discrete q.begun.number 0)
  where
    begins : Begins x c.sheet q.begun
    begins = begin-answers q.begins

    go : Dec (q.begun.number ≡ 0) → (r ≡ append_answer x c.sheet c.limit) × (y ≡ after_call x c)
    go (yes z) =
        let end = turns-reach 0 q.turns (begins-reached begins z) in
        let made : q.made ≡ min c.limit (length (stores_for x c.sheet)) = omega (arith, end.0, q.with_limit) in
        (q.answer ∙ answer-is begins c.limit q.made made, image-is c.limit q.made made end.1)
    go (no f) =
        let end = turns-refused q.turns (begins.refused f) in
        let same = refused-append x c.sheet c.limit q.begun.number begins.number f in
        (q.answer ∙ answer-is begins c.limit q.made (end.0 ∙ done-is x c.sheet c.limit same.0), end.1 ∙ same.1)

-- The joined call answers and leaves what a beginning and one turn with its limit do
pub append-joins : {x y z : List ℕ} {c : Call} {r : Answer} {b : Beginning} {t : Turned} → Called x c r y → BeginCalled x c.sheet b
    → TurnCalled b.state x c.sheet c.limit t z
    → (r ≡ record { number = b.number; done = t.made; whole = b.whole; copied = b.copied }) × (y ≡ z)
append-joins {x} {y} {z} {c} {r} {b} {t} q p l =
    let pair : InTurns x c (record { number = b.number; done = t.made + 0; whole = b.whole; copied = b.copied }) z = record {
      begun = b;
      begins = p;
      limits = c.limit ∷ [];
      last = t.state;
      made = t.made + 0;
      turns = then t l none;
      with_limit = summed-alone c.limit;
      answer = refl;
    } in
    let same = turns-append pair in
    let alone : t.made + 0 ≡ t.made = add-zero t.made in (
      call-answers q ∙ sym same.0 ∙ ap (λ n. record { number = b.number; done = n; whole = b.whole; copied = b.copied }) alone,
      call-leaves q ∙ sym same.1,
    )
