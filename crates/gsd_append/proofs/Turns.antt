-- Turns of an append: what a turn does with a state that the append gave, whatever it meets, and what turns do that nothing comes
-- between, each with the image, the sheet and the state that the one before left.
use Rattle.std.specs.Prelude.{IsErrAnd, Result, Ok, Err, IfOk}
use Prim.Native.Nat.{ℕ, ◌+◌, ◌-◌, ◌≤◌, min}
use mathlib.Core.Path.{◌≡◌, refl, sym, ◌∙◌, ap}
use mathlib.Core.Bool.{Bool, true, false, ◌&&◌}
use mathlib.Core.List.{List, [], ◌∷◌}
use native.Mathlib.Nat.{add-zero}
use native.Mathlib.Omega.{arith}
use lib.ListN.{length, get_or, take, drop, length-drop}
use Rattle.gsd_format.specs.declared.refusal.Refusal.{Refusal}
use Rattle.gsd_format.specs.Answers.{refused, refusal_number}
use Rattle.gsd_format.proofs.Refusals.{refusal-some}
use Rattle.gsd_format.proofs.Lists.{Each, map-take, map-drop}
use Rattle.gsd_stores.specs.Stores.{Store, after}
use Rattle.gsd_stores.specs.Append.{append_test, stores_for, append_answer}
use Rattle.gsd_stores.proofs.Stores.{Misses, Off, after-off, after-length}
use Rattle.gsd_sheet.specs.Columns.{plan_words}
use Rattle.gsd_extents.specs.Exec.{tasks, exec, stores_of}
use Rattle.gsd_extents.proofs.Tasks.{exec-length, exec-stores}
use Rattle.gsd_steps.specs.Steps.{extents_of}
use Rattle.gsd_turns.proofs.Count.{count-extents}
use Rattle.gsd_turns.proofs.Places.{places_of, store_places, stores-places, stores-eight, places-any}
use Rattle.gsd_feasible.specs.Feasible.{feasible}
use Rattle.gsd_feasible.proofs.Plans.{ready-feasible, no_rows}
use Rattle.gsd_states.specs.declared.Counts.{Counts}
use Rattle.gsd_states.specs.States.{Counted}
use Rattle.gsd_states.specs.States.{state_of, plan_in, length_in, sheet_in, done_in, expects, goes_on, fits, left}
use Rattle.gsd_states.proofs.States.{plan-of, length-of, done-of, left-of, goes_of, expects-own, fits-goes, expects-lengths}
use Rattle.gsd_append.specs.declared.state.State.{State}
use Rattle.gsd_append.specs.declared.state.Begun.{Begun}
use Rattle.gsd_append.specs.Turns.{refused_state, Begins, Beginning, beginning, turn_made, turn_image, moved_on, turn_answer}
use Rattle.gsd_states.proofs.Appends.{refused-append, Carried, carried, some-rows, header-inside, append-ready, plan-stores, plan-whole, next-tasks}

-- Any turn, by whether it fits

module _ (s : State) (x sheet : List ℕ) (limit : ℕ) where
  pub turn-goes : fits s.words x sheet ≡ true
      → turn_answer s x sheet limit ≡ record { number = 0; made = turn_made s x sheet limit; state = moved_on s x sheet limit }
  unfolding turn_answer
  turn-goes h = rw (h, turn_answer)

  pub turn-made : fits s.words x sheet ≡ true → turn_made s x sheet limit ≡ min limit (length (left s.words sheet))
  unfolding turn_made
  turn-made h = rw (h, turn_made)

  turn-none : fits s.words x sheet ≡ false → turn_made s x sheet limit ≡ 0
  unfolding turn_made
  turn-none h = rw (h, turn_made)

  pub turn-refused : fits s.words x sheet ≡ false → (turn_answer s x sheet limit ≡ record { number = 32; made = 0; state = s }) × (turn_image s x sheet limit ≡ x)
  unfolding turn_answer turn_image turn_made exec
  turn-refused h = (rw (h, turn_answer), rw (h, turn_image, turn_made))

  -- what it answers to have made is what it made
  pub turn-count : (turn_answer s x sheet limit).made ≡ turn_made s x sheet limit
  turn-count = go (fits s.words x sheet) refl
    where
      go : (b : Bool) → fits s.words x sheet ≡ b → (turn_answer s x sheet limit).made ≡ turn_made s x sheet limit
      go true h = ap (λ t. t.made) (turn-goes h)
      go false h = ap (λ t. t.made) (turn-refused h).0 ∙ sym (turn-none h)

  -- and one that answers a number leaves the state
  pub refused-stays : ((turn_answer s x sheet limit).number ≡ 0 → ⊥) → (turn_answer s x sheet limit).state ≡ s
  refused-stays f = go (fits s.words x sheet) refl
    where
      go : (b : Bool) → fits s.words x sheet ≡ b → (turn_answer s x sheet limit).state ≡ s
      go true h = absurd (f (ap (λ t. t.number) (turn-goes h)))
      go false h = ap (λ t. t.state) (turn-refused h).0

  -- so carrying it on is the turn
  pub turn-carried : (made : ℕ) (y w : List ℕ) → fits s.words x sheet ≡ true → made ≡ min limit (length (left s.words sheet))
      → y ≡ exec sheet x (take made (left s.words sheet)) → w ≡ state_of (plan_in s.words) y sheet (done_in s.words + made)
      → (record { number = 0; made = made; state = record { words = w } } ≡ turn_answer s x sheet limit) × (y ≡ turn_image s x sheet limit)
  unfolding turn_image
  turn-carried made y w h m e f =
      let count : made ≡ turn_made s x sheet limit = m ∙ sym (turn-made h) in
      let image : y ≡ turn_image s x sheet limit = e ∙ ap (λ n. exec sheet x (take n (left s.words sheet))) count in
      let words : w ≡ (moved_on s x sheet limit).words = f ∙ (λ i. state_of (plan_in s.words) (image i) sheet (done_in s.words + count i)) in
      ((λ i. record { number = 0; made = count i; state = record { words = words i } }) ∙ sym (turn-goes h), image)

-- A beginning, by what it tells of the words that it fills

pub accepted-begun : {x sheet s : List ℕ} {b : Counts} → append_test x sheet ≡ 0 → Counted x sheet b s
    → Begins x sheet (record { number = 0; whole = b.whole; copied = b.copied; state = record { words = s } })
accepted-begun e h = record { number = sym e; whole = h.whole; copied = h.copied; refused = λ f. absurd (f refl); accepted = λ _. h.state }

pub refused-begun : {x sheet : List ℕ} (r : Result Begun Refusal) (why : Refusal) → refusal_number why ≡ append_test x sheet
    → IsErrAnd r (λ e. e ≡ why) → Begins x sheet (beginning r)
unfolding append_answer
refused-begun (Ok b) why e k = absurd k
refused-begun {x} {sheet} (Err r) why e k =
    let number : refusal_number r ≡ append_test x sheet = ap refusal_number k ∙ e in
    let some : refusal_number r ≡ 0 → ⊥ = λ z. omega (arith, refusal-some r, z) in
    let none = (refused-append x sheet 0 (refusal_number r) number some).0 in
    record {
      number = number;
      whole = ap (λ a. a.whole) none;
      copied = ap (λ a. a.copied) none;
      refused = λ _. refl;
      accepted = λ z. absurd (some z);
    }

-- A refused beginning's state is refused by every turn
pub refused-turn : (x sheet : List ℕ) (limit : ℕ)
    → (turn_answer refused_state x sheet limit ≡ record { number = 32; made = 0; state = refused_state }) × (turn_image refused_state x sheet limit ≡ x)
unfolding refused_state fits plan_in
refused-turn x sheet limit =
    turn-refused refused_state x sheet limit (ap (λ b. b && expects refused_state.words x sheet) (no_rows _ _ (plan_in refused_state.words) refl))

-- A state that the append of the sheet on x gave, by its beginning or by a turn on whatever it met, with k stores made

pub record Given (x sheet s : List ℕ) (k : ℕ) : Type 0 where
  pub plan : List ℕ
  pub carries : Carried x sheet plan
  -- the image and the sheet that it saw last, which have the lengths of those of the beginning
  pub seen : List ℕ
  pub read : List ℕ
  pub image : length seen ≡ length x
  pub rows : length read ≡ length sheet
  pub words : s ≡ state_of plan seen read k
  pub few : k ≤ length (stores_for x sheet)

module _ {x sheet s : List ℕ} {k : ℕ} (g : Given x sheet s k) where
  long : length g.plan ≡ plan_words
  long = g.carries.plan.long

  given-goes : goes_on s ≡ true
  given-goes =
      ap goes_on g.words
      ∙ goes_of g.plan g.seen g.read k long
      ∙ (λ i. feasible (g.image i) (g.rows i) g.plan)
      ∙ ready-feasible (length x) sheet g.plan (some-rows g.carries) (header-inside g.carries).0 (header-inside g.carries).1 (append-ready g.carries)

  -- is refused only for lengths or header words, whatever else the slice and the sheet hold
  pub given-fits : (y rows : List ℕ) → fits s y rows ≡ expects s y rows
  given-fits y rows = fits-goes s y rows given-goes

  given-left : (rows : List ℕ) → left s rows ≡ drop k (tasks (extents_of rows g.plan))
  given-left rows = ap (λ w. left w rows) g.words ∙ left-of g.plan g.seen g.read k long rows

  given-count : (rows : List ℕ) → length (left s rows) ≡ length (stores_for x sheet) - k
  given-count rows =
      ap length (given-left rows) ∙ length-drop k (tasks (extents_of rows g.plan))
      ∙ ap (λ n. n - k) (count-extents rows g.plan ∙ plan-whole g.carries)

  given-expected : (y rows : List ℕ) → expects s y rows ≡ true → (length y ≡ length x) × (length rows ≡ length sheet)
  given-expected y rows h =
      let e = expects-lengths s y rows h in (
        sym e.0 ∙ ap length_in g.words ∙ (length-of g.plan g.seen g.read k long).0 ∙ g.image,
        sym e.1 ∙ ap sheet_in g.words ∙ (length-of g.plan g.seen g.read k long).1 ∙ g.rows,
      )

-- stores of a word each, off a place
off-stores : (i : ℕ) (xs : List Store) → Each (λ s. length s.bytes ≡ 8) xs → Off i (store_places xs)
    → Each (λ s. (length s.bytes ≡ 8) × Misses i s.place) xs
off-stores i [] e off = tt
off-stores i (s ∷ xs) e off = ((e.0, off.0), off-stores i xs e.1 off.1)

-- what a turn stores on an image y, from the k-th store of the append on and m of them: it keeps to the places of the append's own
-- stores, in their order. Their bytes are free where something came between
pub record Touches (x sheet : List ℕ) (k m : ℕ) (y z : List ℕ) : Type 0 where
  pub stores : List Store
  pub places : store_places stores ≡ store_places (take m (drop k (stores_for x sheet)))
  pub words : Each (λ s. length s.bytes ≡ 8) stores
  pub image : z ≡ after y stores
  -- so no other byte changes
  pub others : (i : ℕ) → Off i (store_places (take m (drop k (stores_for x sheet)))) → get_or z i 0 ≡ get_or y i 0

-- A turn on such a state, whatever image y and sheet `rows` it meets
module _ {x sheet : List ℕ} (s : State) {k : ℕ} (g : Given x sheet s.words k) (y rows : List ℕ) (limit : ℕ) where
  pub given-refused : expects s.words y rows ≡ false
      → (turn_answer s y rows limit ≡ record { number = 32; made = 0; state = s }) × (turn_image s y rows limit ≡ y)
  given-refused h = turn-refused s y rows limit (given-fits g y rows ∙ h)

  -- its count is that of the stores left or its limit
  pub given_made : expects s.words y rows ≡ true
      → ((turn_answer s y rows limit).number ≡ 0) × (turn_made s y rows limit ≡ min limit (length (stores_for x sheet) - k))
  given_made h =
      let f = given-fits g y rows ∙ h in
      (ap (λ t. t.number) (turn-goes s y rows limit f), turn-made s y rows limit f ∙ ap (λ n. min limit n) (given-count g rows))

  -- behind the last store it makes none
  pub given-end : k ≡ length (stores_for x sheet) → turn_made s y rows limit ≡ 0
  given-end e = go (expects s.words y rows) refl
    where
      go : (b : Bool) → expects s.words y rows ≡ b → turn_made s y rows limit ≡ 0
      go true h = omega (arith, (given_made h).1, e)
      go false h = turn-none s y rows limit (given-fits g y rows ∙ h)

  tasks-places : (m : ℕ) → places_of (take m (left s.words rows)) ≡ store_places (take m (drop k (stores_for x sheet)))
  tasks-places m =
      let place : Store → ℕ = λ t. t.place in
      let all = tasks (extents_of rows g.plan) in
      let own = tasks (extents_of sheet g.plan) in
      map-take _ m (left s.words rows)
      ∙ ap (λ l. take m (places_of l)) (given-left g rows)
      ∙ ap (take m) (map-drop _ k all)
      ∙ ap (λ l. take m (drop k l)) (places-any rows sheet g.plan ∙ sym (stores-places sheet x own) ∙ ap store_places (plan-stores g.carries))
      ∙ ap (take m) (sym (map-drop place k (stores_for x sheet)))
      ∙ sym (map-take place m (drop k (stores_for x sheet)))

  pub given-touches : Touches x sheet k (turn_made s y rows limit) y (turn_image s y rows limit)
  unfolding turn_image
  given-touches =
      let made = take (turn_made s y rows limit) (left s.words rows) in
      let places = stores-places rows y made ∙ tasks-places (turn_made s y rows limit) in
      record {
        stores = stores_of rows y made;
        places = places;
        words = stores-eight rows y made;
        image = exec-stores rows y made;
        others = λ i off. ap (λ l. get_or l i 0) (exec-stores rows y made)
            ∙ after-off y i (stores_of rows y made) (off-stores i (stores_of rows y made) (stores-eight rows y made) (rw places off));
      }

  -- and the state that it gives is again one of this append
  moved-words : (moved_on s y rows limit).words ≡ state_of g.plan (turn_image s y rows limit) rows (k + turn_made s y rows limit)
  moved-words =
      let plan = ap plan_in g.words ∙ plan-of g.plan g.seen g.read k (long g) in
      let done = ap done_in g.words ∙ done-of g.plan g.seen g.read k (long g) in
      (λ i. state_of (plan i) (turn_image s y rows limit) rows (done i + turn_made s y rows limit))

  turned-length : length (turn_image s y rows limit) ≡ length y
  unfolding turn_image
  turned-length = exec-length rows y (take (turn_made s y rows limit) (left s.words rows))

  pub given-next : Given x sheet (turn_answer s y rows limit).state.words (k + turn_made s y rows limit)
  given-next = go (expects s.words y rows) refl
    where
      go : (b : Bool) → expects s.words y rows ≡ b → Given x sheet (turn_answer s y rows limit).state.words (k + turn_made s y rows limit)
      go true h =
          let same = given-expected g y rows h in
          record {
            plan = g.plan;
            carries = g.carries;
            seen = turn_image s y rows limit;
            read = rows;
            image = turned-length ∙ same.0;
            rows = same.1;
            words = ap (λ t. t.state.words) (turn-goes s y rows limit (given-fits g y rows ∙ h)) ∙ moved-words;
            few = omega (arith, g.few, (given_made h).1);
          }
      go false h =
          let none : turn_made s y rows limit ≡ 0 = turn-none s y rows limit (given-fits g y rows ∙ h) in
          rw ((given-refused h).0, none, add-zero) g

-- Turns that nothing comes between: k stores of the append are made, and y is what they left

pub record Reached (x sheet s : List ℕ) (k : ℕ) (y : List ℕ) : Type 0 where
  pub plan : List ℕ
  pub carries : Carried x sheet plan
  pub words : s ≡ state_of plan y sheet k
  pub image : y ≡ after x (take k (stores_for x sheet))
  pub few : k ≤ length (stores_for x sheet)

-- as after an accepted beginning
pub begins-reached : {x sheet : List ℕ} {b : Beginning} → Begins x sheet b → b.number ≡ 0 → Reached x sheet b.state.words 0 x
unfolding after
begins-reached h z =
    let began = h.accepted z in
    record { plan = began.plan; carries = carried (sym h.number ∙ z) began; words = began.words; image = refl; few = omega arith }

module _ {x sheet : List ℕ} (s : State) {k : ℕ} {y : List ℕ} (r : Reached x sheet s.words k y) where
  abbrev pub reached-given : Given x sheet s.words k
  reached-given = record {
    plan = r.plan;
    carries = r.carries;
    seen = y;
    read = sheet;
    image = ap length r.image ∙ after-length x (take k (stores_for x sheet));
    rows = refl;
    words = r.words;
    few = r.few;
  }

  -- such a turn is not refused
  pub reached-expects : expects s.words y sheet ≡ true
  reached-expects = ap (λ w. expects w y sheet) r.words ∙ expects-own r.plan y sheet k r.carries.plan.long

  module _ (limit : ℕ) where
    pub reached-made : turn_made s y sheet limit ≡ min limit (length (stores_for x sheet) - k)
    reached-made = (given_made s reached-given y sheet limit reached-expects).1

    -- and makes the append's next stores
    pub reached-next : Reached x sheet (turn_answer s y sheet limit).state.words (k + turn_made s y sheet limit) (turn_image s y sheet limit)
    unfolding turn_image
    reached-next =
        let fit = given-fits reached-given y sheet ∙ reached-expects in
        record {
          plan = r.plan;
          carries = r.carries;
          words = ap (λ t. t.state.words) (turn-goes s y sheet limit fit) ∙ moved-words s reached-given y sheet limit;
          image = next-tasks r.carries k (turn_made s y sheet limit) y _ r.image
              (ap (λ l. exec sheet y (take (turn_made s y sheet limit) l)) (given-left reached-given sheet));
          few = omega (arith, r.few, reached-made);
        }
