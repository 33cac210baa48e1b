-- What moving the index costs over a run of whole appends: a move at least doubles the slots and copies no more entries than there
-- were slots, and it comes only where the entries pass the slots.
use Prim.Native.Nat.{ℕ, ◌+◌, ◌*◌, ◌≤◌, ◌<◌}
use mathlib.Core.Path.{◌≡◌, refl, sym, ◌∙◌, ap}
use mathlib.Core.Logic.{◌⊎◌, inl, inr}
use mathlib.Core.Bool.{Bool, true, false, cond}
use mathlib.Core.List.{List, [], ◌∷◌, ◌++◌}
use native.Mathlib.Decide.{ℕ_discrete}
use native.Mathlib.Omega.{arith}
use lib.ListN.{length, take, length-append}
use lib.Seq.{take_all, take-append-le}
use borrow.Author.Tests.{ltb-true}
use Rattle.gsd_format.specs.Bytes.{le_bytes, part}
use Rattle.gsd_format.specs.Header.{layout_of}
use Rattle.gsd_format.specs.Entries.{entries_of}
use Rattle.gsd_format.specs.Opening.{verdict}
use Rattle.gsd_format.specs.Create.{create_number, created}
use Rattle.gsd_format.proofs.Fresh.{created-opens}
use Rattle.gsd_stores.specs.Sheet.{rows_of}
use Rattle.gsd_stores.specs.Stores.{Store, after, words, up}
use Rattle.gsd_stores.specs.View.{View, view_of}
use Rattle.gsd_stores.specs.Plan.{Plan, plan_of, index_start}
use Rattle.gsd_stores.specs.Steps.{clear_index, clear_names, store_data, moved, move_names, store_names, move_index, store_entries, steps_of}
use Rattle.gsd_stores.specs.Steps.{name_block, index_block}
use Rattle.gsd_stores.specs.Append.{append_test, stores_for, step_five, copied_entries}
use Rattle.gsd_stores.specs.Runs.{Bytes, Call, Begins, first, next, stores_made, after_call, after_run}
use Rattle.gsd_stores.specs.Moving.{index_after, StepFive, copied_sum, WholeRun, Moves, slots_of, MovingCosts}
use Rattle.gsd_stores.proofs.Stores.{words-length, words_take, up-length, take-up}
use Rattle.gsd_stores.proofs.Plan.{slots_after}
use Rattle.gsd_stores.proofs.View.{Is, with_entries}
use Rattle.gsd_stores.proofs.Good.{ready as ready_view}
use Rattle.gsd_stores.proofs.Valid.{Valid, valid, Ready, ready}
use Rattle.gsd_stores.proofs.Shown.{opens-shown, shown-entries}
use Rattle.gsd_stores.proofs.Moments.{stores-are, moments, last-shown}
use Rattle.gsd_stores.proofs.Runs.{stores-refused, refused-keeps, after-call}
use Rattle.gsd_stores.proofs.Limits.{five-refused, none-copied}

-- A block that moves

-- its first stores are its text's words
moved-first : (k b n : ℕ) (t : List ℕ) (h count : ℕ) → k ≤ n → take k (moved true b n t h count) ≡ words t b (up b k)
unfolding moved
moved-first k b n t h count l =
    let long : length (words t b (up b n)) ≡ n = words-length t b (up b n) ∙ up-length b n in
    take-append-le k (words t b (up b n) ++ words (le_bytes 8 b) h (up h 1)) _
    (omega (arith, length-append (words t b (up b n)) (words (le_bytes 8 b) h (up h 1))))
    ∙ take-append-le k (words t b (up b n)) _ (omega arith)
    ∙ words_take k t b (up b n)
    ∙ ap (words t b) (take-up k b n l)

-- and its last the header's word with its count
moved-some : (b n : ℕ) (t : List ℕ) (h count : ℕ) → 0 < length (moved true b n t h count)
unfolding moved
moved-some b n t h count =
    let last : List Store = words (le_bytes 8 count) (h + 8) (up (h + 8) 1) in
    let one : length last ≡ 1 = words-length (le_bytes 8 count) (h + 8) (up (h + 8) 1) ∙ up-length (h + 8) 1 in
    omega (arith, length-append (words t b (up b n) ++ words (le_bytes 8 b) h (up h 1)) last)

-- What appends in a row cost

-- from x to y so many entries were copied, and the index stayed,
record Stays (x : List ℕ) (copied : ℕ) (y : List ℕ) : Type 0 where
  none : copied ≡ 0
  same : slots_of y ≡ slots_of x

-- or it moved. Both bounds have the first slots beside the entries copied: so they join
record Grows (x : List ℕ) (copied : ℕ) (y : List ℕ) : Type 0 where
  more : slots_of x < slots_of y
  slots : slots_of x + copied ≤ slots_of y
  entries : slots_of x + copied < 2 * length (entries_of y)

record Costs (x : List ℕ) (copied : ℕ) (y : List ℕ) : Type 0 where
  listed : length (entries_of x) ≤ length (entries_of y)
  index : Stays x copied y ⊎ Grows x copied y

costs-none : (x : List ℕ) → Costs x 0 x
costs-none x = record { listed = omega arith; index = inl (record { none = refl; same = refl }) }

costs-then : {x y z : List ℕ} {n m : ℕ} → Costs x n y → Costs y m z → Costs x (n + m) z
costs-then {x} {y} {z} {n} {m} a b = record { listed = omega (arith, a.listed, b.listed); index = go a.index b.index }
  where
    go : Stays x n y ⊎ Grows x n y → Stays y m z ⊎ Grows y m z → Stays x (n + m) z ⊎ Grows x (n + m) z
    go (inl s) (inl t) = inl (record { none = omega (arith, s.none, t.none); same = t.same ∙ s.same })
    go (inl s) (inr g) =
        inr (record {
          more = omega (arith, s.same, g.more);
          slots = omega (arith, s.none, s.same, g.slots);
          entries = omega (arith, s.none, s.same, g.entries);
        })
    go (inr g) (inl t) =
        inr (record {
          more = omega (arith, t.same, g.more);
          slots = omega (arith, t.none, t.same, g.slots);
          entries = omega (arith, t.none, g.entries, b.listed);
        })
    go (inr g) (inr f) =
        inr (record {
          more = omega (arith, g.more, f.more);
          slots = omega (arith, g.slots, f.slots);
          entries = omega (arith, g.slots, f.entries);
        })

-- the slots never get fewer
costs-slots : {x y : List ℕ} {n : ℕ} → Costs x n y → slots_of x ≤ slots_of y
costs-slots c = elim c.index [ inl s ↦ omega (arith, s.same) | inr g ↦ omega (arith, g.more) ]

-- One append

-- what an append that makes all its stores costs, and that it moves the index exactly where it has stores of step 5
record Cost (x s y : List ℕ) : Type 0 where
  opens : verdict y ≡ 0
  costs : Costs x (copied_entries x s) y
  moves : 0 < length (step_five x s) → slots_of x < slots_of y
  stays : step_five x s ≡ [] → slots_of y ≡ slots_of x

-- an append without step 5, whatever its other stores
without-five : (x s : List ℕ) (before behind : List Store) → stores_for x s ≡ before ++ step_five x s ++ behind → step_five x s ≡ [] → StepFive x s
unfolding words up
without-five x s before behind among e =
    let zero : copied_entries x s ≡ 0 = none-copied x s e in
    record {
      before = before;
      behind = behind;
      among = among;
      copies = rw zero refl;
      all = λ l. absurd (omega (arith, ap length e));
      none = λ _. zero;
    }

module _ (x s : List ℕ) (ok : Valid x (rows_of s)) (h : append_test x s ≡ 0) where
  abbrev v : View
  v = view_of x

  abbrev p : Plan
  p = plan_of v (rows_of s)

  r : Ready v (rows_of s) p
  r = ready x (rows_of s) ok

  -- no more entries are listed than there are slots
  few : length (entries_of x) ≤ slots_of x
  unfolding view_of
  few = (opens-shown x ok.opens ok.recent).entries.few

  five-moved : {m : Bool} → p.index_moves ≡ m →
      step_five x s ≡ moved m (index_start p) (4 * p.slots) (part x (layout_of x).index (32 * length (entries_of x))) 8 p.slots
  unfolding step_five move_index view_of
  five-moved e = rw (h, step_five) (ap (λ m. moved m (index_start p) (4 * p.slots) (part x (layout_of x).index (32 * length (entries_of x))) 8 p.slots) e)

  five-none : p.index_moves ≡ false → step_five x s ≡ []
  unfolding moved
  five-none e = five-moved e

  -- a new block has room for all listed entries
  roomy : 4 * length (entries_of x) ≤ 4 * p.slots
  unfolding view_of
  roomy = omega (arith, few, r.plan.twice_slots)

  five-first : p.index_moves ≡ true → (k : ℕ) → k ≤ 4 * length (entries_of x) →
      take k (step_five x s) ≡ words (part x (layout_of x).index (32 * length (entries_of x))) (index_start p) (up (index_start p) k)
  five-first e k l = ap (take k) (five-moved e) ∙ moved-first k (index_start p) (4 * p.slots) _ 8 p.slots (omega (arith, roomy))

  all-copied : p.index_moves ≡ true → copied_entries x s ≡ length (entries_of x)
  unfolding copied_entries
  all-copied e =
      let n : ℕ = 4 * length (entries_of x) in
      let long : length (take n (step_five x s)) ≡ n
      = ap length (five-first e n (omega arith)) ∙ words-length _ (index_start p) (up (index_start p) n) ∙ up-length (index_start p) n in
      omega arith

  -- so an accepted append copies all listed entries or none
  pub copied-where : copied_entries x s ≡ cond p.index_moves (length (entries_of x)) 0
  copied-where = go p.index_moves refl
    where
      go : (m : Bool) → p.index_moves ≡ m → copied_entries x s ≡ cond p.index_moves (length (entries_of x)) 0
      go true e = rw e (all-copied e)
      go false e = rw e (none-copied x s (five-none e))

  some-stores : p.index_moves ≡ true → 0 < length (step_five x s)
  some-stores e = rw (five-moved e) (moved-some (index_start p) (4 * p.slots) _ 8 p.slots)

  -- what is there after the last store
  shows : Is (after x (stores_for x s)) (with_entries (ready_view v p) (v.entries ++ p.entries))
  shows = last-shown x s h ok

  index-then : p.index_moves ≡ true → index_start p ≡ index_after x s
  index-then e = sym (ap (λ l. l.index) shows.layout ∙ ap (λ m. cond m (index_start p) v.layout.index) e)

  accepted-five : StepFive x s
  unfolding steps_of step_five
  accepted-five = go p.index_moves refl
    where
      before : List Store
      before = clear_index v ++ clear_names v ++ store_data p ++ move_names v p ++ store_names (name_block v p) v.names p.fresh

      behind : List Store
      behind = store_entries (index_block v p + 32 * length v.entries) p.entries

      among : stores_for x s ≡ before ++ step_five x s ++ behind
      among = stores-are x s h ∙ ap (λ five. before ++ five ++ behind) (rw (h, step_five))

      go : (m : Bool) → p.index_moves ≡ m → StepFive x s
      go true e =
          record {
            before = before;
            behind = behind;
            among = among;
            copies = rw (all-copied e, ← index-then e) (five-first e (4 * length (entries_of x)) (omega arith));
            all = λ _. all-copied e;
            none = λ z. absurd (omega (arith, some-stores e));
          }
      go false e = without-five x s before behind among (five-none e)

  slots-then : slots_of (after x (stores_for x s)) ≡ slots_after v p
  slots-then = ap (λ l. l.slots) shows.layout

  entries-then : length (entries_of (after x (stores_for x s))) ≡ length (entries_of x) + length p.entries
  unfolding view_of
  entries-then = ap length (shown-entries shows) ∙ length-append v.entries p.entries

  -- the index moves only where the entries pass the slots
  moves-when : p.index_moves ≡ true → slots_of x < length (entries_of x) + length p.entries
  unfolding plan_of view_of
  moves-when e = ltb-true _ _ e

  accepted-cost : Cost x s (after x (stores_for x s))
  unfolding view_of
  accepted-cost = go p.index_moves refl
    where
      opens : verdict (after x (stores_for x s)) ≡ 0
      opens = (moments x s h ok).last.opens

      go : (m : Bool) → p.index_moves ≡ m → Cost x s (after x (stores_for x s))
      go true e =
          let slots : slots_of (after x (stores_for x s)) ≡ p.slots = slots-then ∙ ap (λ m. cond m p.slots v.layout.slots) e in
          let more : slots_of x < slots_of (after x (stores_for x s)) = omega (arith, slots, r.plan.twice_slots) in
          record {
            opens = opens;
            costs = record {
              listed = omega (arith, entries-then);
              index = inr (record {
                more = more;
                slots = omega (arith, slots, all-copied e, few, r.plan.twice_slots);
                entries = omega (arith, all-copied e, entries-then, moves-when e);
              });
            };
            moves = λ _. more;
            stays = λ n. absurd (omega (arith, some-stores e, ap length n));
          }
      go false e =
          let same : slots_of (after x (stores_for x s)) ≡ slots_of x = slots-then ∙ ap (λ m. cond m p.slots v.layout.slots) e in
          record {
            opens = opens;
            costs = record {
              listed = omega (arith, entries-then);
              index = inl (record { none = none-copied x s (five-none e); same = same });
            };
            moves = λ l. absurd (omega (arith, ap length (five-none e)));
            stays = λ _. same;
          }

-- step 5 among the stores of any append
pub step-five : (x s : List ℕ) → Bytes s → StepFive x s
step-five x s o = go (ℕ_discrete (append_test x s) 0)
  where
    go : Dec (append_test x s ≡ 0) → StepFive x s
    go (yes h) = accepted-five x s (valid x s o h) h
    go (no h) = without-five x s [] [] (rw (stores-refused x s h, five-refused x s h)) (five-refused x s h)

-- one call of a run of whole appends
call-cost : (x : List ℕ) (c : Call) → verdict x ≡ 0 → length (stores_for x c.sheet) ≤ c.limit → Cost x c.sheet (after_call x c)
call-cost x c o l = go (ℕ_discrete (append_test x c.sheet) 0)
  where
    go : Dec (append_test x c.sheet ≡ 0) → Cost x c.sheet (after_call x c)
    go (yes h) =
        rw (after-call x c, take_all (stores_made x c) (stores_for x c.sheet) (omega arith)) (accepted-cost x c.sheet (valid x c.sheet c.bytes h) h)
    go (no h) =
        let five : step_five x c.sheet ≡ [] = five-refused x c.sheet h in
        rw (after-call x c, refused-keeps x c.sheet (stores_made x c) h) (record {
          opens = o;
          costs = rw (none-copied x c.sheet five) (costs-none x);
          moves = λ m. absurd (omega (arith, ap length five));
          stays = λ _. refl;
        })

-- The run

whole-first : {x : List ℕ} {c : Call} {cs : List Call} → WholeRun x (c ∷ cs) → length (stores_for x c.sheet) ≤ c.limit
whole-first {x} {c} w = w x c first

whole-rest : {x : List ℕ} {c : Call} {cs : List Call} → WholeRun x (c ∷ cs) → WholeRun (after_call x c) cs
whole-rest w y d b = w y d (next b)

run-costs : (cs : List Call) (x : List ℕ) → verdict x ≡ 0 → WholeRun x cs → Costs x (copied_sum x cs) (after_run x cs)
unfolding copied_sum after_run
run-costs [] x o w = costs-none x
run-costs (c ∷ cs) x o w =
    let one : Cost x c.sheet (after_call x c) = call-cost x c o (whole-first w) in
    costs-then one.costs (run-costs cs (after_call x c) one.opens (whole-rest w))

-- where the index moves in the run there are more slots,
more-slots : {x : List ℕ} {cs : List Call} {y : List ℕ} {d : Call} → Begins x cs y d → 0 < length (step_five y d.sheet) → verdict x ≡ 0 → WholeRun x cs →
    slots_of x < slots_of (after_run x cs)
unfolding after_run
more-slots (first {x = x} {c = c} {cs = cs}) l o w =
    let one : Cost x c.sheet (after_call x c) = call-cost x c o (whole-first w) in
    omega (arith, one.moves l, costs-slots (run-costs cs (after_call x c) one.opens (whole-rest w)))
more-slots (next {x = x} {b = b} {cs = cs} q) l o w =
    let one : Cost x b.sheet (after_call x b) = call-cost x b o (whole-first w) in
    omega (arith, costs-slots one.costs, more-slots q l one.opens (whole-rest w))

-- and nowhere else
slots-moved : (cs : List Call) (x : List ℕ) → verdict x ≡ 0 → WholeRun x cs → slots_of x < slots_of (after_run x cs) → Moves x cs
unfolding after_run
slots-moved [] x o w m = absurd (omega arith)
slots-moved (c ∷ cs) x o w m = go (slots-moved cs (after_call x c) one.opens (whole-rest w)) (step_five x c.sheet) refl
  where
    one : Cost x c.sheet (after_call x c)
    one = call-cost x c o (whole-first w)

    go : (slots_of (after_call x c) < slots_of (after_run (after_call x c) cs) → Moves (after_call x c) cs) → (five : List Store) → step_five x c.sheet ≡ five →
        Moves x (c ∷ cs)
    go rest [] e = let t = rest (omega (arith, one.stays e)) in record { image = t.image; call = t.call; begins = next t.begins; stores = t.stores }
    go rest (s ∷ ss) e = record { image = x; call = c; begins = first; stores = rw e (omega arith) }

-- from any image that opens
pub moving-costs : (x : List ℕ) (cs : List Call) → verdict x ≡ 0 → WholeRun x cs → MovingCosts x cs
moving-costs x cs o w = record {
  slots = elim costs.index [ inl s ↦ omega (arith, s.none, s.same) | inr g ↦ g.slots ];
  entries = λ m. elim costs.index [ inl s ↦ absurd (omega (arith, s.same, more m)) | inr g ↦ omega (arith, g.entries) ];
  more = more;
  moved = slots-moved cs x o w;
}
  where
    costs : Costs x (copied_sum x cs) (after_run x cs)
    costs = run-costs cs x o w

    more : Moves x cs → slots_of x < slots_of (after_run x cs)
    more m = more-slots m.begins m.stores o w

-- and so from a created one, whatever create was asked for
pub created-costs : (slice application schema : List ℕ) (schema_version slots segments : ℕ) → create_number slice application schema slots segments ≡ 0 →
    (cs : List Call) → let x : List ℕ = created slice application schema schema_version slots segments in WholeRun x cs → MovingCosts x cs
created-costs slice application schema schema_version slots segments n cs w =
    moving-costs _ cs (created-opens slice application schema schema_version slots segments n) w
