-- From one append to a run of appends: what holds at every moment of a call holds at every moment of a run.
use Prim.Native.Nat.{ℕ, zero, suc, ◌+◌, ◌-◌, ◌≤◌, ◌<◌, min}
use mathlib.Core.Path.{◌≡◌, refl, sym, ◌∙◌, ap}
use mathlib.Core.Bool.{Bool, true, false, true≢false}
use mathlib.Core.Logic.{◌⊎◌, inl, inr}
use mathlib.Core.List.{List, [], ◌∷◌}
use native.Mathlib.Nat.{zero-add, suc-add, add-zero}
use native.Mathlib.Decide.{ℕ_discrete, dec_lt, dec_le}
use native.Mathlib.Omega.{arith}
use lib.ListN.{length, get_or, take}
use lib.Seq.{take_all, take-nil}
use borrow.Author.Tests.{eqb-true, eq-eqb, leb-true, le-leb}
use Rattle.gsd_format.specs.Opening.{verdict}
use Rattle.gsd_format.proofs.Refusals.{both_true, both_of}
use Rattle.gsd_stores.specs.Sheet.{Row, rows_of}
use Rattle.gsd_stores.specs.Stores.{Store, after}
use Rattle.gsd_stores.specs.Append.{append_test, stores_for, appended}
use Rattle.gsd_stores.specs.Runs.{Bytes, Call, stores_made, after_stores, after_call, after_run, frames, last_store_made, completed}
use Rattle.gsd_stores.specs.Runs.{Moment, start, during, later, Follows, from_start, in_call, from_call, both_later}
use Rattle.gsd_stores.specs.Demand3.{Complete, Demand3}
use Rattle.gsd_stores.proofs.Keep.{Keep, keep-refl, keep-trans, absent-kept, named-kept, complete-kept}

-- a store of an append that began at x, from a to b: it finds an image that opens, with the frames of the beginning, and keeps what
-- that has
pub record Stored (x a b : List ℕ) : Type 0 where
  pub opens : verdict a ≡ 0
  pub same : frames a ≡ frames x
  pub keep : Keep a b

-- after the last one: one frame more, complete and exactly as requested
pub record Grown (x : List ℕ) (rows : List Row) (y : List ℕ) : Type 0 where
  pub opens : verdict y ≡ 0
  pub more : frames y ≡ frames x + 1
  pub complete : Complete y (frames x) rows

-- the stores of one accepted append
pub record Accepted (x s : List ℕ) : Type 0 where
  pub each : (k : ℕ) → k < length (stores_for x s) → Stored x (after x (take k (stores_for x s))) (after x (take (suc k) (stores_for x s)))
  pub last : Grown x (rows_of s) (after x (stores_for x s))

-- a refused append has no store, in any step
pub refused_none : (n : ℕ) (xs : List Store) → (n ≡ 0 → ⊥) → ◌≡◌ {A = List Store} (elim n [ zero ↦ xs | suc k ↦ [] ]) []
refused_none zero xs h = absurd (h refl)
refused_none (suc n) xs h = refl

pub stores-refused : (x s : List ℕ) → (append_test x s ≡ 0 → ⊥) → stores_for x s ≡ []
unfolding stores_for
stores-refused x s h = refused_none (append_test x s) _ h

appended-is : (x s : List ℕ) (limit : ℕ) → appended x s limit ≡ after x (take (min limit (length (stores_for x s))) (stores_for x s))
unfolding appended
appended-is x s limit = refl

after_none : (x : List ℕ) → after x [] ≡ x
unfolding after
after_none x = refl

-- a refused append changes nothing, whatever its limit
pub refused-keeps : (x s : List ℕ) (k : ℕ) → (append_test x s ≡ 0 → ⊥) → after x (take k (stores_for x s)) ≡ x
refused-keeps x s k h = rw (stores-refused x s h, take-nil) (after_none x)

pub after-call : (x : List ℕ) (c : Call) → after_call x c ≡ after_stores x c (stores_made x c)
after-call x c = appended-is x c.sheet c.limit

-- the start of a call is its moment after 0 stores
zeroth : (x : List ℕ) (c : Call) → after_stores x c 0 ≡ x
zeroth x c = after_none x

-- whether the last store was made
pub made-both : (x : List ℕ) (c : Call) → last_store_made x c ≡ true → (append_test x c.sheet ≡ 0) × (length (stores_for x c.sheet) ≤ c.limit)
unfolding last_store_made
made-both x c h =
    let b = both_true _ _ h in
    (eqb-true (append_test x c.sheet) 0 b.0, leb-true (length (stores_for x c.sheet)) c.limit b.1)

both-made : (x : List ℕ) (c : Call) → append_test x c.sheet ≡ 0 → length (stores_for x c.sheet) ≤ c.limit → last_store_made x c ≡ true
unfolding last_store_made
both-made x c h l = both_of _ _ (eq-eqb (append_test x c.sheet) 0 h) (le-leb (length (stores_for x c.sheet)) c.limit l)

-- The end of a run

run_none : (x : List ℕ) → after_run x [] ≡ x
unfolding after_run
run_none x = refl

run_more : (x : List ℕ) (c : Call) (cs : List Call) → after_run x (c ∷ cs) ≡ after_run (after_call x c) cs
unfolding after_run
run_more x c cs = refl

-- it is a moment of the run, and follows each
pub end-moment : (x : List ℕ) (cs : List Call) → Moment x cs (after_run x cs)
end-moment x [] = rw (run_none x) start
end-moment x (c ∷ cs) = rw (run_more x c cs) (later (end-moment (after_call x c) cs))

pub end-follows : {x : List ℕ} {cs : List Call} {m : List ℕ} → Moment x cs m → Follows x cs m (after_run x cs)
end-follows (start {x = x} {cs = cs}) = from_start (end-moment x cs)
end-follows (during {x = x} {c = c} {cs = cs} k h) = rw (run_more x c cs) (from_call k h (end-moment (after_call x c) cs))
end-follows (later {x = x} {c = c} {cs = cs} t) = rw (run_more x c cs) (both_later (end-follows t))

-- of two moments in their order each is one
pub follows-first : {x : List ℕ} {cs : List Call} {m n : List ℕ} → Follows x cs m n → Moment x cs m
follows-first (from_start t) = start
follows-first (in_call {x = x} {c = c} k l h g) = during {x = x} {c = c} k (omega arith)
follows-first (from_call k h t) = during k h
follows-first (both_later f) = later (follows-first f)

pub follows-second : {x : List ℕ} {cs : List Call} {m n : List ℕ} → Follows x cs m n → Moment x cs n
follows-second (from_start t) = t
follows-second (in_call k l h g) = during l g
follows-second (from_call k h t) = later t
follows-second (both_later f) = later (follows-second f)

-- and of any two moments one follows the other
stores-ordered : {x : List ℕ} {c : Call} {cs : List Call} {n : List ℕ} (k : ℕ) → k ≤ stores_made x c → Moment x (c ∷ cs) n →
    Follows x (c ∷ cs) (after_stores x c k) n ⊎ Follows x (c ∷ cs) n (after_stores x c k)
stores-ordered k h start = inr (from_start (during k h))
stores-ordered k h (during l g) = elim (dec_le k l) [ yes o ↦ inl (in_call k l o g) | no o ↦ inr (in_call l k (omega arith) h) ]
stores-ordered k h (later u) = inl (from_call k h u)

pub moments-ordered : {x : List ℕ} {cs : List Call} {m n : List ℕ} → Moment x cs m → Moment x cs n → Follows x cs m n ⊎ Follows x cs n m
moments-ordered start u = inl (from_start u)
moments-ordered (during k h) u = stores-ordered k h u
moments-ordered (later t) start = inr (from_start (later t))
moments-ordered (later t) (during k h) = inr (from_call k h t)
moments-ordered (later t) (later u) = elim (moments-ordered t u) [ inl f ↦ inl (both_later f) | inr f ↦ inr (both_later f) ]

-- From store to store. R holds from an image to itself, joins, and leads from the image before each store of an accepted append to
-- that after it; then it leads from a moment of a run to every later one
module _ (R : List ℕ → List ℕ → Type 0) (same : (a : List ℕ) → R a a) (join : (a b c : List ℕ) → R a b → R b c → R a c)
    (each : (x s : List ℕ) → Bytes s → append_test x s ≡ 0 → (k : ℕ) → k < length (stores_for x s) →
    R (after x (take k (stores_for x s))) (after x (take (suc k) (stores_for x s)))) where
  store-leads : (x : List ℕ) (c : Call) (k : ℕ) → R (after_stores x c k) (after_stores x c (suc k))
  store-leads x c k = go (ℕ_discrete (append_test x c.sheet) 0) (dec_lt k (length (stores_for x c.sheet)))
    where
      go : Dec (append_test x c.sheet ≡ 0) → Dec (k < length (stores_for x c.sheet)) → R (after_stores x c k) (after_stores x c (suc k))
      go (yes e) (yes l) = each x c.sheet c.bytes e k l
      go (yes e) (no l) = rw (take_all k (stores_for x c.sheet) (omega arith), take_all (suc k) (stores_for x c.sheet) (omega arith)) (same _)
      go (no e) d = rw (refused-keeps x c.sheet k e, refused-keeps x c.sheet (suc k) e) (same x)

  stores-lead : (x : List ℕ) (c : Call) (k n : ℕ) → R (after_stores x c k) (after_stores x c (n + k))
  stores-lead x c k zero = rw zero-add (same (after_stores x c k))
  stores-lead x c k (suc n) = rw suc-add (join _ _ _ (stores-lead x c k n) (store-leads x c (n + k)))

  call-leads : (x : List ℕ) (c : Call) (k l : ℕ) → k ≤ l → R (after_stores x c k) (after_stores x c l)
  call-leads x c k l h = let e : l ≡ l - k + k = omega arith in rw e (stores-lead x c k (l - k))

  done-leads : (x : List ℕ) (c : Call) (k : ℕ) → k ≤ stores_made x c → R (after_stores x c k) (after_call x c)
  done-leads x c k h = rw (after-call x c) (call-leads x c k (stores_made x c) h)

  pub moment-leads : {x : List ℕ} {cs : List Call} {m : List ℕ} → Moment x cs m → R x m
  moment-leads (start {x = x}) = same x
  moment-leads (during {x = x} {c = c} k h) = rw (zeroth x c) at (call-leads x c 0 k (omega arith))
  moment-leads (later {x = x} {c = c} t) = join x (after_call x c) _ (rw (zeroth x c) at (done-leads x c 0 (omega arith))) (moment-leads t)

  pub follows-leads : {x : List ℕ} {cs : List Call} {m n : List ℕ} → Follows x cs m n → R m n
  follows-leads (from_start t) = moment-leads t
  follows-leads (in_call {x = x} {c = c} k l h g) = call-leads x c k l h
  follows-leads (from_call {x = x} {c = c} k h t) = join _ (after_call x c) _ (done-leads x c k h) (moment-leads t)
  follows-leads (both_later f) = follows-leads f

module _ (accepted : (x s : List ℕ) → Bytes s → append_test x s ≡ 0 → Accepted x s) where
  -- One call

  call_opens : (x : List ℕ) (c : Call) → verdict x ≡ 0 → (k : ℕ) → verdict (after_stores x c k) ≡ 0
  call_opens x c o k = go (ℕ_discrete (append_test x c.sheet) 0) (dec_lt k (length (stores_for x c.sheet)))
    where
      go : Dec (append_test x c.sheet ≡ 0) → Dec (k < length (stores_for x c.sheet)) → verdict (after_stores x c k) ≡ 0
      go (yes e) (yes l) = ((accepted x c.sheet c.bytes e).each k l).opens
      go (yes e) (no l) = rw (take_all k (stores_for x c.sheet) (omega arith)) (accepted x c.sheet c.bytes e).last.opens
      go (no e) d = rw (refused-keeps x c.sheet k e) o

  -- the number of frames until the last store
  call-frames : (x : List ℕ) (c : Call) (k : ℕ) → k < length (stores_for x c.sheet) → frames (after_stores x c k) ≡ frames x
  call-frames x c k l = go (ℕ_discrete (append_test x c.sheet) 0)
    where
      go : Dec (append_test x c.sheet ≡ 0) → frames (after_stores x c k) ≡ frames x
      go (yes e) = ((accepted x c.sheet c.bytes e).each k l).same
      go (no e) = ap frames (refused-keeps x c.sheet k e)

  done-opens : (x : List ℕ) (c : Call) → verdict x ≡ 0 → verdict (after_call x c) ≡ 0
  done-opens x c o = rw (after-call x c) (call_opens x c o (stores_made x c))

  call-whole : (x : List ℕ) (c : Call) → last_store_made x c ≡ true → Grown x (rows_of c.sheet) (after_call x c)
  call-whole x c h =
      let b = made-both x c h in
      rw (after-call x c, take_all (min c.limit (length (stores_for x c.sheet))) (stores_for x c.sheet) (omega (arith, b.1)))
      (accepted x c.sheet c.bytes b.0).last

  call-part : (x : List ℕ) (c : Call) → last_store_made x c ≡ false → frames (after_call x c) ≡ frames x
  call-part x c h = go (ℕ_discrete (append_test x c.sheet) 0) (dec_le (length (stores_for x c.sheet)) c.limit)
    where
      go : Dec (append_test x c.sheet ≡ 0) → Dec (length (stores_for x c.sheet) ≤ c.limit) → frames (after_call x c) ≡ frames x
      go (yes e) (yes l) = absurd (true≢false (sym (both-made x c e l) ∙ h))
      go (yes e) (no l) = rw (after-call x c) (call-frames x c (stores_made x c) (omega arith))
      go (no e) l = rw (after-call x c, refused-keeps x c.sheet (stores_made x c) e)

  -- The run

  moment-opens : {x : List ℕ} {cs : List Call} {m : List ℕ} → Moment x cs m → verdict x ≡ 0 → verdict m ≡ 0
  moment-opens start o = o
  moment-opens (during {x = x} {c = c} k h) o = call_opens x c o k
  moment-opens (later {x = x} {c = c} t) o = moment-opens t (done-opens x c o)

  store_keeps : (x s : List ℕ) → Bytes s → append_test x s ≡ 0 → (k : ℕ) → k < length (stores_for x s) →
      Keep (after x (take k (stores_for x s))) (after x (take (suc k) (stores_for x s)))
  store_keeps x s o h k l = ((accepted x s o h).each k l).keep

  moment-keeps : {x : List ℕ} {cs : List Call} {m : List ℕ} → Moment x cs m → Keep x m
  moment-keeps t = moment-leads Keep keep-refl keep-trans store_keeps t

  follows-keeps : {x : List ℕ} {cs : List Call} {m n : List ℕ} → Follows x cs m n → Keep m n
  follows-keeps t = follows-leads Keep keep-refl keep-trans store_keeps t

  completed-none : (x : List ℕ) → completed x [] ≡ []
  unfolding completed
  completed-none x = refl

  completed-made : (x : List ℕ) (c : Call) (cs : List Call) → last_store_made x c ≡ true → completed x (c ∷ cs) ≡ rows_of c.sheet ∷ completed (after_call x c) cs
  unfolding completed
  completed-made x c cs h = rw (h, completed)

  completed-not : (x : List ℕ) (c : Call) (cs : List Call) → last_store_made x c ≡ false → completed x (c ∷ cs) ≡ completed (after_call x c) cs
  unfolding completed
  completed-not x c cs h = rw (h, completed)

  data Made (t : Bool) : Type 0 where
    made : t ≡ true → Made t
    part : t ≡ false → Made t

  which : (t : Bool) → Made t
  which true = made refl
  which false = part refl

  counted : (cs : List Call) (x : List ℕ) → frames (after_run x cs) ≡ frames x + length (completed x cs)
  counted [] x = rw (run_none x, completed-none x) (omega arith)
  counted (c ∷ cs) x = go (counted cs (after_call x c)) (which (last_store_made x c))
    where
      go : frames (after_run (after_call x c) cs) ≡ frames (after_call x c) + length (completed (after_call x c) cs) → Made (last_store_made x c) →
          frames (after_run x (c ∷ cs)) ≡ frames x + length (completed x (c ∷ cs))
      go r (made h) = rw (run_more x c cs, completed-made x c cs h) (omega (arith, r, (call-whole x c h).more))
      go r (part h) = rw (run_more x c cs, completed-not x c cs h) (omega (arith, r, call-part x c h))

  -- a frame of the run that is there is complete: at a moment of a call, and at any moment
  call-complete : (x : List ℕ) (c : Call) (cs : List Call) (k : ℕ) → k ≤ stores_made x c → (i : ℕ) → frames x + i < frames (after_stores x c k) →
      Complete (after_stores x c k) (frames x + i) (get_or (completed x (c ∷ cs)) i [])
  call-complete x c cs k h = go (ℕ_discrete (append_test x c.sheet) 0) (dec_lt k (length (stores_for x c.sheet)))
    where
      go : Dec (append_test x c.sheet ≡ 0) → Dec (k < length (stores_for x c.sheet)) → (i : ℕ) → frames x + i < frames (after_stores x c k) →
          Complete (after_stores x c k) (frames x + i) (get_or (completed x (c ∷ cs)) i [])
      go d (yes l) i f = absurd (omega (arith, call-frames x c k l))
      go (yes e) (no l) zero f =
          rw (completed-made x c cs (both-made x c e (omega arith)), add-zero, take_all k (stores_for x c.sheet) (omega arith))
          (accepted x c.sheet c.bytes e).last.complete
      go (yes e) (no l) (suc i) f =
          let more = (accepted x c.sheet c.bytes e).last.more in
          absurd (omega (arith, more, ap (λ ss. frames (after x ss)) (take_all k (stores_for x c.sheet) (omega arith))))
      go (no e) (no l) i f = absurd (omega (arith, ap frames (refused-keeps x c.sheet k e)))

  moment-complete : {x : List ℕ} {cs : List Call} {n : List ℕ} → Moment x cs n → verdict x ≡ 0 → (i : ℕ) → frames x + i < frames n →
      Complete n (frames x + i) (get_or (completed x cs) i [])
  moment-complete start o i f = absurd (omega arith)
  moment-complete (during {x = x} {c = c} {cs = cs} k h) o i f = call-complete x c cs k h i f
  moment-complete (later {x = x} {c = c} {cs = cs} {m = n} t) o i f =
      go (λ j g. moment-complete t (done-opens x c o) j g) (which (last_store_made x c)) i f
    where
      go : ((i : ℕ) → frames (after_call x c) + i < frames n → Complete n (frames (after_call x c) + i) (get_or (completed (after_call x c) cs) i [])) →
          Made (last_store_made x c) → (i : ℕ) → frames x + i < frames n → Complete n (frames x + i) (get_or (completed x (c ∷ cs)) i [])
      go r (part h) i f = rw (completed-not x c cs h, ← call-part x c h) (r i (omega (arith, call-part x c h)))
      go r (made h) zero f =
          let g : Grown x (rows_of c.sheet) (after_call x c) = call-whole x c h in
          rw (completed-made x c cs h, add-zero)
          (complete-kept (after_call x c) n (moment-keeps t) (moment-opens t g.opens) (frames x) (rows_of c.sheet) (omega (arith, g.more)) g.complete)
      go r (made h) (suc i) f =
          let e : frames x + suc i ≡ frames (after_call x c) + i = omega (arith, (call-whole x c h).more) in
          rw (completed-made x c cs h, e) (r i (omega arith))

  -- the claim about the whole run
  pub all-fields : (x : List ℕ) (cs : List Call) → verdict x ≡ 0 → Demand3 x cs
  all-fields x cs o = record {
    opens = moment-opens (end-moment x cs) o;
    always = λ t. moment-opens t o;
    kept = λ t. (follows-keeps t).kept;
    chunk = λ t. (follows-keeps t).chunk;
    bytes = λ t. (follows-keeps t).bytes;
    absent = λ t f n. absent-kept _ _ (follows-keeps t) (moment-opens (follows-second t) o) f n;
    named = λ t f n. named-kept _ _ (follows-keeps t) (moment-opens (follows-first t) o) (moment-opens (follows-second t) o) f n;
    grows = λ t. (follows-keeps t).grow;
    steady = λ {y} {c} b k l. call-frames y c k l;
    counted = counted cs x;
    complete = λ t. moment-complete t o;
    there_if = λ {y} {c} b h. omega (arith, (call-whole y c h).more);
    there_only_if = λ {y} {c} b h. only y c h (which (last_store_made y c));
  }
    where
      only : (y : List ℕ) (c : Call) → frames y < frames (after_call y c) → Made (last_store_made y c) → last_store_made y c ≡ true
      only y c h (made m) = m
      only y c h (part m) = absurd (omega (arith, call-part y c m))
