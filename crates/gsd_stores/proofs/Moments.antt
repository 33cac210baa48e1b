-- The moments of one accepted append: each store keeps all that was shown, those before the last change nothing but the names, and
-- after the last there is one frame more.
use Prim.Native.Nat.{ℕ, ◌+◌, ◌-◌, ◌≤◌}
use mathlib.Core.Path.{◌≡◌, refl, sym, ◌∙◌, ap}
use mathlib.Core.List.{List, [], ◌++◌, append_assoc, append-nil}
use native.Mathlib.Omega.{arith}
use lib.ListN.{length, take, drop, length-append, length-take}
use lib.Seq.{take-add, take-append-add, get_or-append-add}
use Rattle.gsd_format.specs.Entries.{frames_of}
use Rattle.gsd_format.specs.Opening.{verdict, most_names}
use Rattle.gsd_format.specs.Lookup.{none}
use Rattle.gsd_format.specs.Names.{Distinct}
use Rattle.gsd_format.proofs.Ids.{distinct-take}
use Rattle.gsd_format.proofs.Verdict.{sound-ids}
use Rattle.gsd_stores.specs.Stores.{after}
use Rattle.gsd_stores.specs.View.{View, view_of}
use Rattle.gsd_stores.specs.Sheet.{Row, rows_of}
use Rattle.gsd_stores.specs.Plan.{Plan, plan_of}
use Rattle.gsd_stores.specs.Steps.{steps_of, store_list}
use Rattle.gsd_stores.specs.Append.{append_test, stores_for}
use Rattle.gsd_stores.specs.Runs.{frames}
use Rattle.gsd_stores.proofs.Phases.{Phase}
use Rattle.gsd_stores.proofs.View.{with_entries, Is, is-long, Base, base-start, Room}
use Rattle.gsd_stores.proofs.Good.{Good, ready as ready_view}
use Rattle.gsd_stores.proofs.Plan.{EndOfUse, positions}
use Rattle.gsd_stores.proofs.Valid.{Valid, Ready, ready}
use Rattle.gsd_stores.proofs.NewEntries.{Final}
use Rattle.gsd_stores.proofs.Whole.{SoFar, all_named, AllPass, whole_append}
use Rattle.gsd_stores.proofs.Shown.{Legal, shown-opens, shown-entries, opens-shown, opens-legal, extends-keep}
use Rattle.gsd_stores.proofs.Complete.{frame-complete}
use Rattle.gsd_stores.proofs.Runs.{Stored, Grown, Accepted}

pub stores-are : (x s : List ℕ) → append_test x s ≡ 0 → stores_for x s ≡ steps_of x (view_of x) (plan_of (view_of x) (rows_of s))
unfolding stores_for store_list
stores-are x s h = rw (h, stores_for)

room-use : (v : View) (pos : ℕ) → EndOfUse v pos → Room v pos 0 pos
room-use v pos e = record {
  low = e.header;
  index = e.index;
  names = e.names;
  chunks = e.chunks;
  body = omega arith;
  off_index = λ p a b c d. omega arith;
  off_names = λ p a b c d. omega arith;
}

-- a plan that is ready is good
pub ready-good : (v : View) (rs : List Row) (p : Plan) → Ready v rs p → Good v p
ready-good v rs p r = record {
  namelist_even = r.even_names;
  body_even = r.even_body;
  room = room-use v p.start r.plan.room;
  fresh = r.named;
  more_segments = r.plan.more_segments;
  names_fit = r.plan.names_fit;
  more_slots = r.plan.more_slots;
  entries_fit = r.plan.entries_fit;
  fits = r.fits;
  sound = λ j l. rw (get_or-append-add v.entries p.entries j none) at (r.sound (length v.entries + j) (omega (arith, length-append v.entries p.entries)));
  exact = r.exact;
}

module _ (x : List ℕ) (rs : List Row) (ok : Valid x rs) where
  abbrev v : View
  v = view_of x

  abbrev p : Plan
  p = plan_of v rs

  r : Ready v rs p
  r = ready x rs ok

  begins : Is x v
  begins = opens-shown x ok.opens ok.recent

  legal : Legal v
  legal = opens-legal x ok.opens ok.recent

  -- some of the new names and no new entry
  names-some : (j : ℕ) → (length (v.names ++ take j p.fresh) ≤ most_names) × Distinct (v.names ++ take j p.fresh)
  names-some j =
      let n : ℕ = length v.names + j in
      let e : take n (v.names ++ p.fresh) ≡ v.names ++ take j p.fresh = take-append-add v.names p.fresh j in
      (rw (← e) (simp length-take (omega (arith, r.few_names))), rw e at (distinct-take n (v.names ++ p.fresh) r.distinct))

  some-opens : {u : View} {j : ℕ} {a : List ℕ} → SoFar v p j u → Is a u → verdict a ≡ 0
  some-opens {j = j} s h = shown-opens h (record {
    few = rw s.names (names-some j).0;
    distinct = rw s.names (names-some j).1;
    ordered = rw s.entries legal.ordered;
  })

  some-frames : {u : View} {j : ℕ} {a : List ℕ} → SoFar v p j u → Is a u → frames a ≡ frames x
  some-frames s h = ap frames_of (shown-entries h ∙ s.entries ∙ sym (shown-entries begins))

  -- a store that adds names or nothing
  some-pass : AllPass x (Stored x) v p
  some-pass u w i j l su sw a b ha hb =
      let ms : List (List ℕ) = take (j - i) (drop i p.fresh) in
      let more : take j p.fresh ≡ take i p.fresh ++ ms
      = ap (λ n. take n p.fresh) (let e : j ≡ i + (j - i) = omega arith in e) ∙ take-add i (j - i) p.fresh in
      let es : w.entries ≡ u.entries = sw.entries ∙ sym su.entries in
      let oa : verdict a ≡ 0 = some-opens su ha.is in
      record {
        opens = oa;
        same = some-frames su ha.is;
        keep = extends-keep a b u w [] ms (record {
          from = ha.is;
          to = hb.is;
          entries = es ∙ sym (append-nil u.entries);
          names = sw.names ∙ ap (λ ns. v.names ++ ns) more ∙ sym (append_assoc v.names (take i p.fresh) ms) ∙ ap (λ ns. ns ++ ms) (sym su.names);
          frames = rw append-nil (omega arith);
          newer = λ k m. absurd (omega arith);
          long = is-long hb.is ∙ sw.len ∙ sym su.len ∙ sym (is-long ha.is);
          chunks = λ k m n q. (rw es at hb.chunks) k m n q ∙ sym (ha.chunks k m n q);
          raw = λ k m. hb.raw k (rw es m) ∙ sym (ha.raw k m);
        }) oa (some-opens sw hb.is);
      }

  -- the view before the last store
  all-names : SoFar v p (length p.fresh) (ready_view v p)
  all-names = all_named (ready_view v p).layout refl

  final-opens : (y : List ℕ) → Final x (ready_view v p) p.entries p.start p.body y → verdict y ≡ 0
  final-opens y f = shown-opens f.is (record { few = r.few_names; distinct = r.distinct; ordered = r.ordered })

  -- the last store
  last-pass : (a b : List ℕ) → Base x (ready_view v p) a → Final x (ready_view v p) p.entries p.start p.body b → Stored x a b
  last-pass a b ha f =
      let oa : verdict a ≡ 0 = some-opens all-names ha.is in
      record {
        opens = oa;
        same = some-frames all-names ha.is;
        keep = extends-keep a b (ready_view v p) (with_entries (ready_view v p) (v.entries ++ p.entries)) p.entries [] (record {
          from = ha.is;
          to = f.is;
          entries = refl;
          names = sym (append-nil (v.names ++ p.fresh));
          frames = omega (arith, r.frames);
          newer = λ i l. omega (arith, (r.new i l).frame);
          long = is-long f.is ∙ sym (is-long ha.is);
          chunks = λ k m n q. f.chunks k m n q ∙ sym (ha.chunks k m n q);
          raw = λ k m. f.raw k m ∙ sym (ha.raw k m);
        }) oa (final-opens b f);
      }

  grows : (y : List ℕ) → Final x (ready_view v p) p.entries p.start p.body y → Grown x rs y
  grows y f =
      let w : View = with_entries (ready_view v p) (v.entries ++ p.entries) in
      let oy : verdict y ≡ 0 = final-opens y f in
      let before : frames x ≡ frames_of v.entries = ap frames_of (shown-entries begins) in
      let long : length y ≡ v.layout.len = is-long f.is in
      record {
        opens = oy;
        more = ap frames_of (shown-entries f.is) ∙ r.frames ∙ ap (λ n. n + 1) (sym before);
        complete = rw before (frame-complete v rs p y w (record {
          is = f.is;
          opens = oy;
          entries = refl;
          names = refl;
          body = f.body;
          long = omega (arith, r.fits, (positions p).0, (positions p).1);
        }) r ok.rows (sound-ids v.entries v.layout (length v.names) (omega (arith, legal.few)) begins.sound));
      }

  -- all of its stores
  stores : Phase (Base x v) (Final x (ready_view v p) p.entries p.start p.body) (Stored x) (steps_of x v p)
  stores = whole_append (ready-good v rs p r) begins some-pass last-pass

  start : Base x v x
  start = base-start begins

-- every moment of an accepted append
pub moments : (x s : List ℕ) → append_test x s ≡ 0 → Valid x (rows_of s) → Accepted x s
moments x s h ok = record {
  each = λ k l. rw (stores-are x s h) ((stores x (rows_of s) ok).during x (start x (rows_of s) ok) k (rw (stores-are x s h) at l));
  last = rw (stores-are x s h) (grows x (rows_of s) ok _ ((stores x (rows_of s) ok).final x (start x (rows_of s) ok)));
}

-- and what is shown after the last
pub last-shown : (x s : List ℕ) → append_test x s ≡ 0 → Valid x (rows_of s) →
    let p : Plan = plan_of (view_of x) (rows_of s) in
    Is (after x (stores_for x s)) (with_entries (ready_view (view_of x) p) ((view_of x).entries ++ p.entries))
last-shown x s h ok = rw (stores-are x s h) ((stores x (rows_of s) ok).final x (start x (rows_of s) ok)).is
