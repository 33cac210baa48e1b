-- All that the appends of a run lay out starts at multiples of 64: the chunks by the plan, the blocks by what their header words
-- get.
use Rattle.std.specs.Prelude.{Result, Ok, Err}
use Prim.Native.Nat.{ℕ, ◌+◌, ◌-◌, ◌%◌, ◌^◌, ◌≤◌, ◌<◌}
use mathlib.Core.Path.{◌≡◌, refl, sym, ◌∙◌, ap}
use mathlib.Core.Logic.{inl, inr}
use mathlib.Core.List.{List, [], ◌∷◌, ◌++◌}
use native.Mathlib.Nat.{zero-add}
use native.Mathlib.Decide.{dec_lt, ℕ_discrete}
use native.Mathlib.Omega.{arith}
use lib.ListN.{length, get_or, take, length-append, get_or-append}
use lib.Seq.{take_all, get_or-append-add}
use Rattle.gsd_format.specs.declared.Entry.{Entry}
use Rattle.gsd_format.specs.Bytes.{le, stored}
use Rattle.gsd_format.specs.Header.{alignment, layout_of}
use Rattle.gsd_format.specs.Names.{names_of, index_of}
use Rattle.gsd_format.specs.Entries.{entries_of}
use Rattle.gsd_format.specs.Opening.{verdict, counts_of}
use Rattle.gsd_format.specs.Create.{create_number, created}
use Rattle.gsd_format.specs.Lookup.{lookup, none}
use Rattle.gsd_format.proofs.Fresh.{created-fresh, created-opens}
use Rattle.gsd_format.proofs.Lists.{Each, each_take}
use Rattle.gsd_format.proofs.Bytes.{le_same, stored-length, stored-below, stored-above, stored-inside}
use Rattle.gsd_format.proofs.Entries.{frames-below}
use Rattle.gsd_format.proofs.Verdict.{sound-ids, opening-open}
use Rattle.gsd_format.proofs.Lookup.{Stands, stands-frame, find-sound, look-found, opened-lookup}
use Rattle.gsd_stores.specs.Stores.{Store, after}
use Rattle.gsd_stores.specs.View.{View, view_of}
use Rattle.gsd_stores.specs.Sheet.{rows_of}
use Rattle.gsd_stores.specs.Plan.{Plan, plan_of}
use Rattle.gsd_stores.specs.Append.{append_test, stores_for}
use Rattle.gsd_stores.specs.Runs.{Bytes, Call, Moment, start, during, later, from_start, frames, stores_made, after_stores, after_call}
use Rattle.gsd_stores.specs.Starts.{Aligned, StaysOrStarts, Starts, AllStart}
use Rattle.gsd_stores.proofs.Valid.{Valid, valid, ready}
use Rattle.gsd_stores.proofs.Shown.{shown-entries, opens-shown, opens-legal}
use Rattle.gsd_stores.proofs.Keep.{found_below, absent_none, none-absent}
use Rattle.gsd_stores.proofs.Moments.{last-shown}
use Rattle.gsd_stores.proofs.Runs.{refused-keeps, after-call}
use Rattle.gsd_stores.proofs.Demand3.{accepted, demand3}
use Rattle.gsd_stores.proofs.Places.{LocationWord, Placed, stores-placed}

-- Blocks

stays_on : {a b c : ℕ} → StaysOrStarts a b → StaysOrStarts b c → StaysOrStarts a c
stays_on h (inr e) = inr e
stays_on (inl d) (inl e) = inl (e ∙ d)
stays_on (inr d) (inl e) = inr (ap (λ n. n % alignment) e ∙ d)

-- a location word of the header after one store, and after some
module _ (h : ℕ) (w : LocationWord h) where
  even : h % 8 ≡ 0
  even = elim w [ inl e ↦ omega arith | inr e ↦ omega arith ]

  one_store : (img : List ℕ) (s : Store) → Placed (length img) s → StaysOrStarts (le 8 img h) (le 8 (stored img s.place s.bytes) h)
  one_store img s p = go (ℕ_discrete s.place h)
    where
      y : List ℕ
      y = stored img s.place s.bytes

      off : (s.place ≡ h → ⊥) → (k : ℕ) → k < 8 → Dec (h < s.place) → get_or y (h + k) 0 ≡ get_or img (h + k) 0
      off n k l (yes b) = stored-below img s.place s.bytes (h + k) (omega (arith, even, p.even))
      off n k l (no b) = stored-above img s.place s.bytes (h + k) (omega (arith, even, p.even, p.eight))

      go : Dec (s.place ≡ h) → StaysOrStarts (le 8 img h) (le 8 y h)
      go (yes e) =
          let same : le 8 y h ≡ le 8 s.bytes 0
          = le_same 8 y h s.bytes 0 (λ k l. ap (λ n. get_or y (n + k) 0) (sym e)
          ∙ stored-inside img s.place s.bytes k (omega (arith, p.inside, p.eight)) (omega (arith, p.eight))
          ∙ ap (λ j. get_or s.bytes j 0) (sym (zero-add k))) in
          inr (ap (λ n. n % alignment) same ∙ p.start (rw e w))
      go (no n) = inl (le_same 8 y h img h (λ k l. off n k l (dec_lt h s.place)))

  some-stores : (xs : List Store) (img : List ℕ) → Each (Placed (length img)) xs → StaysOrStarts (le 8 img h) (le 8 (after img xs) h)
  unfolding after
  some-stores [] img p = inl refl
  some-stores (s ∷ xs) img p =
      let y : List ℕ = stored img s.place s.bytes in
      stays_on (one_store img s p.0) (some-stores xs y (rw (stored-length img s.place s.bytes) p.1))

  -- over one call
  call-block : (x : List ℕ) (c : Call) (k : ℕ) → StaysOrStarts (le 8 x h) (le 8 (after_stores x c k) h)
  call-block x c k = go (ℕ_discrete (append_test x c.sheet) 0)
    where
      go : Dec (append_test x c.sheet ≡ 0) → StaysOrStarts (le 8 x h) (le 8 (after_stores x c k) h)
      go (yes e) = some-stores (take k (stores_for x c.sheet)) x (each_take _ k (stores_for x c.sheet) (stores-placed x c.sheet c.bytes e).each)
      go (no e) = inl (ap (λ y. le 8 y h) (refused-keeps x c.sheet k e))

-- over a run
moment-block : (h : ℕ) → LocationWord h → {x : List ℕ} {cs : List Call} {m : List ℕ} → Moment x cs m → StaysOrStarts (le 8 x h) (le 8 m h)
moment-block h w start = inl refl
moment-block h w (during {x = x} {c = c} k l) = call-block h w x c k
moment-block h w (later {x = x} {c = c} t) = stays_on (rw (after-call x c) (call-block h w x c (stores_made x c))) (moment-block h w t)

-- Chunks

-- a chunk of the frame that a whole append made is one of the plan's
whole-chunks : (x s : List ℕ) → Bytes s → append_test x s ≡ 0 → Aligned (after x (stores_for x s)) (frames x)
whole-chunks x s o h frame name e l f = go stands (dec_lt stands.place (length v.entries))
  where
    v : View
    v = view_of x

    p : Plan
    p = plan_of v (rows_of s)

    y : List ℕ
    y = after x (stores_for x s)

    ok : Valid x (rows_of s)
    ok = valid x s o h

    stands : Stands (v.entries ++ p.entries) frame (index_of name (names_of y)) e
    stands =
        let met = (look-found (entries_of y) (names_of y) frame name e).0 (sym (opened-lookup y (accepted x s o h).last.opens frame name) ∙ f) in
        find-sound frame (index_of name (names_of y)) (v.entries ++ p.entries) e (rw (shown-entries (last-shown x s h ok)) at met.2)

    below : (i : ℕ) → i < length v.entries → (get_or v.entries i none).frame < frames x
    below i m =
        let legal = opens-legal x ok.opens ok.recent in
        let is = opens-shown x ok.opens ok.recent in
        let ids = sound-ids v.entries v.layout (length v.names) (omega (arith, legal.few)) is.sound in
        rw (shown-entries is) (frames-below v.entries 0 0 legal.ordered ids i m)

    go : (t : Stands (v.entries ++ p.entries) frame (index_of name (names_of y)) e) → Dec (t.place < length v.entries) → e.location % alignment ≡ 0
    go t (yes b) =
        absurd (omega (arith, below t.place b, stands-frame t, ap (λ c. c.frame) (get_or-append v.entries p.entries none t.place b)))
    go t (no b) =
        let j : ℕ = t.place - length v.entries in
        let behind : t.place ≡ length v.entries + j = omega arith in
        let there : get_or (v.entries ++ p.entries) t.place none ≡ get_or p.entries j none
        = ap (λ i. get_or (v.entries ++ p.entries) i none) behind ∙ get_or-append-add v.entries p.entries j none in
        rw (sym t.there ∙ there) ((ready x (rows_of s) ok).new j (omega (arith, t.within, length-append v.entries p.entries))).start

-- over one call
call-chunks : (x : List ℕ) (c : Call) (k : ℕ) → k ≤ stores_made x c → verdict x ≡ 0 → Aligned (after_stores x c k) (frames x)
call-chunks x c k h o frame name e l f = go (ℕ_discrete (append_test x c.sheet) 0) (dec_lt k (length (stores_for x c.sheet)))
  where
    below : frame < frames (after_stores x c k)
    below = found_below (after_stores x c k) ((demand3 x (c ∷ []) o).always (during k h)) frame name e f

    go : Dec (append_test x c.sheet ≡ 0) → Dec (k < length (stores_for x c.sheet)) → e.location % alignment ≡ 0
    go (yes a) (yes b) = absurd (omega (arith, below, ((accepted x c.sheet c.bytes a).each k b).same))
    go (yes a) (no b) = whole-chunks x c.sheet c.bytes a frame name e l (rw (take_all k (stores_for x c.sheet) (omega arith)) at f)
    go (no a) b = absurd (omega (arith, below, ap frames (refused-keeps x c.sheet k a)))

-- from a moment of a run to its first: what is found in a frame that was there was found
earlier : {x : List ℕ} {cs : List Call} {m : List ℕ} → Moment x cs m → verdict x ≡ 0 → (frame : ℕ) (name : List ℕ) (e : Entry) → frame < frames x →
    lookup m frame name ≡ Ok e → lookup x frame name ≡ Ok e
earlier {x} {cs} {m} t o frame name e l f = go (lookup x frame name) refl
  where
    go : (r : Result Entry ℕ) → lookup x frame name ≡ r → lookup x frame name ≡ Ok e
    go (Ok d) g = g ∙ sym ((demand3 x cs o).kept (from_start t) frame name d g) ∙ f
    go (Err n) g =
        absurd (absent_none m frame name e ((demand3 x cs o).absent (from_start t) frame name l
        (none-absent x frame name o l (λ d q. let z : ◌≡◌ {A = ℕ} 0 1 = cc in omega (arith, z)))) f)

-- over a run
moment-chunks : {x : List ℕ} {cs : List Call} {m : List ℕ} → Moment x cs m → verdict x ≡ 0 → Aligned m (frames x)
moment-chunks (start {x = x}) o frame name e l f = absurd (omega (arith, found_below x o frame name e f))
moment-chunks (during {x = x} {c = c} k h) o frame name e l f = call-chunks x c k h o frame name e l f
moment-chunks (later {x = x} {c = c} {m = m} t) o frame name e l f = go (λ g. moment-chunks t opens frame name e g f) (dec_lt frame (frames (after_call x c)))
  where
    opens : verdict (after_call x c) ≡ 0
    opens = rw (after-call x c) ((demand3 x (c ∷ []) o).always (during (stores_made x c) (omega arith)))

    go : (frames (after_call x c) ≤ frame → e.location % alignment ≡ 0) → Dec (frame < frames (after_call x c)) → e.location % alignment ≡ 0
    go r (yes b) = call-chunks x c (stores_made x c) (omega arith) o frame name e l (rw (after-call x c) at (earlier t opens frame name e b f))
    go r (no b) = r (omega arith)

-- at every moment of a run
pub run-starts : {x : List ℕ} {cs : List Call} {m : List ℕ} → verdict x ≡ 0 → Moment x cs m → Starts x m
unfolding layout_of
run-starts o t = record {
  chunks = moment-chunks t o;
  index = moment-block 8 (inl refl) t;
  namelist = moment-block 24 (inr refl) t;
}

-- and where it starts from a created image, of all chunks and both blocks
stays_aligned : {a b : ℕ} → StaysOrStarts a b → a % alignment ≡ 0 → b % alignment ≡ 0
stays_aligned (inl e) h = ap (λ n. n % alignment) e ∙ h
stays_aligned (inr e) h = e

pub created-starts : (slice application schema : List ℕ) (schema_version slots segments : ℕ) → schema_version < 2 ^ 32 →
    create_number slice application schema slots segments ≡ 0 → {cs : List Call} {m : List ℕ} →
    Moment (created slice application schema schema_version slots segments) cs m → AllStart m
unfolding counts_of
created-starts slice application schema schema_version slots segments h n t =
    let x : List ℕ = created slice application schema schema_version slots segments in
    let opens : verdict x ≡ 0 = created-opens slice application schema schema_version slots segments n in
    let is = created-fresh slice application schema schema_version slots segments h n in
    let same : Ok (counts_of x) ≡ Ok (record { frames = 0; names = 0; entries = 0 }) = sym (opening-open x opens) ∙ is.opens in
    let counts : counts_of x ≡ record { frames = 0; names = 0; entries = 0 } = cc in
    let empty : frames x ≡ 0 = ap (λ c. c.frames) counts in
    let s : Starts x _ = run-starts opens t in
    record {
      chunks = λ frame name e l f. s.chunks frame name e (omega (arith, empty)) f;
      index = stays_aligned s.index (ap (λ l. l.index % alignment) is.layout);
      namelist = stays_aligned s.namelist (ap (λ l. l.namelist % alignment) is.layout ∙ omega arith);
    }
