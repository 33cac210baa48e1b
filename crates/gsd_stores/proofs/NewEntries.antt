-- Step 6: the new entries are stored from the last to the first, each with its location last. Until the very last store the list ends
-- where it ended, and then it has them all.
use Prim.Native.Nat.{ℕ, zero, suc, ◌+◌, ◌*◌, ◌^◌, ◌≤◌, ◌<◌}
use mathlib.Core.Path.{◌≡◌, refl, sym, ◌∙◌, ap}
use mathlib.Core.Logic.{inl, inr}
use mathlib.Core.List.{List, [], ◌∷◌, ◌++◌}
use native.Mathlib.Omega.{arith}
use lib.ListN.{length, get_or, length-append, get_or-append}
use lib.Seq.{get_or-append-add}
use Rattle.gsd_format.specs.declared.Entry.{Entry}
use Rattle.gsd_format.specs.Bytes.{le, le_bytes, Apart}
use Rattle.gsd_format.specs.Header.{layout_of}
use Rattle.gsd_format.specs.Entries.{entry_at}
use Rattle.gsd_format.specs.Lookup.{none}
use Rattle.gsd_format.proofs.Bytes.{Same, Text, le_bytes-length, le-text, zero-le}
use Rattle.gsd_format.proofs.Texts.{text_head, text-front, text-back}
use Rattle.gsd_format.proofs.Names.{names-kept}
use Rattle.gsd_format.proofs.Entries.{Fits, entry-same, each_append, entries-grown}
use Rattle.gsd_format.proofs.Verdict.{Sound, AllSound, layout-same, front_same}
use Rattle.gsd_stores.specs.View.{View, index_end, entries_end, names_end}
use Rattle.gsd_stores.specs.Steps.{entry_bytes, index_bytes, store_entries}
use Rattle.gsd_stores.proofs.Stores.{Over, between, over-off}
use Rattle.gsd_stores.proofs.Phases.{Phase, Begun, phase-slots}
use Rattle.gsd_stores.proofs.Texts.{Stand, size, stand-same}
use Rattle.gsd_stores.proofs.View.{with_entries, Is, is-long, Keeps, free-index, Chunks, Base, base_kept, Passes, IndexClear, Stage}

-- The bytes of entries

pub entry_length : (e : Entry) → length (entry_bytes e) ≡ 32
unfolding entry_bytes
entry_length e = simp (length-append, le_bytes-length)

-- a number reads back k bytes into a text
number_at : (n w : ℕ) (x : List ℕ) (at : ℕ) (before : List ℕ) (k : ℕ) → length before ≡ k → w < 256 ^ n →
    Text x at (before ++ le_bytes n w) → le n x (at + k) ≡ w
number_at n w x at before k e h t = le-text n w x (at + k) h (rw e at (text-back x at before (le_bytes n w) t))

-- an entry reads back where its bytes stand
pub entry-text : (x : List ℕ) (at : ℕ) (e : Entry) → Fits e → Text x at (entry_bytes e) → entry_at x at ≡ e
unfolding entry_bytes entry_at
entry-text x at e f t =
    let a : List ℕ = le_bytes 8 e.frame in
    let b : List ℕ = a ++ le_bytes 8 e.n in
    let c : List ℕ = b ++ le_bytes 8 e.location in
    let d : List ℕ = c ++ le_bytes 4 e.m in
    let g : List ℕ = d ++ le_bytes 2 e.id in
    let tg : Text x at g = text-front x at g (e.kind ∷ e.flags ∷ []) t in
    let td : Text x at d = text-front x at d (le_bytes 2 e.id) tg in
    let tc : Text x at c = text-front x at c (le_bytes 4 e.m) td in
    let tb : Text x at b = text-front x at b (le_bytes 8 e.location) tc in
    let ta : Text x at a = text-front x at a (le_bytes 8 e.n) tb in
    let size : length g ≡ 30 = simp (length-append, le_bytes-length) in
    let last : Text x (at + 30) (e.kind ∷ e.flags ∷ []) = rw size at (text-back x at g (e.kind ∷ e.flags ∷ []) t) in
    let frame : le 8 x at ≡ e.frame = le-text 8 e.frame x at f.frame ta in
    let n : le 8 x (at + 8) ≡ e.n = number_at 8 e.n x at a 8 (le_bytes-length 8 e.frame) f.n tb in
    let location : le 8 x (at + 16) ≡ e.location = number_at 8 e.location x at b 16 (simp (length-append, le_bytes-length)) f.location tc in
    let m : le 4 x (at + 24) ≡ e.m = number_at 4 e.m x at c 24 (simp (length-append, le_bytes-length)) f.m td in
    let id : le 2 x (at + 28) ≡ e.id = number_at 2 e.id x at d 28 (simp (length-append, le_bytes-length)) f.id tg in
    let kind : get_or x (at + 30) 0 ≡ e.kind = text_head x (at + 30) e.kind (e.flags ∷ []) last in
    let flags : get_or x (at + 31) 0 ≡ e.flags = ap (λ i. get_or x i 0) (omega arith) ∙ last 1 (omega arith) in
    λ i. record { frame = frame i; n = n i; location = location i; m = m i; id = id i; kind = kind i; flags = flags i }

pub index-length : (es : List Entry) → length (index_bytes es) ≡ 32 * length es
unfolding index_bytes
index-length [] = refl
index-length (e ∷ es) = omega (arith, length-append (entry_bytes e) (index_bytes es), entry_length e, index-length es)

-- the i-th entry stands behind those before it
pub index-text : (es : List Entry) (i : ℕ) → i < length es → Text (index_bytes es) (32 * i) (entry_bytes (get_or es i none))
unfolding index_bytes
index-text [] i l k m = absurd (omega arith)
index-text (e ∷ es) zero l k m =
    ap (λ j. get_or (index_bytes (e ∷ es)) j 0) (let q : 32 * 0 + k ≡ k = omega arith in q) ∙ get_or-append (entry_bytes e) (index_bytes es) 0 k m
index-text (e ∷ es) (suc i) l k m =
    ap (λ j. get_or (index_bytes (e ∷ es)) j 0) (let q : 32 * suc i + k ≡ length (entry_bytes e) + (32 * i + k) = omega (arith, entry_length e) in q)
    ∙ get_or-append-add (entry_bytes e) (index_bytes es) (32 * i + k) 0 ∙ index-text es i (omega arith) k m

-- the i-th entry reads back where the bytes of all stand
pub index-entry : (x : List ℕ) (at : ℕ) (es : List Entry) (i : ℕ) → i < length es → Fits (get_or es i none) → Text x at (index_bytes es) →
    entry_at x (at + 32 * i) ≡ get_or es i none
index-entry x at es i l f t = entry-text x (at + 32 * i) (get_or es i none) f (λ k m.
    ap (λ j. get_or x j 0) (let q : at + 32 * i + k ≡ at + (32 * i + k) = omega arith in q)
    ∙ t (32 * i + k) (omega (arith, index-length es, entry_length (get_or es i none))) ∙ index-text es i l k m)

-- The step

-- the image after an append: the new entries are listed behind the old ones, which have the bytes that they had
pub record Final (x₀ : List ℕ) (v : View) (new : List Entry) (d : ℕ) (t : List (List ℕ)) (x : List ℕ) : Type 0 where
  pub is : Is x (with_entries v (v.entries ++ new))
  pub raw : Same x v.layout.index x₀ (layout_of x₀).index (32 * length v.entries)
  pub chunks : Chunks x₀ x v.entries
  pub body : Stand x d t

-- slots that are begun are free places
begun-keeps : {v : View} {x y : List ℕ} (n : ℕ) → length v.entries + n ≤ v.layout.slots → Is x v → Begun x (entries_end v) n y → Keeps v x y
begun-keeps {v} n f h b = record {
  long = b.long;
  byte = λ p. elim (between (entries_end v) (entries_end v + 32 * n) p) [
    | inl a ↦ elim (between (entries_end v + 16) (entries_end v + 24) p) [
      | inl c ↦ inl (b.gap p c.0 c.1)
      | inr c ↦ inr (free-index h p a.0 (omega arith) c)
    ]
    | inr a ↦ inl (b.outside p a)
  ];
}

-- the bytes of the new entries stand in the slots behind the list
module _ (v : View) {x y : List ℕ} (new : List Entry) (few : length v.entries + length new ≤ v.layout.slots)
    (o : Over x (index_bytes new) (entries_end v) (entries_end v) (entries_end v + 32 * length new) y) where
  outside-index : (p : ℕ) → (v.layout.index ≤ p → p < index_end v.layout → ⊥) → get_or y p 0 ≡ get_or x p 0
  outside-index p f = over-off o p (λ a b. f (omega arith) (omega arith))

  new-text : Text y (entries_end v) (index_bytes new)
  new-text k l = o.inside (entries_end v + k) (omega arith) (omega (arith, index-length new)) ∙ ap (λ j. get_or (index_bytes new) j 0) (omega arith)

  -- and so they are listed
  entries-listed : Is x v → IndexClear v x → AllSound v.layout (length v.names) new → ((i : ℕ) → i < length new → Fits (get_or new i none)) →
      Is y (with_entries v (v.entries ++ new))
  entries-listed h clear sound exact = record {
    layout = layout-same y x o.long (λ k l. o.below (8 + k) (omega arith)) ∙ h.layout;
    recent = h.recent;
    front = front_same x y (sym o.long) (λ p l u. sym (o.below p (omega arith))) h.front;
    blocks = h.blocks;
    entries = entries-grown y v.layout.index v.layout.slots v.entries new
        (λ i l. entry-same y _ x _ (λ k m. o.below (v.layout.index + 32 * i + k) (omega arith)) ∙ h.entries.each i l)
        h.entries.real few
        (λ i l. index-entry y (entries_end v) new i l (exact i l) new-text)
        (λ i l z. omega (arith, (sound i l).low))
        (λ l. zero-le 8 y end (λ k m. o.above (end + k) (omega arith) ∙ clear (end + k) (omega arith) (omega arith)));
    names = names-kept x _ _ v.names y _ _ h.names
        (λ k l. outside-index (v.layout.namelist + k) (λ a b. h.blocks.apart _ a b (omega arith) (omega arith)))
        h.names.few
        (λ l. outside-index (names_end v) (λ a b. h.blocks.apart _ a b (omega arith) (omega arith)) ∙ h.names.closed l);
    sound = each_append (λ i. Sound v.layout (length v.names)) v.entries new h.sound sound;
  }
    where
      -- the location behind them
      end : ℕ
      end = entries_end v + 32 * length new + 16

pub store-entries : {x₀ : List ℕ} {W : List ℕ → List ℕ → Type 0} {v : View} (new : List Entry) (d : ℕ) (t : List (List ℕ)) →
    Passes x₀ W v v → ((a b : List ℕ) → Base x₀ v a → Final x₀ v new d t b → W a b) →
    length v.entries + length new ≤ v.layout.slots → AllSound v.layout (length v.names) new → ((i : ℕ) → i < length new → Fits (get_or new i none)) →
    Apart d (size d t) v.layout.index (32 * v.layout.slots) → Phase (Stage x₀ v d t) (Final x₀ v new d t) W (store_entries (entries_end v) new)
unfolding store_entries
store-entries {x₀} {v = v} new d t same last few sound exact off =
    phase-slots {M = Base x₀ v} same last (index_bytes new) (entries_end v) (entries_end v) (length new) (omega arith)
    (λ x s. omega (arith, s.base.is.blocks.index_high, is-long s.base.is))
    (λ x s y b. base_kept (begun-keeps (length new) few s.base.is b) s.base)
    (λ x s y o. record {
      is = entries-listed v new few o s.base.is s.index sound exact;
      raw = λ k l. o.below (v.layout.index + k) (omega arith) ∙ s.base.raw k l;
      chunks = λ i l k m.
          outside-index v new few o ((get_or v.entries i none).location + k) (λ a b. (s.base.is.sound i l).off_index _ (omega arith) (omega arith) a b)
          ∙ s.base.chunks i l k m;
      body = stand-same t d x y (λ p l m. outside-index v new few o p (λ a b. off _ l (omega arith) a b)) s.body;
    })
