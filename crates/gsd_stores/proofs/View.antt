-- What an image shows, and what it goes on showing: `Is x v` says that x shows the view v, `Free v p` that nothing of v depends on
-- the byte at p. Most stores of an append change bytes at free places alone.
use Prim.Native.Nat.{ℕ, ◌+◌, ◌*◌, ◌-◌, ◌≤◌, ◌<◌}
use mathlib.Core.Path.{◌≡◌, refl, sym, ◌∙◌, ap}
use mathlib.Core.Bool.{false}
use mathlib.Core.Logic.{◌⊎◌, inl, inr}
use mathlib.Core.List.{List}
use native.Mathlib.Decide.{dec_lt}
use native.Mathlib.Omega.{arith}
use lib.ListN.{length, get_or}
use Rattle.gsd_format.specs.declared.Entry.{Entry}
use Rattle.gsd_format.specs.declared.Layout.{Layout}
use Rattle.gsd_format.specs.Bytes.{le, Apart}
use Rattle.gsd_format.specs.Types.{chunk_size}
use Rattle.gsd_format.specs.Header.{header_size, v10, layout_of}
use Rattle.gsd_format.specs.Names.{flat, names_of, block_names}
use Rattle.gsd_format.specs.Entries.{entries_at, entries_of}
use Rattle.gsd_format.specs.Lookup.{none}
use Rattle.gsd_format.proofs.Bytes.{Same, le_same}
use Rattle.gsd_format.proofs.Names.{IsNames, names-of-block, names-recent, names-is, names-kept}
use Rattle.gsd_format.proofs.Entries.{IsEntries, is-entries, entries-kept}
use Rattle.gsd_format.specs.Opening.{Blocks}
use Rattle.gsd_format.proofs.Verdict.{Front, AllSound, layout-same, front_same}
use Rattle.gsd_stores.specs.Stores.{words, up}
use Rattle.gsd_stores.specs.View.{View, view_of, index_end, namelist_end, entries_end, names_end}
use Rattle.gsd_stores.proofs.Stores.{Over, between, over-off}
use Rattle.gsd_stores.proofs.Texts.{Stand, size, end_more, stand-same}
use Rattle.gsd_stores.proofs.Phases.{Phase, phase-up}

-- the index block or the name block elsewhere
abbrev pub index_laid : Layout → ℕ → ℕ → Layout
index_laid l b n = record { len = l.len; version = l.version; index = b; slots = n; namelist = l.namelist; segments = l.segments }

abbrev pub names_laid : Layout → ℕ → ℕ → Layout
names_laid l b n = record { len = l.len; version = l.version; index = l.index; slots = l.slots; namelist = b; segments = n }

-- v in another layout, with a block elsewhere, with other names, with more entries
abbrev pub with_layout : View → Layout → View
with_layout v l = record { layout = l; entries = v.entries; names = v.names }

abbrev pub with_index_block : View → ℕ → ℕ → View
with_index_block v b n = record { layout = index_laid v.layout b n; entries = v.entries; names = v.names }

abbrev pub with_name_block : View → ℕ → ℕ → View
with_name_block v b n = record { layout = names_laid v.layout b n; entries = v.entries; names = v.names }

abbrev pub with_names : View → List (List ℕ) → View
with_names v ns = record { layout = v.layout; entries = v.entries; names = ns }

abbrev pub with_entries : View → List Entry → View
with_entries v es = record { layout = v.layout; entries = es; names = v.names }

-- x, of 2.x, shows v: the header's numbers, both blocks, and both lists as they stand in them
pub record Is (x : List ℕ) (v : View) : Type 0 where
  pub layout : layout_of x ≡ v.layout
  pub recent : v10 v.layout.version ≡ false
  pub front : Front x
  pub blocks : Blocks v.layout
  pub entries : IsEntries x v.layout.index v.layout.slots v.entries
  pub names : IsNames x v.layout.namelist (64 * v.layout.segments) v.names
  pub sound : AllSound v.layout (length v.names) v.entries

pub is-long : {x : List ℕ} {v : View} → Is x v → length x ≡ v.layout.len
unfolding layout_of
is-long h = ap (λ l. l.len) h.layout

-- the bytes of the name list
pub names-byte : {x : List ℕ} {v : View} → Is x v → (p : ℕ) → v.layout.namelist ≤ p → p < names_end v →
    get_or x p 0 ≡ get_or (flat v.names) (p - v.layout.namelist) 0
names-byte {x} {v} h p a b = ap (λ i. get_or x i 0) (omega arith) ∙ h.names.each (p - v.layout.namelist) (omega arith)

pub view-is : (x : List ℕ) (v : View) → Is x v → view_of x ≡ v
unfolding view_of entries_of
view-is x v h =
    let entries : entries_of x ≡ v.entries
    = ap (λ l. entries_at x l.index l.slots) h.layout ∙ is-entries v.layout.slots x v.layout.index v.entries h.entries in
    let names : names_of x ≡ v.names
    = names-of-block x ∙ ap (block_names x) h.layout ∙ names-recent x v.layout h.recent
    ∙ names-is x v.layout.namelist (64 * v.layout.segments) v.names h.names in
    λ i. record { layout = h.layout i; entries = entries i; names = names i }

-- Free places

-- p lies behind the header, in no listed entry, name or chunk, and not where one of the two lists ends
pub record Free (v : View) (p : ℕ) : Type 0 where
  pub low : header_size ≤ p
  pub entry : v.layout.index ≤ p → p < entries_end v → ⊥
  pub stop : length v.entries < v.layout.slots → entries_end v + 16 ≤ p → p < entries_end v + 24 → ⊥
  pub name : v.layout.namelist ≤ p → p < names_end v → ⊥
  pub last : length (flat v.names) < 64 * v.layout.segments → p ≡ names_end v → ⊥
  pub chunk : (i : ℕ) → i < length v.entries → (get_or v.entries i none).location ≤ p →
      p < (get_or v.entries i none).location + chunk_size (get_or v.entries i none) → ⊥

-- y is x but for bytes at free places
pub record Keeps (v : View) (x y : List ℕ) : Type 0 where
  pub long : length y ≡ length x
  pub byte : (p : ℕ) → (get_or y p 0 ≡ get_or x p 0) ⊎ Free v p

module _ {v : View} {x y : List ℕ} (h : Keeps v x y) where
  pub kept_at : (p : ℕ) → (Free v p → ⊥) → get_or y p 0 ≡ get_or x p 0
  kept_at p f = elim (h.byte p) [ inl e ↦ e | inr g ↦ absurd (f g) ]

  pub kept-entries : Same y v.layout.index x v.layout.index (32 * length v.entries)
  kept-entries k l = kept_at (v.layout.index + k) (λ f. f.entry (omega arith) (omega arith))

  -- the location that ends the entry list
  pub kept-stop : length v.entries < v.layout.slots → le 8 y (entries_end v + 16) ≡ le 8 x (entries_end v + 16)
  kept-stop l = le_same 8 y (entries_end v + 16) x (entries_end v + 16) (λ k m. kept_at (entries_end v + 16 + k) (λ f. f.stop l (omega arith) (omega arith)))

  pub kept-names : Same y v.layout.namelist x v.layout.namelist (length (flat v.names))
  kept-names k l = kept_at (v.layout.namelist + k) (λ f. f.name (omega arith) (omega arith))

  pub kept-chunk : (i : ℕ) → i < length v.entries →
      Same y (get_or v.entries i none).location x (get_or v.entries i none).location (chunk_size (get_or v.entries i none))
  kept-chunk i l k m = kept_at ((get_or v.entries i none).location + k) (λ f. f.chunk i l (omega arith) (omega arith))

  -- so it shows the same
  pub is-kept : Is x v → Is y v
  is-kept s = record {
    layout = layout-same y x h.long (λ k l. kept_at (8 + k) (λ f. omega (arith, f.low))) ∙ s.layout;
    recent = s.recent;
    front = front_same x y (sym h.long) (λ p l o. sym (kept_at p (λ f. omega (arith, f.low)))) s.front;
    blocks = s.blocks;
    entries = entries-kept x _ _ v.entries y _ _ s.entries kept-entries s.entries.few
        (λ l. kept-stop l ∙ s.entries.closed l);
    names = names-kept x _ _ v.names y _ _ s.names kept-names s.names.few
        (λ l. kept_at (names_end v) (λ f. f.last l refl) ∙ s.names.closed l);
    sound = s.sound;
  }

module _ {v : View} {x : List ℕ} (h : Is x v) where
  -- behind the entry list, but for the location that ends it
  pub free-index : (p : ℕ) → entries_end v ≤ p → p < index_end v.layout → (entries_end v + 16 ≤ p → p < entries_end v + 24 → ⊥) → Free v p
  free-index p a b c = record {
    low = omega arith;
    entry = λ d e. omega arith;
    stop = λ l. c;
    name = λ d e. h.blocks.apart p (omega arith) b d (omega arith);
    last = λ l e. h.blocks.apart p (omega arith) b (omega arith) (omega arith);
    chunk = λ i l d e. (h.sound i l).off_index p d e (omega arith) b;
  }

  -- behind the name list and the zero that ends it
  pub free_names : (p : ℕ) → names_end v < p → p < namelist_end v.layout → Free v p
  free_names p a b = record {
    low = omega arith;
    entry = λ d e. h.blocks.apart p d (omega arith) (omega arith) b;
    stop = λ l d e. h.blocks.apart p (omega arith) (omega arith) (omega arith) b;
    name = λ d e. omega arith;
    last = λ l e. omega arith;
    chunk = λ i l d e. (h.sound i l).off_names p d e (omega arith) b;
  }

-- all that v shows ends at pos, and so do the m bytes of data from d, which lie outside both blocks
pub record Room (v : View) (d m pos : ℕ) : Type 0 where
  pub low : header_size ≤ d
  pub index : index_end v.layout ≤ pos
  pub names : namelist_end v.layout ≤ pos
  pub chunks : (i : ℕ) → i < length v.entries → (get_or v.entries i none).location + chunk_size (get_or v.entries i none) ≤ pos
  pub body : d + m ≤ pos
  pub off_index : Apart d m v.layout.index (32 * v.layout.slots)
  pub off_names : Apart d m v.layout.namelist (64 * v.layout.segments)

-- room for the same entries in another layout, with any names
pub room-laid : {v : View} {d m pos : ℕ} → Room v d m pos → (l : Layout) (ns : List (List ℕ)) (end : ℕ) → pos ≤ end → index_end l ≤ end → namelist_end l ≤ end →
    Apart d m l.index (32 * l.slots) → Apart d m l.namelist (64 * l.segments) → Room (record { layout = l; entries = v.entries; names = ns }) d m end
room-laid r l ns end a b c f g =
    record { low = r.low; index = b; names = c; chunks = λ i u. omega (arith, r.chunks i u); body = omega arith; off_index = f; off_names = g }

pub room-named : {v : View} {d m pos : ℕ} (ns : List (List ℕ)) → Room v d m pos → Room (with_names v ns) d m pos
room-named {v} {pos} ns r = room-laid r v.layout ns pos (omega arith) r.index r.names r.off_index r.off_names

-- and further behind
pub room-more : {v : View} {d m pos : ℕ} (end : ℕ) → pos ≤ end → Room v d m pos → Room v d m end
room-more {v} end h r = room-laid r v.layout v.names end h (omega arith) (omega arith) r.off_index r.off_names

-- behind all that v shows
pub free-behind : {v : View} {x : List ℕ} {d m pos : ℕ} → Is x v → Room v d m pos → (p : ℕ) → pos ≤ p → Free v p
free-behind h r p a = record {
  low = omega arith;
  entry = λ d e. omega arith;
  stop = λ l d e. omega arith;
  name = λ d e. omega arith;
  last = λ l e. omega arith;
  chunk = λ i l d e. omega (arith, r.chunks i l);
}

pub keeps-behind : {v : View} {x y : List ℕ} {d m pos : ℕ} → Is x v → Room v d m pos → length y ≡ length x →
    ((p : ℕ) → p < pos → get_or y p 0 ≡ get_or x p 0) → Keeps v x y
keeps-behind {pos} h r l f = record { long = l; byte = λ p. elim (dec_lt p pos) [ yes a ↦ inl (f p a) | no a ↦ inr (free-behind h r p (omega arith)) ] }

-- an extent that writes what stands there already, or at free places
pub keeps-over : {v : View} {x t : List ℕ} {base lo hi : ℕ} {y : List ℕ} → Over x t base lo hi y →
    ((p : ℕ) → lo ≤ p → p < hi → (get_or t (p - base) 0 ≡ get_or x p 0) ⊎ Free v p) → Keeps v x y
keeps-over {lo} {hi} o f = record {
  long = o.long;
  byte = λ p. elim (between lo hi p) [
    | inl a ↦ elim (f p a.0 a.1) [ inl e ↦ inl (o.inside p a.0 a.1 ∙ e) | inr g ↦ inr g ]
    | inr a ↦ inl (over-off o p a)
  ];
}

-- The stages of an append that began at x₀

-- the chunks of the entries have the bytes that they had in x
abbrev pub Chunks : List ℕ → List ℕ → List Entry → Type 0
Chunks x y es = (i : ℕ) → i < length es → Same y (get_or es i none).location x (get_or es i none).location (chunk_size (get_or es i none))

-- x shows v, and each listed entry and its chunk have the bytes that they had at the beginning
pub record Base (x₀ : List ℕ) (v : View) (x : List ℕ) : Type 0 where
  pub is : Is x v
  pub raw : Same x v.layout.index x₀ (layout_of x₀).index (32 * length v.entries)
  pub chunks : Chunks x₀ x v.entries

pub base_kept : {x₀ : List ℕ} {v : View} {x y : List ℕ} → Keeps v x y → Base x₀ v x → Base x₀ v y
base_kept h b = record {
  is = is-kept h b.is;
  raw = λ k l. kept-entries h k l ∙ b.raw k l;
  chunks = λ i l k m. kept-chunk h i l k m ∙ b.chunks i l k m;
}

-- the beginning
pub base-start : {v : View} {x : List ℕ} → Is x v → Base x v x
base-start {v} {x} h = record { is = h; raw = λ k l. ap (λ c. get_or x (c.index + k) 0) (sym h.layout); chunks = λ i l k m. refl }

-- W from whatever shows u to whatever shows w, both with the bytes of the beginning
abbrev pub Passes : List ℕ → (List ℕ → List ℕ → Type 0) → View → View → Type 0
Passes x₀ W u w = (a b : List ℕ) → Base x₀ u a → Base x₀ w b → W a b

-- W from and to whatever shows the entries and names of v, wherever its blocks lie
abbrev pub Quiet : List ℕ → (List ℕ → List ℕ → Type 0) → View → Type 0
Quiet x₀ W v = (l m : Layout) → l.len ≡ v.layout.len → m.len ≡ v.layout.len → Passes x₀ W (with_layout v l) (with_layout v m)

-- zeros behind the entry list, to the index block's end; behind the name list, to the name block's end
abbrev pub IndexClear : View → List ℕ → Type 0
IndexClear v x = (p : ℕ) → entries_end v ≤ p → p < index_end v.layout → get_or x p 0 ≡ 0

abbrev pub NamesClear : View → List ℕ → Type 0
NamesClear v x = (p : ℕ) → names_end v ≤ p → p < namelist_end v.layout → get_or x p 0 ≡ 0

-- both blocks are cleared and the data t stand from d on
pub record Stage (x₀ : List ℕ) (v : View) (d : ℕ) (t : List (List ℕ)) (x : List ℕ) : Type 0 where
  pub base : Base x₀ v x
  pub index : IndexClear v x
  pub names : NamesClear v x
  pub body : Stand x d t

-- what is written behind all of it changes nothing of it
pub stage-behind : {x₀ : List ℕ} {v : View} {d : ℕ} {t : List (List ℕ)} {pos : ℕ} {x y : List ℕ} → Room v d (size d t) pos → length y ≡ length x →
    ((p : ℕ) → p < pos → get_or y p 0 ≡ get_or x p 0) → Stage x₀ v d t x → Stage x₀ v d t y
stage-behind {x₀} {v} {d} {t} {pos} {x} {y} r l f s = record {
  base = base_kept (keeps-behind s.base.is r l f) s.base;
  index = λ p a b. f p (omega arith) ∙ s.index p a b;
  names = λ p a b. f p (omega arith) ∙ s.names p a b;
  body = stand-same t d x y (λ p l m. f p (omega (arith, end_more t d))) s.body;
}

-- an extent upwards that changes nothing visible: every moment of it shows v, the end too
module _ {x₀ : List ℕ} {W : List ℕ → List ℕ → Type 0} {v : View} (same : Passes x₀ W v v) where
  pub phase-quiet : {P Q : List ℕ → Type 0} (t : List ℕ) (base lo n : ℕ) → base ≤ lo → ((x : List ℕ) → P x → Base x₀ v x) → ((x : List ℕ) → Q x → Base x₀ v x) →
      ((x : List ℕ) → P x → lo + 8 * n ≤ v.layout.len) →
      ((x : List ℕ) → P x → (p : ℕ) → lo ≤ p → p < lo + 8 * n → (get_or t (p - base) 0 ≡ get_or x p 0) ⊎ Free v p) →
      ((x : List ℕ) → P x → (y : List ℕ) → Over x t base lo (lo + 8 * n) y → Base x₀ v y → Q y) →
      Phase P Q W (words t base (up lo n))
  phase-quiet t base lo n b to from f free q =
      phase-up {M = Base x₀ v} same (λ c d h k. same c d h (from d k)) t base lo n b (λ x p. omega (arith, f x p, is-long (to x p).is))
      (λ x p m l y o. base_kept (keeps-over o (λ i c d. free x p i c (omega arith))) (to x p))
      (λ x p y o. q x p y o (base_kept (keeps-over o (free x p)) (to x p)))
