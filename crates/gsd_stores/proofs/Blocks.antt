-- The two blocks, each a text with zeros behind it, and the law that a stage goes over into another where a block moves or names come.
use Prim.Native.Nat.{ℕ, ◌+◌, ◌*◌, ◌-◌, ◌≤◌, ◌<◌}
use mathlib.Core.Path.{◌≡◌, sym, ◌∙◌, ap}
use mathlib.Core.List.{List}
use native.Mathlib.Decide.{dec_lt}
use native.Mathlib.Omega.{arith}
use lib.ListN.{length, get_or, get_or-eq_default}
use Rattle.gsd_format.specs.declared.Layout.{Layout}
use Rattle.gsd_format.specs.Bytes.{part, Apart}
use Rattle.gsd_format.specs.Types.{chunk_size}
use Rattle.gsd_format.specs.Header.{header_size, layout_of}
use Rattle.gsd_format.specs.Names.{flat}
use Rattle.gsd_format.specs.Lookup.{none}
use Rattle.gsd_format.proofs.Lists.{Each}
use Rattle.gsd_format.proofs.Bytes.{Same, Text, le_same, zero-le, part_length, part_at}
use Rattle.gsd_format.proofs.Names.{Named}
use Rattle.gsd_format.proofs.Entries.{entries-kept}
use Rattle.gsd_format.proofs.Verdict.{Sound, front_same}
use Rattle.gsd_stores.specs.View.{View, namelist_end}
use Rattle.gsd_stores.proofs.Texts.{size, stand-same}
use Rattle.gsd_stores.proofs.View.{Is, is-long, Stage}

-- A text and zeros

-- the n bytes from at are the text t, then zeros
abbrev pub Filled : List ℕ → ℕ → ℕ → List ℕ → Type 0
Filled x at n t = (p : ℕ) → at ≤ p → p < at + n → get_or x p 0 ≡ get_or t (p - at) 0

module _ (x : List ℕ) (at n : ℕ) (t : List ℕ) where
  pub text-filled : Text x at t → ((p : ℕ) → at + length t ≤ p → p < at + n → get_or x p 0 ≡ 0) → Filled x at n t
  text-filled f z p a b = go (dec_lt p (at + length t))
    where
      go : Dec (p < at + length t) → get_or x p 0 ≡ get_or t (p - at) 0
      go (yes c) = ap (λ i. get_or x i 0) (let e : p ≡ at + (p - at) = omega arith in e) ∙ f (p - at) (omega arith)
      go (no c) = z p (omega arith) b ∙ sym (get_or-eq_default t 0 (omega arith))

  pub filled-text : length t ≤ n → Filled x at n t → Text x at t
  filled-text l f k m = f (at + k) (omega arith) (omega arith) ∙ ap (λ i. get_or t i 0) (let e : at + k - at ≡ k = omega arith in e)

  pub filled-clear : Filled x at n t → (p : ℕ) → at + length t ≤ p → p < at + n → get_or x p 0 ≡ 0
  filled-clear f p a b = f p (omega arith) b ∙ get_or-eq_default t 0 (omega arith)

-- The blocks

pub data Block : Type 0 where
  the_index : Block
  the_names : Block

-- the bytes of a slot, of a segment
abbrev pub unit_of : Block → ℕ
unit_of the_index = 32
unit_of the_names = 64

abbrev pub start_in : Block → Layout → ℕ
start_in the_index l = l.index
start_in the_names l = l.namelist

abbrev pub count_in : Block → Layout → ℕ
count_in the_index l = l.slots
count_in the_names l = l.segments

-- the bytes of the block's list
abbrev pub list_in : Block → List ℕ → View → List ℕ
list_in the_index x v = part x v.layout.index (32 * length v.entries)
list_in the_names x v = flat v.names

-- the n bytes from b may be a block of an image that shows v, and in y they are one with this list
pub record Housed (v : View) (y : List ℕ) (b n : ℕ) (list : List ℕ) : Type 0 where
  pub low : header_size ≤ b
  pub high : b + n ≤ v.layout.len
  pub off : (i : ℕ) → i < length v.entries → Apart (get_or v.entries i none).location (chunk_size (get_or v.entries i none)) b n
  pub few : length list ≤ n
  pub filled : Filled y b n list

pub housed-kept : {v : View} {x y : List ℕ} {b n : ℕ} {list : List ℕ} → ((p : ℕ) → b ≤ p → p < b + n → get_or y p 0 ≡ get_or x p 0) →
    Housed v x b n list → Housed v y b n list
housed-kept f h = record { low = h.low; high = h.high; off = h.off; few = h.few; filled = λ p l m. f p l m ∙ h.filled p l m }

-- the listed entries' bytes
pub entries-length : {v : View} {x : List ℕ} → Is x v → length (list_in the_index x v) ≡ 32 * length v.entries
entries-length {v} {x} h = part_length x v.layout.index (32 * length v.entries) (omega (arith, is-long h))

-- both blocks of a stage are of that kind
pub stage-housed : {x₀ : List ℕ} {v : View} {d : ℕ} {t : List (List ℕ)} {x : List ℕ} (k : Block) → Stage x₀ v d t x →
    Housed v x (start_in k v.layout) (unit_of k * count_in k v.layout) (list_in k x v)
stage-housed {x₀} {v} {d} {t} {x} the_index s = record {
  low = omega arith;
  high = omega arith;
  off = λ i l. (s.base.is.sound i l).off_index;
  few = omega (arith, entries-length s.base.is);
  filled = text-filled x v.layout.index (32 * v.layout.slots) (list_in the_index x v)
      (λ i l. sym (part_at x v.layout.index (32 * length v.entries) i (omega (arith, entries-length s.base.is))))
      (λ p l m. s.index p (omega (arith, entries-length s.base.is)) m);
}
stage-housed {x₀} {v} {d} {t} {x} the_names s = record {
  low = omega arith;
  high = omega arith;
  off = λ i l. (s.base.is.sound i l).off_names;
  few = omega arith;
  filled = text-filled x v.layout.namelist (64 * v.layout.segments) (flat v.names) s.base.is.names.each s.names;
}

-- x shows v; y shows the same entries, and the names ns, in blocks that lie as l says
pub record Relaid (v : View) (x y : List ℕ) (l : Layout) (ns : List (List ℕ)) : Type 0 where
  pub long : length y ≡ length x
  pub outside : (p : ℕ) → (8 ≤ p → p < 40 → ⊥) → (v.layout.namelist ≤ p → p < namelist_end v.layout → ⊥) → get_or y p 0 ≡ get_or x p 0
  pub layout : layout_of y ≡ l
  pub apart : Apart l.index (32 * l.slots) l.namelist (64 * l.segments)
  pub index : Housed v y l.index (32 * l.slots) (list_in the_index x v)
  pub names : Housed v y l.namelist (64 * l.segments) (flat ns)
  pub good : Each Named ns
  pub more : length v.names ≤ length ns

pub restage : {x₀ : List ℕ} {v : View} {d : ℕ} {t : List (List ℕ)} {x y : List ℕ} {l : Layout} {ns : List (List ℕ)} → header_size ≤ d →
    Apart d (size d t) v.layout.namelist (64 * v.layout.segments) → Relaid v x y l ns → Stage x₀ v d t x →
    Stage x₀ (record { layout = l; entries = v.entries; names = ns }) d t y
unfolding layout_of
restage {x₀} {v} {d} {t} {x} {y} {l} {ns} low off r s = record {
  base = record {
    is = record {
      layout = r.layout;
      recent = rw version s.base.is.recent;
      front = front_same x y (sym r.long) (λ p a b. sym (r.outside p b (λ c e. omega arith))) s.base.is.front;
      blocks = record {
        index_low = r.index.low;
        index_high = omega (arith, long);
        namelist_low = r.names.low;
        namelist_high = omega (arith, long);
        apart = r.apart;
      };
      entries = entries-kept x _ _ v.entries y _ _ s.base.is.entries entries (omega (arith, size))
          (λ a. zero-le 8 y (l.index + 32 * length v.entries + 16) (λ k b. clear _ (omega arith) (omega arith)));
      names = record { few = r.names.few; each = names; good = r.good; closed = λ a. names_clear _ (omega arith) (omega arith) };
      sound = λ i a. let q : Sound v.layout (length v.names) (get_or v.entries i none) = s.base.is.sound i a in record {
        low = q.low;
        high = q.high;
        typed = rw version q.typed;
        named = omega arith;
        within = omega (arith, long);
        off_index = r.index.off i a;
        off_names = r.names.off i a;
        early = q.early;
      };
    };
    raw = λ k a. entries k a ∙ s.base.raw k a;
    chunks = λ i a k b.
        r.outside _ (λ c e. omega (arith, (s.base.is.sound i a).low)) (λ c e. (s.base.is.sound i a).off_names _ (omega arith) (omega arith) c e)
        ∙ s.base.chunks i a k b;
  };
  index = clear;
  names = names_clear;
  body = stand-same t d x y (λ p a b. r.outside p (λ c e. omega arith) (off p a (omega arith))) s.body;
}
  where
    long : l.len ≡ v.layout.len
    long = sym (ap (λ c. c.len) r.layout) ∙ r.long ∙ is-long s.base.is

    version : l.version ≡ v.layout.version
    version =
        sym (ap (λ c. c.version) r.layout)
        ∙ le_same 4 y 44 x 44 (λ k a. r.outside (44 + k) (λ c e. omega arith) (λ c e. omega (arith, s.base.is.blocks.namelist_low)))
        ∙ ap (λ c. c.version) s.base.is.layout

    size : length (list_in the_index x v) ≡ 32 * length v.entries
    size = entries-length s.base.is

    entries : Same y l.index x v.layout.index (32 * length v.entries)
    entries k a =
        filled-text y l.index (32 * l.slots) (list_in the_index x v) r.index.few r.index.filled k (omega (arith, size))
        ∙ part_at x v.layout.index (32 * length v.entries) k a

    clear : (p : ℕ) → l.index + 32 * length v.entries ≤ p → p < l.index + 32 * l.slots → get_or y p 0 ≡ 0
    clear p a b = filled-clear y l.index (32 * l.slots) (list_in the_index x v) r.index.filled p (omega (arith, size)) b

    names : Text y l.namelist (flat ns)
    names = filled-text y l.namelist (64 * l.segments) (flat ns) r.names.few r.names.filled

    names_clear : (p : ℕ) → l.namelist + length (flat ns) ≤ p → p < l.namelist + 64 * l.segments → get_or y p 0 ≡ 0
    names_clear p a b = filled-clear y l.namelist (64 * l.segments) (flat ns) r.names.filled p a b
