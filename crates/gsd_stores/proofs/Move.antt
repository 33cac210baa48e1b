-- Steps 3 and 5: a block moves. Its new place is filled while the header still shows the old one, then the header shows the new place
-- with the old count, then with the new one. Both blocks move by one law.
use Prim.Native.Nat.{ℕ, ◌+◌, ◌*◌, ◌^◌, ◌≤◌, ◌<◌}
use mathlib.Core.Path.{◌≡◌, refl, ◌∙◌, ap}
use mathlib.Core.Bool.{Bool, true, false, cond}
use mathlib.Core.Logic.{inr}
use mathlib.Core.List.{List}
use native.Mathlib.Omega.{arith}
use lib.ListN.{length, get_or}
use Rattle.gsd_format.specs.declared.Layout.{Layout}
use Rattle.gsd_format.specs.Bytes.{le, le_bytes, part, Apart}
use Rattle.gsd_format.specs.Header.{layout_of}
use Rattle.gsd_format.specs.Names.{flat}
use Rattle.gsd_format.proofs.Bytes.{le_same, le-text, le_bytes-length, part_same}
use Rattle.gsd_stores.specs.Stores.{words, up}
use Rattle.gsd_stores.specs.View.{View}
use Rattle.gsd_stores.specs.Steps.{moved}
use Rattle.gsd_stores.proofs.Stores.{Over, over-off}
use Rattle.gsd_stores.proofs.Phases.{Phase, phase-nil, phase-one, ◌⨾◌}
use Rattle.gsd_stores.proofs.Texts.{size}
use Rattle.gsd_stores.proofs.View.{index_laid, names_laid, with_layout, with_index_block, with_name_block, is-long, free-behind, Room, room-laid}
use Rattle.gsd_stores.proofs.View.{Base, Passes, Quiet, Stage, stage-behind, phase-quiet}
use Rattle.gsd_stores.proofs.Blocks.{Filled, filled-text, Block, the_index, the_names, unit_of, start_in, count_in, list_in}
use Rattle.gsd_stores.proofs.Blocks.{Housed, housed-kept, stage-housed, Relaid, restage}

-- the header's place for where the block begins; its count stands in the next word
abbrev pub header_place : Block → ℕ
header_place the_index = 8
header_place the_names = 24

abbrev pub laid : Block → Layout → ℕ → ℕ → Layout
laid the_index = index_laid
laid the_names = names_laid

-- v with the block elsewhere
abbrev pub with_block : Block → View → ℕ → ℕ → View
with_block k v b n = with_layout v (laid k v.layout b n)

-- which changes no length
laid-long : (k : Block) (l : Layout) (b n : ℕ) → (laid k l b n).len ≡ l.len
laid-long the_index l b n = refl
laid-long the_names l b n = refl

-- The header

-- the words lie in the header's bytes 8 to 39
pub in-layout : (k : Block) → (8 ≤ header_place k) × (header_place k + 16 ≤ 40)
in-layout the_index = (omega arith, omega arith)
in-layout the_names = (omega arith, omega arith)

-- y is x but for the block's two words in the header, which say b and n
pub record Headed (k : Block) (x y : List ℕ) (b n : ℕ) : Type 0 where
  pub long : length y ≡ length x
  pub outside : (p : ℕ) → (header_place k ≤ p → p < header_place k + 16 → ⊥) → get_or y p 0 ≡ get_or x p 0
  pub start : le 8 y (header_place k) ≡ b
  pub count : le 8 y (header_place k + 8) ≡ n

word_in : {x y : List ℕ} {w a : ℕ} → w < 256 ^ 8 → Over x (le_bytes 8 w) a a (a + 8) y → le 8 y a ≡ w
word_in {x} {y} {w} {a} l o = le-text 8 w y a l (filled-text y a 8 (le_bytes 8 w) (omega (arith, le_bytes-length 8 w)) o.inside)

-- after the first word, and after the second
headed-start : {k : Block} {x y : List ℕ} {b n : ℕ} → b < 256 ^ 8 → le 8 x (header_place k + 8) ≡ n →
    Over x (le_bytes 8 b) (header_place k) (header_place k) (header_place k + 8) y → Headed k x y b n
headed-start {k} {x} {y} l e o = record {
  long = o.long;
  outside = λ p f. over-off o p (λ c e. f c (omega arith));
  start = word_in l o;
  count = le_same 8 y (header_place k + 8) x (header_place k + 8) (λ i m. o.above (header_place k + 8 + i) (omega arith)) ∙ e;
}

headed-count : {k : Block} {x y z : List ℕ} {b s n : ℕ} → n < 256 ^ 8 → Headed k x y b s →
    Over y (le_bytes 8 n) (header_place k + 8) (header_place k + 8) (header_place k + 8 + 8) z → Headed k x z b n
headed-count {k} {x} {y} {z} l h o = record {
  long = o.long ∙ h.long;
  outside = λ p f. over-off o p (λ c e. f (omega arith) (omega arith)) ∙ h.outside p f;
  start = le_same 8 z (header_place k) y (header_place k) (λ i m. o.below (header_place k + i) (omega arith)) ∙ h.start;
  count = word_in l o;
}

headed-version : {k : Block} {x y : List ℕ} {b n : ℕ} → Headed k x y b n → le 4 y 44 ≡ le 4 x 44
headed-version {k} {x} {y} h = le_same 4 y 44 x 44 (λ i m. h.outside (44 + i) (λ c e. omega (arith, in-layout k)))

headed-layout : (k : Block) {x y : List ℕ} {b n : ℕ} → Headed k x y b n → layout_of y ≡ laid k (layout_of x) b n
unfolding layout_of
headed-layout the_index {x} {y} h =
    let namelist : le 8 y 24 ≡ le 8 x 24 = le_same 8 y 24 x 24 (λ i m. h.outside (24 + i) (λ c e. omega arith)) in
    let segments : le 8 y 32 ≡ le 8 x 32 = le_same 8 y 32 x 32 (λ i m. h.outside (32 + i) (λ c e. omega arith)) in
    λ i. record { len = h.long i; version = headed-version h i; index = h.start i; slots = h.count i; namelist = namelist i; segments = segments i }
headed-layout the_names {x} {y} h =
    let index : le 8 y 8 ≡ le 8 x 8 = le_same 8 y 8 x 8 (λ i m. h.outside (8 + i) (λ c e. omega arith)) in
    let slots : le 8 y 16 ≡ le 8 x 16 = le_same 8 y 16 x 16 (λ i m. h.outside (16 + i) (λ c e. omega arith)) in
    λ i. record { len = h.long i; version = headed-version h i; index = index i; slots = slots i; namelist = h.start i; segments = h.count i }

old-count : (k : Block) (x : List ℕ) → le 8 x (header_place k + 8) ≡ count_in k (layout_of x)
unfolding layout_of
old-count the_index x = refl
old-count the_names x = refl

-- The move

-- the words of a slot, of a segment
abbrev pub words_in : Block → ℕ
words_in the_index = 4
words_in the_names = 8

unit-words : (k : Block) (n : ℕ) → (8 * (words_in k * n) ≡ unit_of k * n) × (n ≤ unit_of k * n)
unit-words the_index n = (omega arith, omega arith)
unit-words the_names n = (omega arith, omega arith)

units-more : (k : Block) (s n : ℕ) → s ≤ n → unit_of k * s ≤ unit_of k * n
units-more the_index s n l = omega arith
units-more the_names s n l = omega arith

-- the new block is one of an image that shows v, with any count from the old one to the new one
housed-moved : {x₀ : List ℕ} {v : View} {d : ℕ} {t : List (List ℕ)} {x : List ℕ} (k : Block) (b s n : ℕ) → Stage x₀ v d t x → Room v d (size d t) b →
    count_in k v.layout ≤ s → s ≤ n → b + unit_of k * n ≤ v.layout.len → Filled x b (unit_of k * n) (list_in k x v) →
    Housed v x b (unit_of k * s) (list_in k x v)
housed-moved {v} k b s n stage room low high fits f = record {
  low = omega arith;
  high = omega (arith, units-more k s n high);
  off = λ i l p c e g h. omega (arith, room.chunks i l);
  few = omega (arith, units-more k (count_in k v.layout) s low, (stage-housed k stage).few);
  filled = λ p l m. f p l (omega (arith, units-more k s n high));
}

-- with the header's two words it is the block, and the other one stays
relaid : {x₀ : List ℕ} {v : View} {d : ℕ} {t : List (List ℕ)} {x y : List ℕ} (k : Block) {b s : ℕ} → Stage x₀ v d t x → Room v d (size d t) b →
    Housed v x b (unit_of k * s) (list_in k x v) → Headed k x y b s → Relaid v x y (laid k v.layout b s) v.names
relaid {v} {x} {y} k {b} {s} stage room new h =
    let blocks = both k (kept new) in record {
      long = h.long;
      outside = λ p f g. h.outside p (λ c e. f (omega (arith, in-layout k)) (omega (arith, in-layout k)));
      layout = headed-layout k h ∙ ap (λ l. laid k l b s) stage.base.is.layout;
      apart = blocks.0;
      index = blocks.1;
      names = blocks.2;
      good = stage.base.is.names.good;
      more = omega arith;
    }
  where
    kept : {a n : ℕ} {list : List ℕ} → Housed v x a n list → Housed v y a n list
    kept q = housed-kept (λ p l m. h.outside p (λ c e. omega (arith, in-layout k))) q

    both : (k : Block) → Housed v y b (unit_of k * s) (list_in k x v) → let l : Layout = laid k v.layout b s in
        Apart l.index (32 * l.slots) l.namelist (64 * l.segments)
        × Housed v y l.index (32 * l.slots) (list_in the_index x v) × Housed v y l.namelist (64 * l.segments) (flat v.names)
    both the_index q = (λ p c e f g. omega arith, q, kept (stage-housed the_names stage))
    both the_names q = (λ p c e f g. omega arith, kept (stage-housed the_index stage), q)

-- a stage whose new block is filled with the text
pub record Copied (x₀ : List ℕ) (v : View) (d : ℕ) (t : List (List ℕ)) (b n : ℕ) (text x : List ℕ) : Type 0 where
  pub stage : Stage x₀ v d t x
  pub filled : Filled x b n text

-- such a stage but for the block's words in the header
pub record Placed (x₀ : List ℕ) (v : View) (d : ℕ) (t : List (List ℕ)) (k : Block) (b n : ℕ) (text : List ℕ) (s : ℕ) (x : List ℕ) : Type 0 where
  pub old : List ℕ
  pub copied : Copied x₀ v d t b (unit_of k * n) text old
  pub headed : Headed k old x b s

module _ {x₀ : List ℕ} {v : View} {d : ℕ} {t : List (List ℕ)} (k : Block) (b n : ℕ) (text : List ℕ)
    (room : Room v d (size d t) b) (more : count_in k v.layout ≤ n) (fits : b + unit_of k * n ≤ v.layout.len)
    (lists : (x : List ℕ) → Stage x₀ v d t x → list_in k x v ≡ text) where
  -- whatever its count is, from the old one to the new one
  placed_stage : {x : List ℕ} {s : ℕ} → count_in k v.layout ≤ s → s ≤ n → Placed x₀ v d t k b n text s x → Stage x₀ (with_block k v b s) d t x
  placed_stage {x} {s} low high p =
      let stage : Stage x₀ v d t p.old = p.copied.stage in
      let new : Housed v p.old b (unit_of k * s) (list_in k p.old v)
      = housed-moved k b s n stage room low high fits (rw (lists p.old stage) p.copied.filled) in
      restage room.low room.off_names (relaid k stage room new p.headed) stage

  -- the layout between the two words of the header
  abbrev half : Layout
  half = laid k v.layout b (count_in k v.layout)

  -- the block is copied: the image shows v
  pub copy-block : {W : List ℕ → List ℕ → Type 0} → Passes x₀ W v v →
      Phase (Stage x₀ v d t) (Copied x₀ v d t b (unit_of k * n) text) W (words text b (up b (words_in k * n)))
  copy-block same =
      phase-quiet same text b b (words_in k * n) (omega arith) (λ x s. s.base) (λ x c. c.stage.base)
      (λ x s. omega (arith, unit-words k n))
      (λ x s p l m. inr (free-behind s.base.is room p l))
      (λ x s y o q. record { stage = stage-behind room o.long o.below s; filled = λ p l m. o.inside p l (omega (arith, unit-words k n)) })

  -- the first word of the header: the new place with the old count
  pub place-block : {W : List ℕ → List ℕ → Type 0} → Passes x₀ W v v → Passes x₀ W v (with_layout v half) →
      Phase (Copied x₀ v d t b (unit_of k * n) text) (Placed x₀ v d t k b n text (count_in k v.layout)) W
      (words (le_bytes 8 b) (header_place k) (up (header_place k) 1))
  place-block same move =
      phase-one {M = Base x₀ v} same (λ y z s p. move y z s (placed_stage (omega arith) more p).base)
      (le_bytes 8 b) (header_place k) (λ x c. omega (arith, in-layout k)) (λ x c. c.stage.base)
      (λ x c y o. record {
        old = x;
        copied = c;
        headed = headed-start (omega (arith, is-long c.stage.base.is)) (old-count k x ∙ ap (count_in k) c.stage.base.is.layout) o;
      })

  -- the second word: the new count
  pub count-block : {W : List ℕ → List ℕ → Type 0} →
      Passes x₀ W (with_layout v half) (with_layout v half) → Passes x₀ W (with_layout v half) (with_block k v b n) →
      Phase (Placed x₀ v d t k b n text (count_in k v.layout)) (Stage x₀ (with_block k v b n) d t) W
      (words (le_bytes 8 n) (header_place k + 8) (up (header_place k + 8) 1))
  count-block same grow =
      phase-one {M = Base x₀ (with_layout v half)} same (λ y z s e. grow y z s e.base)
      (le_bytes 8 n) (header_place k + 8) (λ x p. omega (arith, in-layout k)) (λ x p. (placed_stage (omega arith) more p).base)
      (λ x p y o. placed_stage more (omega arith) (record {
        old = p.old;
        copied = p.copied;
        headed = headed-count (omega (arith, unit-words k n, is-long p.copied.stage.base.is)) p.headed o;
      }))

  -- all three
  pub move-block : {W : List ℕ → List ℕ → Type 0} → Quiet x₀ W v →
      Phase (Stage x₀ v d t) (Stage x₀ (with_block k v b n) d t) W (moved true b (words_in k * n) text (header_place k) n)
  unfolding moved
  move-block quiet =
      let short : half.len ≡ v.layout.len = laid-long k v.layout b (count_in k v.layout) in
      copy-block (quiet v.layout v.layout refl refl)
      ⨾ place-block (quiet v.layout v.layout refl refl) (quiet v.layout half refl short)
      ⨾ count-block (quiet half half short short) (quiet half (laid k v.layout b n) short (laid-long k v.layout b n))

-- The steps: the block moves if the flag says so

-- the view afterwards
abbrev pub if_moved : Block → Bool → View → ℕ → ℕ → View
if_moved k flag v b n = with_block k v (cond flag b (start_in k v.layout)) (cond flag n (count_in k v.layout))

pub block-stays : (k : Block) (v : View) → with_block k v (start_in k v.layout) (count_in k v.layout) ≡ v
block-stays the_index v = refl
block-stays the_names v = refl

pub move_step : {x₀ : List ℕ} {W : List ℕ → List ℕ → Type 0} {v : View} {d : ℕ} {t : List (List ℕ)} (k : Block) (flag : Bool) (b n : ℕ) (text : List ℕ) →
    Room v d (size d t) b → count_in k v.layout ≤ cond flag n (count_in k v.layout) → (flag ≡ true → b + unit_of k * n ≤ v.layout.len) →
    ((x : List ℕ) → Stage x₀ v d t x → list_in k x v ≡ text) → Quiet x₀ W v →
    Phase (Stage x₀ v d t) (Stage x₀ (if_moved k flag v b n) d t) W (moved flag b (words_in k * n) text (header_place k) n)
unfolding moved
move_step k true b n text room more fits lists quiet = move-block k b n text room more (fits refl) lists quiet
move_step {v} k false b n text room more fits lists quiet = rw (block-stays k v) phase-nil

-- and the room behind it: a is where all ended before
pub room-step : {v : View} {d m : ℕ} (k : Block) (flag : Bool) (a b n : ℕ) → a ≤ b → Room v d m a →
    Room (if_moved k flag v b n) d m (cond flag (b + unit_of k * n) a)
room-step {v} k false a b n h r = rw (block-stays k v) r
room-step {v} the_index true a b n h r =
    room-laid r (laid the_index v.layout b n) v.names (b + 32 * n) (omega arith) (omega arith) (omega arith) (λ p c e f g. omega arith) r.off_names
room-step {v} the_names true a b n h r =
    room-laid r (laid the_names v.layout b n) v.names (b + 64 * n) (omega arith) (omega arith) (omega arith) r.off_index (λ p c e f g. omega arith)

-- the entries' bytes are those of the beginning, where the index block began at a
pub entries-begun : {x₀ : List ℕ} {v : View} {x : List ℕ} (a : ℕ) → (layout_of x₀).index ≡ a → a + 32 * length v.entries ≤ length x₀ → Base x₀ v x →
    list_in the_index x v ≡ part x₀ a (32 * length v.entries)
entries-begun {x₀} {v} {x} a e l b =
    part_same x v.layout.index x₀ a (32 * length v.entries) (omega (arith, is-long b.is)) l (rw e at b.raw)

module _ {x₀ : List ℕ} {W : List ℕ → List ℕ → Type 0} {v : View} {d : ℕ} {t : List (List ℕ)} (flag : Bool) (b n : ℕ) (room : Room v d (size d t) b) where
  pub names-step : v.layout.segments ≤ cond flag n v.layout.segments → (flag ≡ true → b + 64 * n ≤ v.layout.len) → Quiet x₀ W v →
      Phase (Stage x₀ v d t) (Stage x₀ (with_name_block v (cond flag b v.layout.namelist) (cond flag n v.layout.segments)) d t) W
      (moved flag b (8 * n) (flat v.names) 24 n)
  names-step more fits = move_step the_names flag b n (flat v.names) room more fits (λ x s. refl)

  pub index-step : (a : ℕ) → (layout_of x₀).index ≡ a → a + 32 * length v.entries ≤ length x₀ →
      v.layout.slots ≤ cond flag n v.layout.slots → (flag ≡ true → b + 32 * n ≤ v.layout.len) → Quiet x₀ W v →
      Phase (Stage x₀ v d t) (Stage x₀ (with_index_block v (cond flag b v.layout.index) (cond flag n v.layout.slots)) d t) W
      (moved flag b (4 * n) (part x₀ a (32 * length v.entries)) 8 n)
  index-step a e l more fits =
      move_step the_index flag b n (part x₀ a (32 * length v.entries)) room more fits
      (λ x s. entries-begun a e l s.base)
