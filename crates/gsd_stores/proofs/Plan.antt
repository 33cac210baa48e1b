-- Laws of the plan of an append: growth of a block, the end of use, the blocks and positions of a plan, and its entries row by row.
use Prim.Native.Nat.{ℕ, zero, suc, ◌+◌, ◌*◌, ◌/◌, ◌%◌, ◌≤◌, ◌<◌, max}
use mathlib.Core.Path.{◌≡◌, refl, sym, ◌∙◌, ap}
use mathlib.Core.Bool.{Bool, true, false, cond}
use mathlib.Core.List.{List, [], ◌∷◌, ◌++◌}
use native.Mathlib.Decide.{dec_le}
use native.Mathlib.Omega.{arith}
use lib.ListN.{length, get_or}
use lib.Dec.{ltb}
use borrow.Author.Tests.{ltb-false, le-leb, lt-leb}
use Rattle.gsd_format.specs.declared.Entry.{Entry}
use Rattle.gsd_format.specs.declared.Layout.{Layout}
use Rattle.gsd_format.specs.Header.{alignment, aligned}
use Rattle.gsd_format.specs.Types.{chunk_size}
use Rattle.gsd_format.specs.Names.{flat, index_of, Has}
use Rattle.gsd_format.specs.Entries.{frames_of, chunks_end}
use Rattle.gsd_format.specs.Lookup.{none}
use Rattle.gsd_format.proofs.Lists.{Each, Any, each_at, at_each, any_at, at-any}
use Rattle.gsd_format.proofs.Ids.{index-inj}
use Rattle.gsd_stores.specs.Sheet.{Row}
use Rattle.gsd_stores.specs.View.{View, index_end, namelist_end, end_of_use}
use Rattle.gsd_stores.specs.Plan.{Plan, bodies, body_place, new_names, new_entries, sorted, doubled, grown, plan_of}
use Rattle.gsd_stores.specs.Plan.{data_end, names_start, names_done, index_start, final_position}
use Rattle.gsd_stores.specs.Steps.{name_block, index_block}
use Rattle.gsd_stores.specs.Demand3.{no_row}
use Rattle.gsd_stores.proofs.Sorted.{sorted-length, sorted-each, sorted-any}
use Rattle.gsd_stores.proofs.Rows.{bodies-even, end-even, new_entry, new-length, new-at}

-- Growth of a block

pub doubled-done : (fuel need c : ℕ) → need ≤ c → doubled fuel need c ≡ c
unfolding doubled
doubled-done zero need c h = refl
doubled-done (suc fuel) need c h = rw (le-leb need c h, doubled)

pub doubled-on : (fuel need c : ℕ) → c < need → doubled (suc fuel) need c ≡ doubled fuel need (2 * c)
unfolding doubled
doubled-on fuel need c h = rw (lt-leb need c h, doubled)

-- enough fuel: each doubling of a count of at least 1 adds at least 1 to it
pub doubled-enough : (fuel need c : ℕ) → 1 ≤ c → need ≤ c + fuel → need ≤ doubled fuel need c
doubled-enough zero need c one h = rw (doubled-done zero need c (omega arith)) (omega arith)
doubled-enough (suc fuel) need c one h = go (doubled-enough fuel need (2 * c)) (dec_le need c)
  where
    go : (1 ≤ 2 * c → need ≤ 2 * c + fuel → need ≤ doubled fuel need (2 * c)) → Dec (need ≤ c) → need ≤ doubled (suc fuel) need c
    go f (yes l) = rw (doubled-done (suc fuel) need c l) l
    go f (no l) = rw (doubled-on fuel need c (omega arith)) (f (omega arith) (omega arith))

-- never less than before, nor more than twice what is needed
pub doubled-range : (fuel need c : ℕ) → (c ≤ doubled fuel need c) × (doubled fuel need c ≤ max c (2 * need))
unfolding doubled
doubled-range zero need c = omega arith
doubled-range (suc fuel) need c = go (doubled-range fuel need (2 * c)) (dec_le need c)
  where
    go : (2 * c ≤ doubled fuel need (2 * c)) × (doubled fuel need (2 * c) ≤ max (2 * c) (2 * need)) → Dec (need ≤ c) →
        (c ≤ doubled (suc fuel) need c) × (doubled (suc fuel) need c ≤ max c (2 * need))
    go f (yes l) = rw (doubled-done (suc fuel) need c l) (omega arith)
    go f (no l) = rw (doubled-on fuel need c (omega arith)) (omega arith)

-- any fuel that is enough gives the same
pub doubled-fuel : (f g need c : ℕ) → 1 ≤ c → need ≤ c + f → need ≤ c + g → doubled f need c ≡ doubled g need c
doubled-fuel zero g need c one h k = doubled-done zero need c (omega arith) ∙ sym (doubled-done g need c (omega arith))
doubled-fuel (suc f) zero need c one h k = doubled-done (suc f) need c (omega arith) ∙ sym (doubled-done zero need c (omega arith))
doubled-fuel (suc f) (suc g) need c one h k = go (doubled-fuel f g need (2 * c)) (dec_le need c)
  where
    go : (1 ≤ 2 * c → need ≤ 2 * c + f → need ≤ 2 * c + g → doubled f need (2 * c) ≡ doubled g need (2 * c)) → Dec (need ≤ c) →
        doubled (suc f) need c ≡ doubled (suc g) need c
    go r (yes l) = doubled-done (suc f) need c l ∙ sym (doubled-done (suc g) need c l)
    go r (no l) = doubled-on f need c (omega arith) ∙ r (omega arith) (omega arith) (omega arith) ∙ sym (doubled-on g need c (omega arith))

pub grown-enough : (need old : ℕ) → need ≤ grown need old
grown-enough need old = doubled-enough need need (2 * max 1 old) (omega arith) (omega arith)

pub grown-more : (need old : ℕ) → 2 * max 1 old ≤ grown need old
grown-more need old = (doubled-range need need (2 * max 1 old)).0

-- The end of use

pub chunk_end : (es : List Entry) (i : ℕ) → i < length es → (get_or es i none).location + chunk_size (get_or es i none) ≤ chunks_end es
unfolding chunks_end
chunk_end [] i l = absurd (omega arith)
chunk_end (e ∷ es) zero l = omega arith
chunk_end (e ∷ es) (suc i) l = omega (arith, chunk_end es i (omega arith))

-- all that v shows ends at pos, the first aligned place where it does
pub record EndOfUse (v : View) (pos : ℕ) : Type 0 where
  pub even : pos % 8 ≡ 0
  pub header : 256 ≤ pos
  pub index : index_end v.layout ≤ pos
  pub names : namelist_end v.layout ≤ pos
  pub chunks : (i : ℕ) → i < length v.entries → (get_or v.entries i none).location + chunk_size (get_or v.entries i none) ≤ pos
  pub least : pos < max 256 (max (index_end v.layout) (max (namelist_end v.layout) (chunks_end v.entries))) + alignment

pub end-of-use : (v : View) → EndOfUse v (end_of_use v)
unfolding end_of_use
end-of-use v = record {
  even = omega arith;
  header = omega arith;
  index = omega arith;
  names = omega arith;
  chunks = λ i l. omega (arith, chunk_end v.entries i l);
  least = omega arith;
}

-- The plan

-- what an image shows after the append: where its blocks lie, what they hold room for, and both lists
abbrev pub segments_after : View → Plan → ℕ
segments_after v p = cond p.names_move p.segments v.layout.segments

abbrev pub slots_after : View → Plan → ℕ
slots_after v p = cond p.index_moves p.slots v.layout.slots

abbrev pub layout_after : View → Plan → Layout
layout_after v p = record {
  len = v.layout.len;
  version = v.layout.version;
  index = index_block v p;
  slots = slots_after v p;
  namelist = name_block v p;
  segments = segments_after v p;
}

abbrev pub entries_after : View → Plan → List Entry
entries_after v p = v.entries ++ p.entries

abbrev pub names_after : View → Plan → List (List ℕ)
names_after v p = v.names ++ p.fresh

-- the rows' entries in row order, and the i-th of them
abbrev pub row_entries : View → List Row → Plan → List Entry
row_entries v rs p = new_entries p.start (frames_of v.entries) (names_after v p) rs

abbrev pub row_entry : View → List Row → Plan → ℕ → Entry
row_entry v rs p i = new_entry (body_place p.start rs i) (frames_of v.entries) (names_after v p) (get_or rs i no_row)

-- a plan and the rows that it is made for
pub record Planned (v : View) (rs : List Row) (p : Plan) : Type 0 where
  pub room : EndOfUse v p.start
  pub body : p.body ≡ bodies rs
  pub fresh : p.fresh ≡ new_names v.names rs
  pub entries : p.entries ≡ sorted (row_entries v rs p)
  -- whether or not it moves, a block has room for the new list, and is no smaller than before
  pub names_fit : length (flat v.names) + length (flat p.fresh) ≤ 64 * segments_after v p
  pub entries_fit : length v.entries + length p.entries ≤ slots_after v p
  pub more_segments : v.layout.segments ≤ segments_after v p
  pub more_slots : v.layout.slots ≤ slots_after v p
  -- a new block has at least twice the old count
  pub twice_segments : 2 * max 1 v.layout.segments ≤ p.segments
  pub twice_slots : 2 * max 1 v.layout.slots ≤ p.slots

-- what holds of a new block and, if it does not move, of the old one
pub chosen : (P : ℕ → Type 0) (moves : Bool) (new old : ℕ) → P new → (moves ≡ false → P old) → P (cond moves new old)
chosen P true new old f g = f
chosen P false new old f g = g refl

pub taken : (moves : Bool) (new old : ℕ) → moves ≡ true → cond moves new old ≡ new
taken moves new old e = rw e

pub planned : (v : View) (rs : List Row) → Planned v rs (plan_of v rs)
unfolding plan_of
planned v rs =
    let fresh : List (List ℕ) = new_names v.names rs in
    let entries : List Entry = sorted (new_entries (end_of_use v) (frames_of v.entries) (v.names ++ fresh) rs) in
    let bytes : ℕ = length (flat v.names) + length (flat fresh) in
    let count : ℕ = length v.entries + length entries in
    let segments : ℕ = v.layout.segments in
    let slots : ℕ = v.layout.slots in
    let need : ℕ = (bytes + 63) / 64 in
    let more_segments : 2 * max 1 segments ≤ grown need segments = grown-more need segments in
    let more_slots : 2 * max 1 slots ≤ grown count slots = grown-more count slots in
    record {
      room = end-of-use v;
      body = refl;
      fresh = refl;
      entries = refl;
      names_fit = chosen (λ n. bytes ≤ 64 * n) (ltb (64 * segments) bytes) _ segments (omega (arith, grown-enough need segments)) (ltb-false _ bytes);
      entries_fit = chosen (λ n. count ≤ n) (ltb slots count) _ slots (grown-enough count slots) (ltb-false slots count);
      more_segments = chosen (λ n. segments ≤ n) (ltb (64 * segments) bytes) _ segments (omega arith) (λ e. omega arith);
      more_slots = chosen (λ n. slots ≤ n) (ltb slots count) _ slots (omega arith) (λ e. omega arith);
      twice_segments = more_segments;
      twice_slots = more_slots;
    }

-- the plan's positions follow one another, and are multiples of 8
pub positions : (p : Plan) → (data_end p ≤ names_done p) × (names_done p ≤ final_position p)
positions p = (more p.names_move (data_end p) (64 * p.segments), more p.index_moves (names_done p) (32 * p.slots))
  where
    more : (moves : Bool) (a n : ℕ) → a ≤ cond moves (aligned a + n) a
    more moves a n = chosen (λ k. a ≤ k) moves (aligned a + n) a (omega arith) (λ e. omega arith)

module _ (v : View) (rs : List Row) (p : Plan) (h : Planned v rs p) where
  pub body-even : Each (λ b. length b % 8 ≡ 0) p.body
  body-even = rw h.body (bodies-even rs)

  pub positions-even : (data_end p % 8 ≡ 0) × (names_done p % 8 ≡ 0) × (final_position p % 8 ≡ 0)
  positions-even =
      let stored : data_end p % 8 ≡ 0 = end-even p.body p.start h.room.even body-even in
      let names : names_done p % 8 ≡ 0 = chosen (λ k. k % 8 ≡ 0) p.names_move (names_start p + 64 * p.segments) (data_end p) (omega arith) (λ e. stored) in
      (stored, names, chosen (λ k. k % 8 ≡ 0) p.index_moves (index_start p + 32 * p.slots) (names_done p) (omega arith) (λ e. names))

  pub entries-count : length p.entries ≡ length rs
  entries-count = rw h.entries (sorted-length _ ∙ new-length rs p.start (frames_of v.entries) (names_after v p))

-- Rows and new entries

-- the j-th new entry is that of the i-th row
pub record RowEntry (v : View) (rs : List Row) (p : Plan) (i j : ℕ) : Type 0 where
  pub row : i < length rs
  pub entry : j < length p.entries
  pub is : get_or p.entries j none ≡ row_entry v rs p i

module _ (v : View) (rs : List Row) (p : Plan) (h : Planned v rs p) where
  row-at : (i : ℕ) → i < length rs → get_or (row_entries v rs p) i none ≡ row_entry v rs p i
  row-at = new-at rs p.start (frames_of v.entries) (names_after v p)

  -- each row has its entry, and each new entry its row
  pub row-entry : (i : ℕ) → i < length rs → (j : ℕ) × RowEntry v rs p i j
  row-entry i l =
      let at : Any (λ e. e ≡ row_entry v rs p i) (row_entries v rs p) = at-any _ (row_entries v rs p) none i (rw new-length l) (row-at i l) in
      let (j, m, is) = any_at (λ e. e ≡ row_entry v rs p i) p.entries none (rw h.entries (sorted-any _ (row_entries v rs p) at)) in
      (j, record { row = l; entry = m; is = is })

  pub entry_row : (j : ℕ) → j < length p.entries → (i : ℕ) × RowEntry v rs p i j
  entry_row j m =
      let rows : Each (λ e. (i : ℕ) × (i < length rs) × (e ≡ row_entry v rs p i)) (row_entries v rs p) =
      at_each _ (row_entries v rs p) none (λ i l. let k : i < length rs = rw new-length at l in (i, k, row-at i k)) in
      let all : Each (λ e. (i : ℕ) × (i < length rs) × (e ≡ row_entry v rs p i)) p.entries = rw h.entries (sorted-each _ (row_entries v rs p) rows) in
      let (i, l, is) = each_at _ p.entries none all j m in
      (i, record { row = l; entry = m; is = is })

  -- the entry with a name's id is that of the row with this name
  pub named-row : (name : List ℕ) → Has name (names_after v p) → (j : ℕ) → j < length p.entries →
      (get_or p.entries j none).id ≡ index_of name (names_after v p) → (i : ℕ) × RowEntry v rs p i j × ((get_or rs i no_row).name ≡ name)
  named-row name k j m e =
      let (i, r) = entry_row j m in
      let same : index_of name (names_after v p) ≡ index_of (get_or rs i no_row).name (names_after v p) = sym e ∙ ap (λ c. c.id) r.is in
      (i, r, sym (index-inj name (get_or rs i no_row).name (names_after v p) k same))
