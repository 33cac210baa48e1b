-- The steps of an append once more, with what each of their stores leaves alone: every lasting byte. Each step's phase says what is shown
-- before a store and after it; where the store lies is said here.
use Prim.Native.Nat.{ℕ, ◌+◌, ◌*◌, ◌-◌, ◌/◌, ◌%◌, ◌≤◌, ◌<◌}
use mathlib.Core.Path.{◌≡◌, refl, sym, ◌∙◌, ap}
use mathlib.Core.Bool.{Bool, true, false, cond}
use mathlib.Core.List.{List, [], ◌∷◌, ◌++◌, append_assoc, append-nil}
use native.Mathlib.Decide.{dec_lt}
use native.Mathlib.Omega.{arith}
use lib.ListN.{length, get_or, get_or-append}
use Rattle.gsd_format.specs.declared.Entry.{Entry}
use Rattle.gsd_format.specs.Bytes.{le_bytes, part, Apart}
use Rattle.gsd_format.specs.Header.{header_size, aligned}
use Rattle.gsd_format.specs.Names.{flat}
use Rattle.gsd_format.specs.Lookup.{none}
use Rattle.gsd_format.proofs.Lists.{Each, each_append}
use Rattle.gsd_format.proofs.Names.{Named, flat-size, flat-more}
use Rattle.gsd_format.proofs.Entries.{Fits}
use Rattle.gsd_format.proofs.Verdict.{AllSound}
use Rattle.gsd_stores.specs.Stores.{words, up}
use Rattle.gsd_stores.specs.View.{View, namelist_end, entries_end, names_end}
use Rattle.gsd_stores.specs.Plan.{Plan, data_end, names_start, index_start}
use Rattle.gsd_stores.specs.Steps.{clear_index, clear_names, store_texts, store_data, moved, move_names}
use Rattle.gsd_stores.specs.Steps.{store_name, store_names, move_index, index_bytes, store_entries, steps_of}
use Rattle.gsd_stores.proofs.Stores.{Missed, words-missed, Fills, up-fills, down-fills, slots-fills, fills-off}
use Rattle.gsd_stores.proofs.Phases.{Phase, phase-nil, ◌⨾◌}
use Rattle.gsd_stores.proofs.Texts.{size}
use Rattle.gsd_stores.proofs.View.{with_names, Is, is-long, names-byte, view-is, Room, Base, Passes, IndexClear, Stage}
use Rattle.gsd_stores.proofs.Blocks.{Block, the_index, the_names, unit_of, count_in, list_in}
use Rattle.gsd_stores.proofs.Good.{roomy, ready, Good}
use Rattle.gsd_stores.proofs.Clear.{clear-index, clear-names, store-data}
use Rattle.gsd_stores.proofs.Move.{with_block, words_in, header_place, in-layout, if_moved, block-stays}
use Rattle.gsd_stores.proofs.Move.{copy-block, place-block, count-block, entries-begun}
use Rattle.gsd_stores.proofs.NewNames.{name-words, one_name}
use Rattle.gsd_stores.proofs.NewEntries.{Final, store-entries}
use Rattle.gsd_stores.proofs.Whole.{data-fits, room-roomy, room-ready, names-room, index-room, names-inside, index-inside, block-even}
use Rattle.gsd_stores.proofs.Lasting.{Lasting, Stays, room-ended, lasting-moved, lasting-grown, lasting-named, lasting-listed, Goes, steady-off, steady-same}

-- from what shows u to what shows w, if w has the lasting places of u
goes : {u w : View} {a b : List ℕ} → ((q : ℕ) → Lasting u q → Lasting w q) → Is a u → Is b w → Goes u a b
goes {u} {w} {a} {b} f ha hb = record { shown = view-is a u ha; lasts = λ q h. rw (view-is b w hb) (f q h) }

passes : {x₀ : List ℕ} {u w : View} → ((q : ℕ) → Lasting u q → Lasting w q) → Passes x₀ (Goes u) u w
passes f a b ha hb = goes f ha.is hb.is

stays : {x₀ : List ℕ} {u : View} → Passes x₀ (Goes u) u u
stays = passes (λ q h. h)

-- an extent misses what lies outside
missed : {lo n : ℕ} {l : List ℕ} → Fills lo n l → (t : List ℕ) (base q : ℕ) → (lo ≤ q → q < lo + 8 * n → ⊥) → Each (Missed q) (words t base l)
missed {l = l} f t base q h = words-missed t base q l (fills-off f q h)

-- Steps 1 and 2

texts-missed : (bs : List (List ℕ)) (pos q : ℕ) → q < pos → Each (Missed q) (store_texts pos bs)
unfolding store_texts
texts-missed [] pos q h = tt
texts-missed (b ∷ bs) pos q h =
    each_append (Missed q) (words b (aligned pos) (up (aligned pos) (length b / 8))) (store_texts (aligned pos + length b) bs)
    (missed (up-fills (aligned pos) (length b / 8)) b (aligned pos) q (λ c d. omega arith)) (texts-missed bs (aligned pos + length b) q (omega arith))

module _ {x₀ : List ℕ} {v : View} where
  steady-index : Phase (Base x₀ v) (λ x. Base x₀ v x × IndexClear v x) Stays (clear_index v)
  unfolding clear_index
  steady-index =
      steady-off (clear-index stays)
      (λ q h. missed (up-fills (entries_end v) (4 * (v.layout.slots - length v.entries))) [] 0 q (λ c d. h.entries c (omega arith)))

  -- the bytes before the list's end are stored as they are
  steady-names : (d : ℕ) → v.layout.namelist % 8 ≡ 0 → Phase (λ x. Base x₀ v x × IndexClear v x) (Stage x₀ v d []) Stays (clear_names v)
  unfolding clear_names
  steady-names d even =
      let first : ℕ = names_end v / 8 * 8 in
      steady-same (up-fills first ((namelist_end v.layout - first) / 8)) (flat v.names) v.layout.namelist (omega arith)
      (clear-names stays d even) (λ x b. omega (arith, b.0.is.names.few, b.0.is.blocks.namelist_high, is-long b.0.is))
      (λ x b q h c e. elim (dec_lt q (names_end v)) [
        | yes f ↦ names-byte b.0.is q (omega arith) f
        | no f ↦ absurd (h.names (omega arith) (omega (arith, b.0.is.names.few)))
      ])

  steady-data : (p : Plan) → Room v p.start 0 p.start → Each (λ b. length b % 8 ≡ 0) p.body → data_end p ≤ v.layout.len →
      Phase (Stage x₀ v p.start []) (Stage x₀ v p.start p.body) Stays (store_data p)
  steady-data p r even fits =
      steady-off (store-data stays p r even fits) (λ q h. texts-missed p.body p.start q (h.used p.start (room-ended r)))

-- Steps 3 and 5

-- behind all that is shown, then in the header
module _ {x₀ : List ℕ} {v : View} {d : ℕ} {t : List (List ℕ)} (k : Block) (b n : ℕ) (text : List ℕ)
    (room : Room v d (size d t) b) (more : count_in k v.layout ≤ n) (fits : b + unit_of k * n ≤ v.layout.len)
    (lists : (x : List ℕ) → Stage x₀ v d t x → list_in k x v ≡ text) where
  steady-block : Phase (Stage x₀ v d t) (Stage x₀ (with_block k v b n) d t) Stays (moved true b (words_in k * n) text (header_place k) n)
  unfolding moved
  steady-block =
      steady-off (copy-block k b n text room more fits lists stays)
      (λ q h. missed (up-fills b (words_in k * n)) text b q (λ c e. omega (arith, h.used b (room-ended room))))
      ⨾ steady-off (place-block k b n text room more fits lists stays (passes (lasting-moved k v b (count_in k v.layout) (room-ended room))))
      (λ q h. missed (up-fills (header_place k) 1) (le_bytes 8 b) (header_place k) q (λ c e. omega (arith, h.low, in-layout k)))
      ⨾ steady-off (count-block k b n text room more fits lists stays (passes (lasting-grown k v b (count_in k v.layout) n (room-ended room) more)))
      (λ q h. missed (up-fills (header_place k + 8) 1) (le_bytes 8 n) (header_place k + 8) q (λ c e. omega (arith, h.low, in-layout k)))

steady-move : {x₀ : List ℕ} {v : View} {d : ℕ} {t : List (List ℕ)} (k : Block) (flag : Bool) (b n : ℕ) (text : List ℕ) →
    Room v d (size d t) b → count_in k v.layout ≤ cond flag n (count_in k v.layout) → (flag ≡ true → b + unit_of k * n ≤ v.layout.len) →
    ((x : List ℕ) → Stage x₀ v d t x → list_in k x v ≡ text) →
    Phase (Stage x₀ v d t) (Stage x₀ (if_moved k flag v b n) d t) Stays (moved flag b (words_in k * n) text (header_place k) n)
unfolding moved
steady-move k true b n text room more fits lists = steady-block k b n text room more (fits refl) lists
steady-move {v = v} k false b n text room more fits lists = rw (block-stays k v) phase-nil

-- Step 4

-- the bytes before the name are stored as they are
module _ {x₀ : List ℕ} {v : View} {d : ℕ} {t : List (List ℕ)} (b : List ℕ) (low : header_size ≤ d)
    (off : Apart d (size d t) v.layout.namelist (64 * v.layout.segments)) (even : v.layout.namelist % 8 ≡ 0) (name : Named b)
    (fits : length (flat v.names) + length b + 1 ≤ 64 * v.layout.segments) where
  steady-name : Phase (Stage x₀ v d t) (Stage x₀ (with_names v (v.names ++ b ∷ [])) d t) Stays (store_name v.layout.namelist (flat v.names) b)
  unfolding store_name
  steady-name =
      let first : ℕ = names_end v in
      let count : ℕ = (first + length b - 1) / 8 - first / 8 + 1 in
      let w = name-words v.layout.namelist (length (flat v.names)) (length b) v.layout.segments even name.some (omega arith) in
      steady-same (down-fills (first / 8 * 8) count) (flat v.names ++ b) v.layout.namelist w.0
      (one_name b low off even name fits stays (passes (lasting-named (v.names ++ b ∷ []) (omega (arith, flat-more v.names b)))))
      (λ x s. omega (arith, is-long s.base.is, s.base.is.blocks.namelist_high, w))
      (λ x s q h c e. elim (dec_lt q (names_end v)) [
        | yes f ↦ names-byte s.base.is q (omega (arith, w)) f ∙ sym (get_or-append (flat v.names) b 0 (q - v.layout.namelist) (omega (arith, w)))
        | no f ↦ absurd (h.names (omega arith) (omega (arith, w)))
      ])

steady-all : {x₀ : List ℕ} (v : View) {d : ℕ} {t : List (List ℕ)} (bs : List (List ℕ)) → header_size ≤ d →
    Apart d (size d t) v.layout.namelist (64 * v.layout.segments) → v.layout.namelist % 8 ≡ 0 → Each Named bs →
    length (flat v.names) + length (flat bs) ≤ 64 * v.layout.segments →
    Phase (Stage x₀ v d t) (Stage x₀ (with_names v (v.names ++ bs)) d t) Stays (store_names v.layout.namelist v.names bs)
unfolding store_names
steady-all v [] low off even named fits = rw append-nil phase-nil
steady-all {x₀} v {d} {t} (b ∷ bs) low off even named fits =
    steady-name b low off even named.0 (omega (arith, flat-size b bs))
    ⨾ rw append_assoc at (steady-all {x₀ = x₀} (with_names v (v.names ++ b ∷ [])) {t = t} bs low off even named.1
    (omega (arith, flat-size b bs, flat-more v.names b)))

-- Step 6

-- in free slots alone
steady-entries : {x₀ : List ℕ} {v : View} (new : List Entry) (d : ℕ) (t : List (List ℕ)) →
    length v.entries + length new ≤ v.layout.slots → AllSound v.layout (length v.names) new → ((i : ℕ) → i < length new → Fits (get_or new i none)) →
    Apart d (size d t) v.layout.index (32 * v.layout.slots) → Phase (Stage x₀ v d t) (Final x₀ v new d t) Stays (store_entries (entries_end v) new)
unfolding store_entries
steady-entries {v = v} new d t few sound exact off =
    steady-off (store-entries new d t stays (λ a b ha f. goes (lasting-listed new) ha.is f.is) few sound exact off)
    (λ q h. missed (slots-fills (entries_end v) (length new)) (index_bytes new) (entries_end v) q (λ c e. h.entries c (omega arith)))

-- The whole append
pub steady-append : {x₀ : List ℕ} {v : View} {p : Plan} → Good v p → Is x₀ v →
    Phase (Base x₀ v) (Final x₀ (ready v p) p.entries p.start p.body) Stays (steps_of x₀ v p)
unfolding steps_of move_names move_index
steady-append {x₀} {v} {p} g h =
    steady-index
    ⨾ steady-names p.start g.namelist_even
    ⨾ steady-data p g.room g.body_even (data-fits g)
    ⨾ steady-move the_names p.names_move (names_start p) p.segments (flat v.names) (names-room g) g.more_segments (names-inside g) (λ x s. refl)
    ⨾ steady-all (roomy v p) p.fresh g.room.low (room-roomy g).off_names (block-even g) g.fresh g.names_fit
    ⨾ steady-move the_index p.index_moves (index_start p) p.slots (part x₀ v.layout.index (32 * length v.entries)) (index-room g)
    g.more_slots (index-inside g) (λ x s. entries-begun v.layout.index (ap (λ l. l.index) h.layout) (omega (arith, is-long h)) s.base)
    ⨾ steady-entries p.entries p.start p.body g.entries_fit g.sound g.exact (room-ready g).off_index
