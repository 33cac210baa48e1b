-- An accepted append: what its number 0 says of the image, the rows and the plan, and that every new entry is sound.
use Prim.Native.Nat.{ℕ, ◌+◌, ◌*◌, ◌-◌, ◌^◌, ◌%◌, ◌≤◌, ◌<◌}
use mathlib.Core.Path.{◌≡◌, refl, sym, ◌∙◌, ap}
use mathlib.Core.Bool.{Bool, true, false, not, cond}
use mathlib.Core.List.{List, [], ◌++◌}
use native.Mathlib.Nat.{add-zero}
use native.Mathlib.Omega.{arith}
use lib.ListN.{length, get_or, length-append}
use lib.Dec.{eqb}
use borrow.Author.Tests.{eqb-true, eqb-false, not-false}
use Rattle.gsd_format.specs.declared.Entry.{Entry}
use Rattle.gsd_format.specs.declared.Layout.{Layout}
use Rattle.gsd_format.specs.Bytes.{part, Apart}
use Rattle.gsd_format.specs.Types.{known, chunk_size}
use Rattle.gsd_format.specs.Header.{greatest_length, v10, layout_of, aligned, alignment}
use Rattle.gsd_format.specs.Names.{names_of, Distinct}
use Rattle.gsd_format.specs.Entries.{entries_of, frames_of}
use Rattle.gsd_format.specs.Opening.{verdict, most_names, greatest_frame, Blocks}
use Rattle.gsd_format.specs.Lookup.{none, chunk_of}
use Rattle.gsd_format.proofs.Lists.{Each, each_at, at_each, each_append}
use Rattle.gsd_format.proofs.Refusals.{both, unmet, neither, not-less}
use Rattle.gsd_format.proofs.Bytes.{Octets}
use Rattle.gsd_format.proofs.Texts.{text-part}
use Rattle.gsd_format.proofs.Names.{Named, names-pass}
use Rattle.gsd_format.proofs.Entries.{Fits, Ordered, ShortIds, frames-most, frames-grown, frames-last, ordered-append}
use Rattle.gsd_format.proofs.Arranged.{least_of, arranged-ordered}
use Rattle.gsd_format.proofs.Verdict.{Sound, AllSound, Opens, verdict-zero, sound-ids}
use Rattle.gsd_stores.specs.Sheet.{Row, rows_of, row_names, most_rows}
use Rattle.gsd_stores.specs.View.{View, view_of}
use Rattle.gsd_stores.specs.Plan.{Plan, new_names, end_from, body_place, plan_of, data_end, names_start, names_done, index_start, final_position}
use Rattle.gsd_stores.specs.Append.{image_test, plan_test, append_test}
use Rattle.gsd_stores.specs.Demand3.{no_row}
use Rattle.gsd_stores.proofs.Sheet.{Accepted, RowsOk, accepted, rows-count, rows_ok}
use Rattle.gsd_stores.proofs.Sorted.{Rising, sorted-rising, rising-ordered}
use Rattle.gsd_stores.proofs.Texts.{Stand, end_more}
use Rattle.gsd_stores.proofs.Rows.{body-text, place-low, place_inside, new-names, new-each, all-has, all-distinct, new-differing}
use Rattle.gsd_stores.proofs.Plan.{layout_after, entries_after, names_after, row_entries, row_entry, Planned, chosen, planned, positions}
use Rattle.gsd_stores.proofs.Plan.{body-even, entries-count, entry_row}

pub record Valid (x : List ℕ) (rs : List Row) : Type 0 where
  pub opens : verdict x ≡ 0
  pub recent : v10 (view_of x).layout.version ≡ false
  pub even_index : (view_of x).layout.index % 8 ≡ 0
  pub even_names : (view_of x).layout.namelist % 8 ≡ 0
  pub early : frames_of (view_of x).entries ≡ greatest_frame + 1 → ⊥
  pub some : 0 < length rs
  pub few : length rs ≤ most_rows
  pub rows : RowsOk (view_of x).layout.version rs
  pub distinct : Distinct (row_names rs)
  pub few_names : length (view_of x).names + length (new_names (view_of x).names rs) ≤ most_names
  pub fits : final_position (plan_of (view_of x) rs) ≤ (view_of x).layout.len

-- 20: the image is not of 1.0; 21: both blocks lie at words; 31: the last frame is not the greatest
image-ready : (l : Layout) (frames : ℕ) → image_test l frames ≡ 0 →
    (v10 l.version ≡ false) × (l.index % 8 ≡ 0) × (l.namelist % 8 ≡ 0) × (frames ≡ greatest_frame + 1 → ⊥)
unfolding image_test
image-ready l frames h =
    let from20 = both _ _ h in
    let from21 = both _ _ from20.1 in
    let even = neither (not (eqb (l.index % 8) 0)) (not (eqb (l.namelist % 8) 0)) (unmet _ _ from21.0) in
    (unmet _ _ from20.0, eqb-true _ _ (not-false _ even.0), eqb-true _ _ (not-false _ even.1), eqb-false _ _ (unmet _ _ from21.1))

pub valid : (x s : List ℕ) → Octets s → append_test x s ≡ 0 → Valid x (rows_of s)
unfolding append_test plan_test
valid x s o h =
    let from1 = both _ _ h in
    let from20 = both _ _ from1.1 in
    let from22 = both _ _ from20.1 in
    let from28 = both _ _ from22.1 in
    let image = image-ready (view_of x).layout (frames_of (view_of x).entries) from20.0 in
    let ok : Accepted (view_of x).layout.version s = accepted _ s from22.0 in
    record {
      opens = from1.0;
      recent = image.0;
      even_index = image.1;
      even_names = image.2;
      early = image.3;
      some = omega (arith, rows-count s, ok.some);
      few = omega (arith, rows-count s, ok.few);
      rows = rows_ok _ s o ok;
      distinct = ok.distinct;
      few_names = not-less _ _ _ from28.0;
      fits = not-less _ _ _ from28.1;
    }

-- New entries

-- a new entry: of the new frame, with a known type and one of the names, its chunk among the data
pub record NewSound (v : View) (p : Plan) (e : Entry) : Type 0 where
  pub frame : e.frame ≡ frames_of v.entries
  pub low : 256 ≤ e.location
  pub behind : p.start ≤ e.location
  pub start : e.location % alignment ≡ 0
  pub high : e.location + chunk_size e ≤ data_end p
  pub typed : known v.layout.version e.kind ≡ true
  pub id : e.id < length (names_after v p)
  pub flags : e.flags ≡ 0

module _ (v : View) (rs : List Row) (p : Plan) (plan : Planned v rs p) (ok : RowsOk v.layout.version rs) where
  row-sound : (i : ℕ) → i < length rs → NewSound v p (row_entry v rs p i)
  row-sound i l = record {
    frame = refl;
    low = omega (arith, plan.room.header, place-low p.start rs i);
    behind = place-low p.start rs i;
    start = omega arith;
    high = omega (arith, (ok i l).size, place_inside rs p.start i l, ap (end_from p.start) plan.body);
    typed = (ok i l).typed;
    id = rw plan.fresh (all-has v.names rs i l);
    flags = refl;
  }

  row_fits : (i : ℕ) → i < length rs → frames_of v.entries < 2 ^ 64 → data_end p < 2 ^ 64 → length (names_after v p) ≤ 65536 → Fits (row_entry v rs p i)
  row_fits i l f d n = record {
    frame = f;
    n = (ok i l).fit_n;
    location = omega (arith, (row-sound i l).high);
    m = (ok i l).fit_m;
    id = omega (arith, (row-sound i l).id);
    kind = (ok i l).fit_kind;
    flags = omega arith;
  }

  pub new-sound : (j : ℕ) → j < length p.entries → NewSound v p (get_or p.entries j none)
  new-sound j m = let (i, r) = entry_row v rs p plan j m in rw r.is (row-sound i r.row)

  -- where the data stand, the chunk of a row's entry is the row's data
  pub row-chunk : (i : ℕ) → i < length rs → (y : List ℕ) → data_end p ≤ length y → Stand y p.start p.body →
      chunk_of y (row_entry v rs p i) ≡ (get_or rs i no_row).body
  row-chunk i l y f h =
      let b : List ℕ = (get_or rs i no_row).body in
      let size : length b ≡ chunk_size (row_entry v rs p i) = (ok i l).size in
      ap (part y (body_place p.start rs i)) (sym size)
      ∙ text-part y (body_place p.start rs i) b (omega (arith, (row-sound i l).high)) (body-text rs y p.start (rw plan.body at h) i l)

  pub new-fits : frames_of v.entries < 2 ^ 64 → data_end p < 2 ^ 64 → length (names_after v p) ≤ 65536 →
      (j : ℕ) → j < length p.entries → Fits (get_or p.entries j none)
  new-fits f d n j m = let (i, r) = entry_row v rs p plan j m in rw r.is (row_fits i r.row f d n)

  pub new-named : Each Named p.fresh
  new-named = rw plan.fresh (new-each Named (new-names v.names rs) (at_each _ rs no_row (λ i l. (ok i l).named)))

  -- rows of different names: the new entries' ids rise, and they are in order behind the listed ones
  pub new-rising : Distinct (row_names rs) → Rising 0 p.entries
  new-rising d =
      rw plan.entries (sorted-rising (row_entries v rs p) (new-differing rs p.start (frames_of v.entries) (names_after v p) (λ i l. (row-sound i l).id) d))

  pub new-ordered : Distinct (row_names rs) → Ordered (65536 * frames_of v.entries) p.entries
  new-ordered d =
      let frames : Each (λ e. e.frame ≡ frames_of v.entries) p.entries = at_each _ p.entries none (λ j m. (new-sound j m).frame) in
      rw add-zero at (rising-ordered p.entries (frames_of v.entries) 0 frames (new-rising d))

-- The blocks after the append

-- what is apart from a block stays so if the block moves behind it
apart-block : (moves : Bool) (unit new many old few a n : ℕ) → Apart a n old (unit * few) → a + n ≤ new →
    Apart a n (cond moves new old) (unit * cond moves many few)
apart-block true unit new many old few a n f g p i j k l = omega arith
apart-block false unit new many old few a n f g p i j k l = f p i j k l

block-high : (moves : Bool) (unit new many old few len pos : ℕ) → cond moves (new + unit * many) pos ≤ len → old + unit * few ≤ len →
    cond moves new old + unit * cond moves many few ≤ len
block-high true unit new many old few len pos f g = f
block-high false unit new many old few len pos f g = g

-- the index block moves behind the data and the name block, the name block behind the data
blocks-apart : (i n : Bool) (index slots more names segments most start end : ℕ) → index + 32 * slots ≤ start → names + 64 * segments ≤ start → start ≤ end →
    Apart index (32 * slots) names (64 * segments) →
    Apart (cond i (aligned (cond n (aligned end + 64 * most) end)) index) (32 * cond i more slots) (cond n (aligned end) names) (64 * cond n most segments)
blocks-apart true true index slots more names segments most start end f g h a p b c d e = omega arith
blocks-apart true false index slots more names segments most start end f g h a p b c d e = omega arith
blocks-apart false true index slots more names segments most start end f g h a p b c d e = omega arith
blocks-apart false false index slots more names segments most start end f g h a p b c d e = a p b c d e

module _ (v : View) (rs : List Row) (p : Plan) (plan : Planned v rs p) (fits : final_position p ≤ v.layout.len) (small : v.layout.len ≤ greatest_length) where
  pub blocks-after : Blocks v.layout → Blocks (layout_after v p)
  blocks-after b =
      let l : Layout = v.layout in
      let low : 256 ≤ data_end p = omega (arith, plan.room.header, end_more p.body p.start) in
      record {
        index_low = chosen (λ k. 256 ≤ k) p.index_moves (index_start p) l.index (omega (arith, positions p, low)) (λ e. b.index_low);
        index_high = block-high p.index_moves 32 (index_start p) p.slots l.index l.slots l.len (names_done p) fits b.index_high;
        namelist_low = chosen (λ k. 256 ≤ k) p.names_move (names_start p) l.namelist (omega (arith, low)) (λ e. b.namelist_low);
        namelist_high = block-high p.names_move 64 (names_start p) p.segments l.namelist l.segments l.len (data_end p)
            (omega (arith, positions p)) b.namelist_high;
        apart = blocks-apart p.index_moves p.names_move l.index l.slots p.slots l.namelist l.segments p.segments p.start (data_end p)
            plan.room.index plan.room.names (end_more p.body p.start) b.apart;
      }

  -- an entry whose chunk ends with the data or before, apart from the blocks, is sound with the blocks as they then lie
  sound-after : (names : ℕ) (e : Entry) → 256 ≤ e.location → known v.layout.version e.kind ≡ true → e.id < names → e.frame ≤ greatest_frame →
      e.location + chunk_size e ≤ data_end p →
      Apart e.location (chunk_size e) v.layout.index (32 * v.layout.slots) →
      Apart e.location (chunk_size e) v.layout.namelist (64 * v.layout.segments) → Sound (layout_after v p) names e
  sound-after names e low typed id early high off_index off_names =
      let l : Layout = v.layout in
      record {
        low = low;
        high = omega (arith, positions p);
        typed = typed;
        named = id;
        within = omega (arith, positions p);
        off_index = apart-block p.index_moves 32 (index_start p) p.slots l.index l.slots e.location (chunk_size e) off_index
            (omega (arith, positions p));
        off_names = apart-block p.names_move 64 (names_start p) p.segments l.namelist l.segments e.location (chunk_size e) off_names (omega arith);
        early = early;
      }

  pub old-after : AllSound v.layout (length v.names) v.entries → AllSound (layout_after v p) (length (names_after v p)) v.entries
  old-after all i l =
      let s : Sound v.layout (length v.names) (get_or v.entries i none) = all i l in
      sound-after (length (names_after v p)) (get_or v.entries i none) s.low s.typed (omega (arith, length-append v.names p.fresh)) s.early
      (omega (arith, plan.room.chunks i l, end_more p.body p.start)) s.off_index s.off_names

  pub new-after : frames_of v.entries ≤ greatest_frame → RowsOk v.layout.version rs → AllSound (layout_after v p) (length (names_after v p)) p.entries
  new-after f ok j l =
      let s : NewSound v p (get_or p.entries j none) = new-sound v rs p plan ok j l in
      sound-after (length (names_after v p)) (get_or p.entries j none) s.low s.typed s.id (omega (arith, s.frame)) s.high
      (λ q a b c d. omega (arith, plan.room.index)) (λ q a b c d. omega (arith, plan.room.names))

-- An accepted append is ready to be stored

pub record Ready (v : View) (rs : List Row) (p : Plan) : Type 0 where
  pub plan : Planned v rs p
  pub even_index : v.layout.index % 8 ≡ 0
  pub even_names : v.layout.namelist % 8 ≡ 0
  pub even_body : Each (λ b. length b % 8 ≡ 0) p.body
  pub fits : final_position p ≤ v.layout.len
  pub small : v.layout.len ≤ greatest_length
  -- names: the new ones are names, and no two of all are equal
  pub named : Each Named p.fresh
  pub few_names : length (names_after v p) ≤ most_names
  pub distinct : Distinct (names_after v p)
  -- entries: there is a new one, each is sound and fits its bytes, and all are in order
  pub some : 0 < length p.entries
  pub new : (j : ℕ) → j < length p.entries → NewSound v p (get_or p.entries j none)
  pub exact : (j : ℕ) → j < length p.entries → Fits (get_or p.entries j none)
  pub ordered : Ordered 0 (entries_after v p)
  pub rising : Rising 0 p.entries
  pub frames : frames_of (entries_after v p) ≡ frames_of v.entries + 1
  -- the blocks as they lie afterwards, and all entries with them
  pub blocks : Blocks (layout_after v p)
  pub sound : AllSound (layout_after v p) (length (names_after v p)) (entries_after v p)

-- an image that opens has at most one frame more than the greatest number of one; with 31 the new frame is no greater
new-early : (x : List ℕ) → Opens x → (frames_of (entries_of x) ≡ greatest_frame + 1 → ⊥) → frames_of (entries_of x) ≤ greatest_frame
new-early x o n = omega (arith, frames-most (entries_of x) 0 greatest_frame (omega arith) (λ i l. (o.sound i l).early))

names-distinct : (x : List ℕ) → Opens x → Distinct (names_of x)
names-distinct x o = (names-pass x (layout_of x) (names_of x) o.names).2

-- 15 in 2.x: the keys rise
pub opens-ordered : (x : List ℕ) → Opens x → v10 (layout_of x).version ≡ false → Ordered 0 (entries_of x)
unfolding least_of
opens-ordered x o r = (arranged-ordered (entries_of x) (layout_of x).version [] r).0 o.arranged

pub ready : (x : List ℕ) (rs : List Row) → Valid x rs → Ready (view_of x) rs (plan_of (view_of x) rs)
unfolding view_of layout_of
ready x rs ok =
    let v : View = view_of x in
    let p : Plan = plan_of v rs in
    let plan : Planned v rs p = planned v rs in
    let opens : Opens x = (verdict-zero x).0 ok.opens in
    let small : length x ≤ greatest_length = opens.front.high in
    let fresh : p.fresh ≡ new_names (names_of x) rs = plan.fresh in
    let names : length (names_after v p) ≤ most_names = rw (fresh, length-append) ok.few_names in
    let early : frames_of (entries_of x) ≤ greatest_frame = new-early x opens ok.early in
    let new : ((j : ℕ) → j < length p.entries → NewSound v p (get_or p.entries j none)) = new-sound v rs p plan ok.rows in
    let some : 0 < length p.entries = omega (arith, entries-count v rs p plan, ok.some) in
    let end : ℕ = length p.entries - 1 in
    let few : length (names_of x) ≤ 65536 = omega (arith, length-append (names_of x) p.fresh) in
    let ids : ShortIds (entries_of x) = sound-ids (entries_of x) (layout_of x) (length (names_of x)) few opens.sound in
    let Fine : (Entry → Type 0) = Sound (layout_after v p) (length (names_after v p)) in
    record {
      plan = plan;
      even_index = ok.even_index;
      even_names = ok.even_names;
      even_body = body-even v rs p plan;
      fits = ok.fits;
      small = small;
      named = new-named v rs p plan ok.rows;
      few_names = names;
      distinct = rw fresh (all-distinct (names_of x) rs (names-distinct x opens) ok.distinct);
      some = some;
      new = new;
      exact = new-fits v rs p plan ok.rows (omega arith) (omega (arith, positions p, ok.fits)) (omega arith);
      ordered = ordered-append (entries_of x) p.entries 0 0 (opens-ordered x opens ok.recent) ids (omega arith)
          (new-ordered v rs p plan ok.rows ok.distinct);
      rising = new-rising v rs p plan ok.rows ok.distinct;
      frames = frames-grown 0 0 (entries_of x) p.entries some ∙ frames-last 0 p.entries end (omega arith) ∙ ap (λ f. f + 1) (new end (omega arith)).frame;
      blocks = blocks-after v rs p plan ok.fits small opens.blocks;
      sound = each_at Fine (entries_of x ++ p.entries) none (each_append Fine (entries_of x) p.entries
          (at_each Fine (entries_of x) none (old-after v rs p plan ok.fits small opens.sound))
          (at_each Fine p.entries none (new-after v rs p plan ok.fits small early ok.rows)));
    }
