-- The plan, when the new names are placed and the numbers put: it matches the append.
use Prim.Native.Nat.{ℕ, ◌+◌, ◌*◌, ◌-◌, ◌^◌, ◌≤◌, ◌<◌}
use mathlib.Core.Path.{◌≡◌, sym, ◌∙◌, ap}
use mathlib.Core.List.{List, [], ◌∷◌, ◌++◌}
use native.Mathlib.Nat.{add-zero}
use native.Mathlib.Numerals.{add-one}
use native.Mathlib.Omega.{arith}
use lib.ListN.{length, get_or, set, take, length-append}
use Rattle.gsd_format.specs.Bytes.{stored}
use Rattle.gsd_format.specs.Header.{aligned}
use Rattle.gsd_format.specs.Names.{flat, index_of}
use Rattle.gsd_format.specs.Lookup.{none}
use Rattle.gsd_format.proofs.Bytes.{stored-length, stored-below, stored-inside}
use Rattle.gsd_format.proofs.Names.{flat-sizes}
use Rattle.gsd_stores.specs.View.{View, view_of, index_end, namelist_end}
use Rattle.gsd_stores.specs.Sheet.{Row, row_count, rows_of, row_at, name_at}
use Rattle.gsd_stores.specs.Plan.{Plan, new_names, bodies, end_from}
use Rattle.gsd_stores.specs.Steps.{name_block}
use Rattle.gsd_stores.specs.Demand3.{no_row}
use Rattle.gsd_stores.proofs.Sheet.{row_from, rows-count, row-at}
use Rattle.gsd_stores.proofs.Rows.{all-has}
use Rattle.gsd_stores.proofs.Plan.{Planned, row_entry, entries-count}
use Rattle.gsd_open.specs.declared.survey.Survey.{Survey}
use Rattle.gsd_sheet.specs.Columns.{slot_pair, new_row, Kept}
use Rattle.gsd_sheet.proofs.Columns.{kept_trans, kept_less}
use Rattle.gsd_ids.specs.declared.NewNames.{NewNames}
use Rattle.gsd_ids.specs.RowIds.{RowNamed, order}
use Rattle.gsd_ids.proofs.RowIds.{order-at}
use Rattle.gsd_places.specs.declared.Sites.{Sites}
use Rattle.gsd_places.specs.Places.{DataPlaced, name_offset, NamesPlaced}
use Rattle.gsd_steps.specs.Steps.{slot_row, slot_id}
use Rattle.gsd_matched.specs.Matches.{NumbersMatch, DataMatch, NameMatch, EntryMatch, Matches}
use Rattle.gsd_plan.specs.Planning.{planned, Sees, Asked, block_at, numbers_of}
use Rattle.gsd_plan.proofs.Image.{seen-room}
use Rattle.gsd_plan.proofs.AskedRows.{ready, plan as plan-is, few as few-rows, fresh-are, few-fresh, named as row_named, new-row}
use Rattle.gsd_plan.proofs.Sited.{Sited, begins, sites-are, same-offset}
use Rattle.gsd_plan.proofs.RowPlaces.{data-position, name-offset}
use Rattle.gsd_plan.proofs.SitesMatch.{sites-segments, sites-slots, sites-index, name-block, index-block}
use Rattle.gsd_plan.proofs.EntryOrder.{Pair, pair-at, entry_at}

-- numbers put behind numbers
pub put-more : (l : List ℕ) (i : ℕ) (a b : List ℕ) → stored (stored l i a) (i + length a) b ≡ stored l i (a ++ b)
unfolding stored
put-more l i [] b = ap (λ k. stored l k b) (add-zero i)
put-more l i (x ∷ a) b = ap (λ k. stored (stored (set l i x) (i + 1) a) k b) (omega arith) ∙ put-more (set l i x) (i + 1) a b

module _ {x sheet : List ℕ} {s : Survey} {c : List ℕ} {new : NewNames} {rows start position : ℕ} {c₁ : List ℕ} {sites : Sites}
    (h : Sited x sheet s c new rows start position c₁ sites)
    (block : ℕ) (chosen : block ≡ block_at sites.segments sites.names_at s.layout.namelist) (c₂ : List ℕ)
    (laid : NamesPlaced c₁ new.count (block + (s.names.list_end - s.layout.namelist)) c₂)
    (c₃ : List ℕ) (put : c₃ ≡ stored c₂ 385 (numbers_of s sites rows new.count)) where
  abbrev v : View
  v = view_of x

  abbrev rs : List Row
  rs = rows_of sheet

  abbrev d : Plan
  d = planned x sheet

  abbrev fresh : List (List ℕ)
  fresh = new_names v.names rs

  abbrev see : Sees x s
  see = h.data-placed.see

  abbrev ask : Asked x sheet c new
  ask = h.data-placed.ask

  abbrev places : DataPlaced c rows start position c₁
  places = h.data-placed.places

  plan : Planned v rs d
  plan = plan-is see ask

  few : length rs ≤ 64
  few = few-rows see ask

  few-rows-counted : row_count sheet ≤ 64
  few-rows-counted = (ready see ask).few

  few-new : length fresh ≤ 64
  few-new = few-fresh see ask

  named : (j : ℕ) → j < length fresh → RowNamed rs (length rs) (new_row c j) (get_or fresh j [])
  named = row_named see ask

  -- what stands in the columns stays

  kept₃ : Kept 385 c₂ c₃
  kept₃ = rw put (record { long = stored-length c₂ 385 _; at = stored-below c₂ 385 _ })

  kept₂ : Kept 321 c₁ c₃
  kept₂ = kept_trans laid.kept (kept_less kept₃ (omega arith))

  kept : Kept 257 c c₃
  kept = kept_trans places.kept (kept_less kept₂ (omega arith))

  number : (k : ℕ) → k < 14 → get_or c₃ (385 + k) 0 ≡ get_or (numbers_of s sites rows new.count) k 0
  number k l = rw put (stored-inside c₂ 385 _ k (omega (arith, laid.kept.long, places.kept.long, ask.long)) l)

  numbers-match : NumbersMatch v sheet d c₃
  numbers-match = record {
    rows = number 0 (omega arith) ∙ h.data-placed.counted ∙ sym (rows-count sheet);
    fresh = number 1 (omega arith) ∙ fresh-are see ask ∙ ap length (sym plan.fresh);
    frame = number 2 (omega arith) ∙ see.frames;
    slot = number 3 (omega arith)
        ∙ (λ i. block_at (sites-are h i).slots (sites-are h i).index_at (see.layout i).index + 32 * see.entries i)
        ∙ ap (λ b. b + 32 * length v.entries) (index-block v rs);
    index = number 4 (omega arith) ∙ ap (λ l. l.index) see.layout;
    entries_ends = number 5 (omega arith) ∙ (λ i. (see.layout i).index + 32 * see.entries i);
    index_ends = number 6 (omega arith) ∙ ap index_end see.layout;
    namelist = number 7 (omega arith) ∙ ap (λ l. l.namelist) see.layout;
    names_ends = number 8 (omega arith) ∙ see.list_end;
    namelist_ends = number 9 (omega arith) ∙ ap namelist_end see.layout;
    names_at = number 10 (omega arith) ∙ ap (λ q. q.names_at) (sites-are h);
    segments = number 11 (omega arith) ∙ ap (λ q. q.segments) (sites-are h) ∙ sites-segments v rs;
    index_at = number 12 (omega arith) ∙ ap (λ q. q.index_at) (sites-are h) ∙ sites-index v rs;
    slots = number 13 (omega arith) ∙ ap (λ q. q.slots) (sites-are h) ∙ sites-slots v rs;
  }

  data-match : (i : ℕ) → i < length rs → DataMatch sheet d c₃ i
  data-match i l =
      let m : i < row_count sheet = rw (rows-count sheet) at l in
      record {
        to = kept₂.at (257 + i) (omega (arith, few)) ∙ places.to.at i (omega (arith, h.data-placed.counted))
            ∙ ap aligned (data-position ask.located start i (omega arith) ∙ ap (λ n. end_from n (bodies (take i rs))) (begins h.data-placed));
        from = kept.at (65 + i) (omega (arith, few)) ∙ ask.located.body.at i m;
        until = kept.at (0 + (i + 1)) (omega (arith, few)) ∙ ask.located.name.at (i + 1) (omega arith) ∙ ap (name_at sheet) (add-one i);
      }

  name-match : (j : ℕ) → j < length d.fresh → NameMatch v sheet d c₃ j
  name-match j l =
      let m : j < length fresh = omega (arith, ap length plan.fresh) in
      let row : new_row c₃ j ≡ new_row c j = kept.at (193 + j) (omega (arith, few-new)) in
      let at : new_row c j < row_count sheet = new-row see ask j m in
      let spot : block + (s.names.list_end - s.layout.namelist) + name_offset c₁ j ≡ name_block v d + length (flat (v.names ++ take j d.fresh))
      = omega (
        arith,
        chosen ∙ (λ i. block_at (sites-are h i).segments (sites-are h i).names_at (see.layout i).namelist) ∙ name-block v rs,
        see.list_end,
        ap (λ y. y.namelist) see.layout,
        same-offset h.data-placed j (omega arith),
        name-offset ask.located fresh named j (omega arith),
        ap (λ ns. length (flat (take j ns))) plan.fresh,
        flat-sizes v.names (take j d.fresh),
      ) in
      record {
        row = omega (arith, row, at, rows-count sheet);
        name = ap (λ ns. get_or ns j []) plan.fresh ∙ sym (named j m).named ∙ ap (λ r. (get_or rs r no_row).name) (sym row);
        to = kept₃.at (321 + j) (omega (arith, few-new)) ∙ laid.to.at j (omega (arith, fresh-are see ask)) ∙ spot;
        from = rw row (kept.at (0 + new_row c j) (omega (arith, few-rows-counted)) ∙ ask.located.name.at (new_row c j) (omega arith));
        until = rw row (kept.at (65 + new_row c j) (omega (arith, few-rows-counted)) ∙ ask.located.body.at (new_row c j) at);
      }

  -- the pair of slot k, and the entry of its row
  module _ (k : ℕ) (l : k < length rs) where
    pair_is : slot_pair c₃ k ≡ get_or (order c) k 0
    pair_is = kept.at (129 + k) (omega (arith, few)) ∙ sym (order-at c k (omega (arith, few)))

    pair : Pair v rs d plan (ready see ask).distinct few (slot_pair c₃ k)
    pair =
        rw pair_is (pair-at v rs d plan (ready see ask).distinct few ask.found.packed (order c) ask.found.pairs
        (omega (arith, few, ask.found.long)) ask.found.sorted k l)

    entry : get_or d.entries k none ≡ row_entry v rs d (slot_row c₃ k)
    entry =
        rw pair_is (entry_at v rs d plan (ready see ask).distinct few ask.found.packed (order c) ask.found.pairs
        (omega (arith, few, ask.found.long)) ask.found.sorted k l)

    -- ids are below the number of all names
    id-small : slot_id c₃ k < 65536
    id-small =
        let e : slot_id c₃ k ≡ index_of (get_or rs (slot_row c₃ k) no_row).name (v.names ++ fresh) =
        pair.id ∙ ap (λ f. index_of (get_or rs (slot_row c₃ k) no_row).name (v.names ++ f)) plan.fresh in
        omega (
          arith,
          e,
          all-has v.names rs (slot_row c₃ k) pair.row,
          length-append v.names fresh,
          (seen-room x _ see).few_names,
          few-new,
        )

    row_is : get_or rs (slot_row c₃ k) no_row ≡ row_from sheet (row_at (slot_row c₃ k)) (name_at sheet (slot_row c₃ k))
    row_is = row-at sheet (slot_row c₃ k) (rw (rows-count sheet) at pair.row)

    entry-match : EntryMatch sheet c₃ k (get_or d.entries k none)
    entry-match = rw entry (record {
      row = pair.row;
      small = id-small;
      n = sym (ap (λ w. w.n) row_is);
      meta = λ i. (sym row_is i).m + 2 ^ 32 * pair.id i + 2 ^ 48 * (sym row_is i).kind;
      location = (data-match (slot_row c₃ k) pair.row).to;
    })

  pub matches : Matches v sheet d c₃
  matches = record {
    long = kept.long ∙ ask.long;
    numbers = numbers-match;
    bodies = data-match;
    names = name-match;
    entries = λ k l. entry-match k (omega (arith, entries-count v rs d plan));
  }
