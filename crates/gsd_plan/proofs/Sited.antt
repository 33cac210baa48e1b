-- What the planner has found when the data are placed, and when the sites of the blocks are: 29 or room, and what the rest needs.
use Prim.Native.Nat.{ℕ, zero, suc, ◌+◌, ◌*◌, ◌-◌, ◌≤◌, ◌<◌, max}
use mathlib.Core.Path.{◌≡◌, refl, sym, ◌∙◌, ap}
use mathlib.Core.Bool.{Bool, true, false, cond}
use mathlib.Core.List.{List}
use native.Mathlib.Omega.{arith}
use lib.ListN.{length}
use lib.Dec.{ltb, eqb}
use borrow.Author.Tests.{lt-ltb, le-ltb}
use Rattle.gsd_format.specs.Header.{greatest_length, aligned}
use Rattle.gsd_format.specs.Names.{flat}
use Rattle.gsd_format.proofs.Bytes.{Octets}
use Rattle.gsd_format.proofs.Refusals.{met, passed}
use Rattle.gsd_stores.specs.View.{View, view_of, end_of_use, index_end, namelist_end}
use Rattle.gsd_stores.specs.Sheet.{Row, row_count, rows_of}
use Rattle.gsd_stores.specs.Plan.{Plan, plan_of, new_names, end_from, data_end, final_position}
use Rattle.gsd_stores.specs.Append.{room_test}
use Rattle.gsd_stores.proofs.Sheet.{rows-count}
use Rattle.gsd_stores.proofs.Plan.{entries-count, positions}
use Rattle.gsd_open.specs.declared.survey.Survey.{Survey}
use Rattle.gsd_sheet.specs.Columns.{name_from, data_from, new_row}
use Rattle.gsd_sheet.proofs.Rows.{located-room}
use Rattle.gsd_ids.specs.declared.NewNames.{NewNames}
use Rattle.gsd_places.specs.declared.Sites.{Sites}
use Rattle.gsd_places.specs.Places.{data_end_at, DataPlaced, NamesLaid, name_offset}
use Rattle.gsd_places.specs.Sites.{sites_of}
use Rattle.gsd_plan.specs.Planning.{planned, Sees, Asked, block_at, Countable}
use Rattle.gsd_plan.proofs.Image.{seen-room, view-length, use-found}
use Rattle.gsd_plan.proofs.AskedRows.{ready, plan, within, fresh-are, few-fresh, new-row, short}
use Rattle.gsd_plan.proofs.RowPlaces.{data-ends}
use Rattle.gsd_plan.proofs.SitesMatch.{all_bytes, all_entries, planned_sites, sites-index, sites-last}

below : (m : Bool) (a b n : ℕ) → a < n → b < n → cond m a b < n
below true a b n h g = h
below false a b n h g = g

-- the rows' data are placed from the end of use on
pub record Placed (x sheet : List ℕ) (s : Survey) (c : List ℕ) (new : NewNames) (rows start position : ℕ) (c₁ : List ℕ) : Type 0 where
  pub see : Sees x s
  pub ask : Asked x sheet c new
  pub counted : rows ≡ row_count sheet
  pub started : start ≡ end_of_use (view_of x)
  pub places : DataPlaced c rows start position c₁

pub placed : {x sheet : List ℕ} {s : Survey} {c : List ℕ} {new : NewNames} {rows start position : ℕ} {c₁ : List ℕ} →
    Sees x s × Asked x sheet c new → rows ≡ row_count sheet →
    start ≡ aligned (max 256 (max (index_end s.layout) (max (namelist_end s.layout) s.chunks_end))) →
    DataPlaced c rows start position c₁ → Placed x sheet s c new rows start position c₁
placed {x} {s = s} h e f p = record { see = h.0; ask = h.1; counted = e; started = use-found x s h.0 _ f; places = p }

-- and the sites of the blocks are found
pub record Sited (x sheet : List ℕ) (s : Survey) (c : List ℕ) (new : NewNames) (rows start position : ℕ) (c₁ : List ℕ) (sites : Sites) : Type 0 where
  pub data-placed : Placed x sheet s c new rows start position c₁
  pub found : sites ≡ sites_of s.layout position (s.names.list_end - s.layout.namelist + new.size) (s.entries + rows)

pub sited : {x sheet : List ℕ} {s : Survey} {c : List ℕ} {new : NewNames} {rows start position : ℕ} {c₁ : List ℕ} {sites : Sites} →
    Placed x sheet s c new rows start position c₁ →
    sites ≡ sites_of s.layout position (s.names.list_end - s.layout.namelist + new.size) (s.entries + rows) →
    Sited x sheet s c new rows start position c₁ sites
sited p f = record { data-placed = p; found = f }

module _ {x sheet : List ℕ} {s : Survey} {c : List ℕ} {new : NewNames} {rows start position : ℕ} {c₁ : List ℕ}
    (h : Placed x sheet s c new rows start position c₁) where
  abbrev v : View
  v = view_of x

  abbrev rs : List Row
  rs = rows_of sheet

  abbrev d : Plan
  d = planned x sheet

  pub begins : start ≡ d.start
  unfolding plan_of
  begins = h.started

  position-is : position ≡ data_end d
  position-is =
      h.places.ends ∙ ap (data_end_at c start) h.counted ∙ data-ends h.ask.located start
      ∙ (λ i. end_from (begins i) (sym (plan h.see h.ask).body i))

  -- 29 already, if the data don't fit
  pub data-long : length x < position → room_test x sheet ≡ 29
  data-long l =
      met (ltb v.layout.len (final_position d)) 29
      (lt-ltb v.layout.len (final_position d) (omega (arith, position-is, positions d, view-length x)))

module _ {x sheet : List ℕ} {s : Survey} {c : List ℕ} {new : NewNames} {rows start position : ℕ} {c₁ : List ℕ} {sites : Sites}
    (h : Sited x sheet s c new rows start position c₁ sites) where
  abbrev see : Sees x s
  see = h.data-placed.see

  abbrev ask : Asked x sheet c new
  ask = h.data-placed.ask

  abbrev bytes : ℕ
  bytes = s.names.list_end - s.layout.namelist + new.size

  bytes-are : bytes ≡ all_bytes (view_of x) (planned x sheet)
  bytes-are = omega (
    arith,
    see.list_end,
    ap (λ l. l.namelist) see.layout,
    ask.found.size,
    ap (λ ns. length (flat ns)) (plan see ask).fresh,
  )

  entries-are : s.entries + rows ≡ all_entries (view_of x) (planned x sheet)
  entries-are = omega (arith, see.entries, h.data-placed.counted, rows-count sheet, entries-count (view_of x) (rows_of sheet) (planned x sheet) (plan see ask))

  pub sites-are : sites ≡ planned_sites (view_of x) (planned x sheet)
  sites-are = h.found ∙ λ i. sites_of (see.layout i) (position-is h.data-placed i) (bytes-are i) (entries-are i)

  last-is : sites.last ≡ final_position (planned x sheet)
  last-is = ap (λ q. q.last) sites-are ∙ sites-last (view_of x) (rows_of sheet)

  pub sites_long : length x < sites.last → room_test x sheet ≡ 29
  sites_long l =
      met (ltb (view_of x).layout.len (final_position (planned x sheet))) 29
      (lt-ltb (view_of x).layout.len (final_position (planned x sheet)) (omega (arith, last-is, view-length x)))

  pub room-met : sites.last ≤ length x → room_test x sheet ≡ 0
  room-met l =
      passed (ltb (view_of x).layout.len (final_position (planned x sheet))) 29
      (le-ltb (view_of x).layout.len (final_position (planned x sheet)) (omega (arith, last-is, view-length x)))

  -- with room for all, every place is small
  module _ (fits : sites.last ≤ length x) where
    long : length x ≤ greatest_length
    long = omega (arith, (seen-room x _ see).long, view-length x)

    names-small : sites.names_at < 1152921504606846976
    names-small = omega (arith, ap (λ q. q.names_at) sites-are, positions (planned x sheet), last-is, long)

    index-small : sites.index_at < 1152921504606846976
    index-small = omega (arith, ap (λ q. q.index_at) sites-are, sites-index (view_of x) (rows_of sheet), positions (planned x sheet), last-is, long)

    pub countable : Countable s sites
    countable = record { index = (within see ask).index; names = (within see ask).names; entries = (within see ask).entries; index_at = index-small }

    pub first_small : (block : ℕ) → block ≡ block_at sites.segments sites.names_at s.layout.namelist →
        block + (s.names.list_end - s.layout.namelist) < 4611686018427387904
    first_small block e = omega (
      arith,
      below (eqb sites.segments 0) s.layout.namelist sites.names_at 1152921504606846976 (omega (arith, (within see ask).names)) names-small,
      (within see ask).high,
      (within see ask).names,
    )

-- The new names, when the data are placed

module _ {x sheet : List ℕ} {s : Survey} {c : List ℕ} {new : NewNames} {rows start position : ℕ} {c₁ : List ℕ}
    (h : Placed x sheet s c new rows start position c₁) where
  abbrev fresh : List (List ℕ)
  fresh = new_names (view_of x).names (rows_of sheet)

  few-new : length fresh ≤ 64
  few-new = few-fresh h.see h.ask

  row_small : (j : ℕ) → j < length fresh → new_row c j < 64
  row_small j l = omega (arith, new-row h.see h.ask j l, (ready h.see h.ask).few)

  kept_row : (j : ℕ) → j < length fresh → new_row c₁ j ≡ new_row c j
  kept_row j l = h.places.kept.at (193 + j) (omega (arith, few-new))

  kept-name : (j : ℕ) → j < length fresh → name_from c₁ (new_row c₁ j) ≡ name_from c (new_row c j)
  kept-name j l = ap (name_from c₁) (kept_row j l) ∙ h.places.kept.at (0 + new_row c j) (omega (arith, row_small j l))

  kept-data : (j : ℕ) → j < length fresh → data_from c₁ (new_row c₁ j) ≡ data_from c (new_row c j)
  kept-data j l = ap (data_from c₁) (kept_row j l) ∙ h.places.kept.at (65 + new_row c j) (omega (arith, row_small j l))

  -- so their offsets are the same
  pub same-offset : (j : ℕ) → j ≤ length fresh → name_offset c₁ j ≡ name_offset c j
  unfolding name_offset
  same-offset zero l = refl
  same-offset (suc j) l =
      let m : j < length fresh = omega arith in
      λ i. same-offset j (omega arith) i + (kept-data j m i - kept-name j m i) + 1

  pub names-laid : Octets sheet → NamesLaid c₁ new.count
  names-laid octets = record {
    few = omega (arith, fresh-are h.see h.ask, few-new);
    row = λ j l. let k : j < length fresh = omega (arith, fresh-are h.see h.ask) in omega (arith, kept_row j k, row_small j k);
    name = λ j l.
        let k : j < length fresh = omega (arith, fresh-are h.see h.ask) in
        omega (arith, kept-name j k, kept-data j k, (located-room h.ask.located (new_row c j) (new-row h.see h.ask j k)).0);
    short = λ j l.
        let k : j < length fresh = omega (arith, fresh-are h.see h.ask) in
        omega (arith, kept-name j k, kept-data j k, short h.see h.ask octets j k);
  }

-- where the first new entry goes can be computed
pub slot_small : (s : Survey) (sites : Sites) → Countable s sites → (block : ℕ) → block ≡ block_at sites.slots sites.index_at s.layout.index →
    block + 32 * s.entries < 4611686018427387904
slot_small s sites h block e = omega (
  arith,
  below (eqb sites.slots 0) s.layout.index sites.index_at 1152921504606846976 (omega (arith, h.index)) h.index_at,
  h.index,
  h.entries,
)
