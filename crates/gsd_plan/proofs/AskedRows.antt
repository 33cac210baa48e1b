-- The rows that an accepted sheet asks for: where they lie, and which of their names are new.
use Prim.Native.Nat.{ℕ, ◌+◌, ◌-◌, ◌≤◌, ◌<◌}
use mathlib.Core.Path.{◌≡◌, ap}
use mathlib.Core.List.{List, []}
use native.Mathlib.Omega.{arith}
use lib.ListN.{length, get_or}
use lib.Seq.{take-length}
use Rattle.gsd_format.specs.Names.{flat}
use Rattle.gsd_format.proofs.Bytes.{Octets}
use Rattle.gsd_stores.specs.Stores.{half}
use Rattle.gsd_stores.specs.View.{View, view_of}
use Rattle.gsd_stores.specs.Sheet.{Row, row_count, rows_of, row_at}
use Rattle.gsd_stores.specs.Plan.{Plan, new_names}
use Rattle.gsd_stores.proofs.Sheet.{Accepted, accepted, rows-count}
use Rattle.gsd_stores.proofs.Rows.{new-names, new-few}
use Rattle.gsd_stores.proofs.Plan.{Planned, planned as plan-is}
use Rattle.gsd_open.specs.declared.survey.Survey.{Survey}
use Rattle.gsd_sheet.specs.Columns.{name_from, data_from, new_row}
use Rattle.gsd_ids.specs.declared.NewNames.{NewNames}
use Rattle.gsd_ids.specs.RowIds.{RowNamed}
use Rattle.gsd_places.specs.Places.{Laid}
use Rattle.gsd_places.proofs.Places.{offset-small}
use Rattle.gsd_plan.specs.Planning.{planned, Sees, Asked}
use Rattle.gsd_plan.proofs.Image.{seen-room, view-length, Within, seen-within}
use Rattle.gsd_plan.proofs.RowPlaces.{located-laid, row_within, name-offset}

module _ {x sheet : List ℕ} {s : Survey} {c : List ℕ} {new : NewNames} (see : Sees x s) (ask : Asked x sheet c new) where
  abbrev v : View
  v = view_of x

  abbrev rs : List Row
  rs = rows_of sheet

  abbrev d : Plan
  d = planned x sheet

  pub ready : Accepted v.layout.version sheet
  ready = accepted _ sheet ask.accepted

  pub plan : Planned v rs d
  plan = plan-is v rs

  pub within : Within s
  within = seen-within x s see

  pub few : length rs ≤ 64
  few = omega (arith, rows-count sheet, ready.few)

  pub sheet-long : 4 ≤ length sheet
  sheet-long = ready.long

  pub rows-laid : (rows : ℕ) → rows ≡ row_count sheet → length sheet ≤ half → Laid c rows
  rows-laid rows e h = rw e (located-laid ask.located h)

  -- the new names
  abbrev fresh : List (List ℕ)
  fresh = new_names v.names rs

  pub fresh-are : new.count ≡ length fresh
  fresh-are = ask.found.fresh

  pub few-fresh : length fresh ≤ 64
  few-fresh = omega (arith, new-few (new-names v.names rs), few)

  pub named : (j : ℕ) → j < length fresh → RowNamed rs (length rs) (new_row c j) (get_or fresh j [])
  named j l = ask.found.rows j (omega (arith, fresh-are))

  pub new-row : (j : ℕ) → j < length fresh → new_row c j < row_count sheet
  new-row = row_within ask.located fresh named

  module _ (octets : Octets sheet) where
    pub short : (j : ℕ) → j < length fresh → data_from c (new_row c j) < name_from c (new_row c j) + 256
    short j l =
        let row : ℕ = new_row c j in
        omega (arith, ask.located.name.at row (omega (arith, new-row j l)), ask.located.body.at row (new-row j l), octets (row_at row + 13))

    pub size_small : new.size ≤ 16384
    size_small = omega (
      arith,
      ask.found.size,
      name-offset ask.located fresh named (length fresh) (omega arith),
      ap (λ ns. length (flat ns)) (take-length fresh),
      offset-small c (length fresh) short (length fresh) (omega arith),
      few-fresh,
    )

  pub bytes_small : Octets sheet → s.names.list_end - s.layout.namelist + new.size < 1099511627776
  bytes_small octets = omega (arith, within.high, within.names, size_small octets)

  pub entries-small : (rows : ℕ) → rows ≡ row_count sheet → s.entries + rows < 1099511627776
  entries-small rows e = omega (arith, within.entries, within.index, ready.few)

  pub sites-need : (rows : ℕ) → rows ≡ row_count sheet → (position : ℕ) → position ≤ length x → Octets sheet →
      (position < 1152921504606846976) × ((s.names.list_end - s.layout.namelist + new.size < 1099511627776)
      × ((s.entries + rows < 1099511627776) × ((s.layout.slots < 1099511627776) × (s.layout.segments < 1099511627776))))
  sites-need rows e position h octets = (
    omega (arith, (seen-room x _ see).long, view-length x),
    (bytes_small octets, (entries-small rows e, (omega (arith, within.index), omega (arith, within.names)))),
  )
