-- How data and new names get their places, one after the other.
use Prim.Native.Nat.{ℕ, zero, suc, ◌+◌, ◌*◌, ◌-◌, ◌/◌, ◌≤◌, ◌<◌}
use mathlib.Core.Path.{◌≡◌, refl, ◌∙◌, ap}
use mathlib.Core.List.{List}
use native.Mathlib.Numerals.{add-one}
use native.Mathlib.Omega.{arith}
use lib.ListN.{length, set}
use Rattle.gsd_format.specs.Bytes.{round_up}
use Rattle.gsd_format.specs.Header.{aligned}
use Rattle.gsd_stores.specs.Stores.{half}
use Rattle.gsd_sheet.specs.Columns.{plan_words, name_from, data_from, new_row, Filled, Kept}
use Rattle.gsd_sheet.proofs.Columns.{filled_none, filled_more, filled-to, kept-none, kept_more}
use Rattle.gsd_places.specs.Places.{Laid, data_end_at, DataPlaced, NamesLaid, name_offset, NamesPlaced}

-- Data

pub end_none : (c : List ℕ) (start : ℕ) → data_end_at c start 0 ≡ start
unfolding data_end_at
end_none c start = refl

pub end_more : (c : List ℕ) (start i : ℕ) → data_end_at c start (i + 1) ≡ aligned (data_end_at c start i) + round_up 8 (name_from c (i + 1) - data_from c i)
unfolding data_end_at
end_more c start i = ap (data_end_at c start) (add-one i)

pub end-small : (c : List ℕ) (start count : ℕ) → Laid c count → (i : ℕ) → i ≤ count → data_end_at c start i ≤ start + name_from c i + 128 * i
unfolding data_end_at
end-small c start count h zero l = omega arith
end-small c start count h (suc i) l =
    let e : name_from c (i + 1) ≡ name_from c (suc i) = ap (name_from c) (add-one i) in
    omega (arith, end-small c start count h i (omega arith), h.name i (omega arith), h.body i (omega arith))

pub record Placing (c : List ℕ) (count start : ℕ) (c' : List ℕ) (position i : ℕ) : Type 0 where
  pub within : i ≤ count
  pub to : Filled 257 (λ k. aligned (data_end_at c start k)) c' i
  pub here : position ≡ data_end_at c start i
  pub kept : Kept 257 c c'

pub placing-none : (c : List ℕ) (count start : ℕ) → Placing c count start c start 0
placing-none c count start = record { within = omega arith; to = filled_none; here = omega (arith, end_none c start); kept = kept-none }

-- the row at hand lies where it did
module _ {c : List ℕ} {count start : ℕ} {c' : List ℕ} {position i : ℕ} (g : Placing c count start c' position i) (few : count ≤ 64) (l : i < count) where
  pub placing-from : data_from c' i ≡ data_from c i
  placing-from = g.kept.at (65 + i) (omega arith)

  pub placing-until : name_from c' (i + 1) ≡ name_from c (i + 1)
  placing-until = g.kept.at (0 + (i + 1)) (omega arith)

  -- the row's data in the sheet, and how far the position may be, before and behind them
  pub placing-room : Laid c count → (data_from c' i ≤ name_from c' (i + 1)) × ((name_from c' (i + 1) ≤ half)
      × ((position ≤ start + half + 8192) × (aligned position + round_up 8 (name_from c' (i + 1) - data_from c' i) ≤ start + half + 8192)))
  placing-room h = (
    omega (arith, placing-from, placing-until, h.body i l),
    (
      omega (arith, placing-until, h.small (i + 1) (omega arith)),
      (
        omega (arith, g.here, end-small c start count h i (omega arith), h.small i (omega arith)),
        omega (
          arith,
          g.here,
          placing-from,
          placing-until,
          end_more c start i,
          end-small c start count h (i + 1) (omega arith),
          h.small (i + 1) (omega arith),
        ),
      ),
    ),
  )

  pub placing-more : length c ≡ plan_words → (v : ℕ) → v ≡ aligned position →
      Placing c count start (set c' (257 + i) v) (v + (name_from c' (i + 1) - data_from c' i + 7) / 8 * 8) (i + 1)
  placing-more long v e = record {
    within = omega arith;
    to = filled_more g.to (omega (arith, g.kept.long)) (e ∙ ap aligned g.here);
    here = omega (arith, e, g.here, placing-from, placing-until, end_more c start i);
    kept = kept_more g.kept (257 + i) v (omega arith);
  }

pub placing-all : (c : List ℕ) (count start : ℕ) (c' : List ℕ) (position i : ℕ) → Placing c count start c' position i → count ≤ i → DataPlaced c count start position c'
placing-all c count start c' position i g l =
    let e : i ≡ count = omega (arith, g.within) in
    record { to = filled-to e g.to; ends = g.here ∙ ap (data_end_at c start) e; kept = g.kept }

-- New names

pub offset-none : (c : List ℕ) → name_offset c 0 ≡ 0
unfolding name_offset
offset-none c = refl

pub offset-more : (c : List ℕ) (j : ℕ) → name_offset c (j + 1) ≡ name_offset c j + (data_from c (new_row c j) - name_from c (new_row c j)) + 1
unfolding name_offset
offset-more c j = ap (name_offset c) (add-one j)

pub offset-small : (c : List ℕ) (fresh : ℕ) → ((j : ℕ) → j < fresh → data_from c (new_row c j) < name_from c (new_row c j) + 256) →
    (j : ℕ) → j ≤ fresh → name_offset c j ≤ 256 * j
unfolding name_offset
offset-small c fresh h zero l = omega arith
offset-small c fresh h (suc j) l = omega (arith, offset-small c fresh h j (omega arith), h j (omega arith))

pub record Naming (c : List ℕ) (fresh first : ℕ) (c' : List ℕ) (next j : ℕ) : Type 0 where
  pub within : j ≤ fresh
  pub to : Filled 321 (λ k. first + name_offset c k) c' j
  pub here : next ≡ first + name_offset c j
  pub kept : Kept 321 c c'

pub naming-none : (c : List ℕ) (fresh first : ℕ) → Naming c fresh first c first 0
naming-none c fresh first = record { within = omega arith; to = filled_none; here = omega (arith, offset-none c); kept = kept-none }

module _ {c : List ℕ} {fresh first : ℕ} {c' : List ℕ} {next j : ℕ} (g : Naming c fresh first c' next j) (laid : NamesLaid c fresh) (l : j < fresh) where
  pub naming-row : new_row c' j ≡ new_row c j
  naming-row = g.kept.at (193 + j) (omega (arith, laid.few))

  pub naming-small : new_row c' j < 64
  naming-small = omega (arith, naming-row, laid.row j l)

  pub naming-from : name_from c' (new_row c' j) ≡ name_from c (new_row c j)
  naming-from = g.kept.at (0 + new_row c' j) (omega (arith, naming-small)) ∙ ap (name_from c) naming-row

  pub naming-until : data_from c' (new_row c' j) ≡ data_from c (new_row c j)
  naming-until = g.kept.at (65 + new_row c' j) (omega (arith, naming-small)) ∙ ap (data_from c) naming-row

  -- the name at hand, and how far the names before it reach
  pub naming-room : (name_from c' (new_row c' j) ≤ data_from c' (new_row c' j)) × ((data_from c' (new_row c' j) < name_from c' (new_row c' j) + 256) × (next ≤ first + 16384))
  naming-room = (
    omega (arith, naming-from, naming-until, laid.name j l),
    (omega (arith, naming-from, naming-until, laid.short j l), omega (arith, g.here, offset-small c fresh laid.short j g.within, g.within, laid.few)),
  )

  pub naming-more : length c ≡ plan_words →
      Naming c fresh first (set c' (321 + j) next) (next + (data_from c' (new_row c' j) - name_from c' (new_row c' j)) + 1) (j + 1)
  naming-more long = record {
    within = omega arith;
    to = filled_more g.to (omega (arith, g.kept.long, laid.few)) g.here;
    here = omega (arith, g.here, naming-from, naming-until, offset-more c j);
    kept = kept_more g.kept (321 + j) next (omega arith);
  }

pub naming-all : (c : List ℕ) (fresh first : ℕ) (c' : List ℕ) (next j : ℕ) → Naming c fresh first c' next j → fresh ≤ j → NamesPlaced c fresh first c'
naming-all c fresh first c' next j g l = record { to = filled-to (let e : j ≡ fresh = omega (arith, g.within) in e) g.to; kept = g.kept }
