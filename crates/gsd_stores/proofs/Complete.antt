-- The new frame is complete and exactly as requested, in any image that shows the plan's entries and names behind the old ones
-- and holds the plan's data.
use Rattle.std.specs.Prelude.{Ok}
use Prim.Native.Nat.{ℕ, ◌+◌, ◌-◌, ◌≤◌, ◌<◌}
use mathlib.Core.Path.{◌≡◌, refl, sym, ◌∙◌, ap}
use mathlib.Core.List.{List, ◌++◌}
use native.Mathlib.Decide.{dec_lt}
use native.Mathlib.Omega.{arith}
use lib.ListN.{length, get_or, length-append, get_or-append}
use lib.Seq.{get_or-append-add}
use Rattle.gsd_format.specs.declared.Entry.{Entry}
use Rattle.gsd_format.specs.Names.{index_of, Has}
use Rattle.gsd_format.specs.Entries.{frames_of}
use Rattle.gsd_format.specs.Opening.{verdict}
use Rattle.gsd_format.specs.Lookup.{none, lookup, lookup_in}
use Rattle.gsd_format.proofs.Entries.{ShortIds, frames-below, ordered-front}
use Rattle.gsd_format.proofs.Lookup.{Stands, find-sound, find-ordered, look-entry, look-found, opened-lookup}
use Rattle.gsd_stores.specs.View.{View}
use Rattle.gsd_stores.specs.Sheet.{Row}
use Rattle.gsd_stores.specs.Plan.{Plan, data_end}
use Rattle.gsd_stores.specs.Demand3.{Recorded, Complete, no_row}
use Rattle.gsd_stores.specs.Runs.{frames}
use Rattle.gsd_stores.proofs.Texts.{Stand}
use Rattle.gsd_stores.proofs.Sheet.{RowsOk}
use Rattle.gsd_stores.proofs.Rows.{all-has}
use Rattle.gsd_stores.proofs.Plan.{row_entry, row-entry, named-row}
use Rattle.gsd_stores.proofs.Valid.{Ready, row-chunk}
use Rattle.gsd_stores.proofs.View.{Is}
use Rattle.gsd_stores.proofs.Shown.{shown-entries, shown-names}
use Rattle.gsd_stores.proofs.Keep.{none-absent}

-- what the image after an append shows and holds
pub record Appended (v : View) (rs : List Row) (p : Plan) (y : List ℕ) (w : View) : Type 0 where
  pub is : Is y w
  pub opens : verdict y ≡ 0
  pub entries : w.entries ≡ v.entries ++ p.entries
  pub names : w.names ≡ v.names ++ p.fresh
  pub body : Stand y p.start p.body
  pub long : data_end p ≤ length y

module _ (v : View) (rs : List Row) (p : Plan) (y : List ℕ) (w : View) (h : Appended v rs p y w) (r : Ready v rs p)
    (ok : RowsOk v.layout.version rs) (ids : ShortIds v.entries) where
  look : (frame : ℕ) (name : List ℕ) → lookup y frame name ≡ lookup_in (v.entries ++ p.entries) (v.names ++ p.fresh) frame name
  look frame name = opened-lookup y h.opens frame name ∙ (λ i. lookup_in ((shown-entries h.is ∙ h.entries) i) ((shown-names h.is ∙ h.names) i) frame name)

  there : frames_of v.entries < frames_of (v.entries ++ p.entries)
  there = omega (arith, r.frames)

  shown-frames : frames y ≡ frames_of v.entries + 1
  shown-frames = ap frames_of (shown-entries h.is ∙ h.entries) ∙ r.frames

  -- each row's name is listed
  listed : (i : ℕ) → i < length rs → Has (get_or rs i no_row).name (v.names ++ p.fresh)
  listed i l = rw r.plan.fresh (all-has v.names rs i l)

  row-recorded : (i : ℕ) → i < length rs → Recorded y (frames_of v.entries) (get_or rs i no_row)
  row-recorded i l =
      let (j, e) = row-entry v rs p r.plan i l in
      record {
        entry = row_entry v rs p i;
        found = look (frames_of v.entries) (get_or rs i no_row).name ∙ look-entry (v.entries ++ p.entries) (v.names ++ p.fresh) (frames_of v.entries) (get_or rs i no_row).name there (listed i l)
            ∙ find-ordered (frames_of v.entries) (index_of (get_or rs i no_row).name (v.names ++ p.fresh)) (v.entries ++ p.entries) 0 r.ordered (row_entry v rs p i)
            (record {
              place = length v.entries + j;
              within = omega (arith, length-append v.entries p.entries, e.entry);
              there = get_or-append-add v.entries p.entries j none ∙ e.is;
              same_frame = refl;
              same_id = refl;
            });
        same_n = refl;
        same_m = refl;
        same_type = refl;
        same_bytes = row-chunk v rs p r.plan ok i l y h.long h.body;
      }

  no_other : (name : List ℕ) → ((i : ℕ) → i < length rs → (get_or rs i no_row).name ≡ name → ⊥) → (e : Entry) → lookup y (frames_of v.entries) name ≡ Ok e → ⊥
  no_other name f e g =
      let m = (look-found (v.entries ++ p.entries) (v.names ++ p.fresh) (frames_of v.entries) name e).0 (sym (look (frames_of v.entries) name) ∙ g) in
      let s : Stands (v.entries ++ p.entries) (frames_of v.entries) (index_of name (v.names ++ p.fresh)) e
      = find-sound (frames_of v.entries) (index_of name (v.names ++ p.fresh)) (v.entries ++ p.entries) e m.2 in
      go s m.1 (dec_lt s.place (length v.entries))
    where
      go : (s : Stands (v.entries ++ p.entries) (frames_of v.entries) (index_of name (v.names ++ p.fresh)) e) → Has name (v.names ++ p.fresh) → Dec (s.place < length v.entries) → ⊥
      go s n (yes l) =
          let q : get_or v.entries s.place none ≡ e = sym (get_or-append v.entries p.entries none s.place l) ∙ s.there in
          omega (arith, frames-below v.entries 0 0 (ordered-front v.entries p.entries 0 r.ordered) ids s.place l, ap (λ c. c.frame) q, s.same_frame)
      go s n (no l) =
          let j : ℕ = s.place - length v.entries in
          let m : j < length p.entries = omega (arith, length-append v.entries p.entries, s.within) in
          let q : get_or p.entries j none ≡ e = sym (get_or-append-add v.entries p.entries j none) ∙ ap (λ k. get_or (v.entries ++ p.entries) k none) (omega arith) ∙ s.there in
          let (i, t, d) = named-row v rs p r.plan name n j m (ap (λ c. c.id) q ∙ s.same_id) in
          f i t.row d

  pub frame-complete : Complete y (frames_of v.entries) rs
  frame-complete = record {
    each = row-recorded;
    others = λ n f. none-absent y (frames_of v.entries) n h.opens (omega (arith, shown-frames)) (no_other n f);
  }
