-- The claims about readings hold: 30 is given by one test, behind which stand 28 and 29 alone; and a frame of a run has the
-- elements of an accepted sheet.
use Rattle.std.specs.Prelude.{Ok}
use Prim.Native.Nat.{ℕ, ◌+◌, ◌*◌, ◌-◌, ◌<◌}
use mathlib.Core.Path.{◌≡◌, refl, sym, ◌∙◌, ap}
use mathlib.Core.Bool.{Bool, true, false, true≢false}
use mathlib.Core.List.{List, [], ◌∷◌}
use native.Mathlib.Nat.{zero-add}
use native.Mathlib.Decide.{dec_lt, ℕ_discrete}
use native.Mathlib.Omega.{arith}
use lib.ListN.{get_or, length, length-map, get_or-map}
use Rattle.gsd_format.specs.declared.Entry.{Entry}
use Rattle.gsd_format.specs.Refusals.{◌⇒◌, ◌▹◌}
use Rattle.gsd_format.specs.Types.{chunk_size}
use Rattle.gsd_format.specs.Names.{index_of, Has}
use Rattle.gsd_format.specs.Opening.{verdict}
use Rattle.gsd_format.specs.Lookup.{lookup}
use Rattle.gsd_format.specs.Elements.{NanAt, any_nan}
use Rattle.gsd_format.proofs.Refusals.{first_of, stays, ▹-assoc, decides, goes_on, test-not, first-not, both, unmet}
use Rattle.gsd_format.proofs.Lists.{Each, each_at, any_at, at-any, one-false, one-true, true-one}
use Rattle.gsd_format.proofs.Bytes.{part_at}
use Rattle.gsd_format.proofs.Ids.{index_at, has-at}
use Rattle.gsd_format.proofs.Verdict.{verdict-most}
use Rattle.gsd_format.proofs.Elements.{nan_same, nan-found, nan-in}
use Rattle.gsd_stores.specs.Sheet.{Row, rows_of, row_names, nan_row, any_nan_row, form_test, sheet_test}
use Rattle.gsd_stores.specs.Append.{image_test, plan_test, append_test}
use Rattle.gsd_stores.specs.Demand3.{Demand3, Recorded, Complete, no_row}
use Rattle.gsd_stores.specs.Runs.{Call, Moment, after_call, frames, last_store_made, completed}
use Rattle.gsd_stores.specs.Readings.{Undefined, earlier_test, Readings, Defined}
use Rattle.gsd_stores.proofs.Keep.{found_below, absent_none}
use Rattle.gsd_stores.proofs.Runs.{made-both, end-follows}
use Rattle.gsd_stores.proofs.Demand3.{demand3}

undefined-yes : (s : List ℕ) → Undefined s → any_nan_row (rows_of s) ≡ true
undefined-yes s u = true-one nan_row (rows_of s) (at-any _ (rows_of s) no_row u.i u.row (nan-in _ _ _ 0 u.k u.element u.nan))

undefined-found : (s : List ℕ) → any_nan_row (rows_of s) ≡ true → Undefined s
undefined-found s h =
    let r : (i : ℕ) × (i < length (rows_of s)) × (nan_row (get_or (rows_of s) i no_row) ≡ true) = any_at _ (rows_of s) no_row (one-true nan_row (rows_of s) h) in
    let x = get_or (rows_of s) r.0 no_row in
    let q : (k : ℕ) × (k < x.n * x.m) × NanAt x.kind x.body 0 k = nan-found (x.n * x.m) x.kind x.body 0 r.2 in
    record { i = r.0; row = r.1; k = q.0; element = q.1; nan = q.2 }

-- another number goes first
other : (t : Bool) (k b : ℕ) → (k ≡ 30 → ⊥) → (b ≡ 30 → ⊥) → (t ⇒ k) ▹ b ≡ 30 → ⊥
other t k b f g = first-not 30 (t ⇒ k) b (test-not 30 t k (omega arith) f) g

module _ (img sheet : List ℕ) where
  chain : append_test img sheet ≡ earlier_test img sheet ▹ (any_nan_row (rows_of sheet) ⇒ 30) ▹ plan_test img sheet
  unfolding append_test sheet_test earlier_test
  chain = simp ▹-assoc

  not-plan : plan_test img sheet ≡ 30 → ⊥
  unfolding plan_test
  not-plan = other _ 28 _ (λ e. omega (arith, e)) (test-not 30 _ 29 (omega arith) (λ e. omega (arith, e)))

  not_earlier : earlier_test img sheet ≡ 30 → ⊥
  unfolding earlier_test image_test form_test
  not_earlier =
      first-not 30 _ _ (λ e. omega (arith, e, verdict-most img))
      (first-not 30 _ _ (other _ 20 _ (λ e. omega (arith, e)) (other _ 21 _ (λ e. omega (arith, e))
      (test-not 30 _ 31 (omega arith) (λ e. omega (arith, e)))))
      (other _ 22 _ (λ e. omega (arith, e)) (other _ 23 _ (λ e. omega (arith, e)) (other _ 24 _ (λ e. omega (arith, e))
      (other _ 25 _ (λ e. omega (arith, e)) (other _ 26 _ (λ e. omega (arith, e)) (test-not 30 _ 27 (omega arith) (λ e. omega (arith, e)))))))))

  last : append_test img sheet ≡ 30 → earlier_test img sheet ≡ 0
  last h = go (ℕ_discrete (earlier_test img sheet) 0)
    where
      go : Dec (earlier_test img sheet ≡ 0) → earlier_test img sheet ≡ 0
      go (yes e) = e
      go (no e) = absurd (not_earlier (sym (stays _ _ e) ∙ sym chain ∙ h))

  holds : append_test img sheet ≡ 30 → Undefined sheet
  holds h = undefined-found sheet (go (any_nan_row (rows_of sheet)) refl)
    where
      go : (b : Bool) → any_nan_row (rows_of sheet) ≡ b → any_nan_row (rows_of sheet) ≡ true
      go true e = e
      go false e = absurd (not-plan (sym (goes_on _ 30 _ e) ∙ sym (first_of _ _ (last h)) ∙ sym chain ∙ h))

  refused : Undefined sheet → earlier_test img sheet ≡ 0 → append_test img sheet ≡ 30
  refused u e = chain ∙ first_of _ _ e ∙ decides _ 29 _ (undefined-yes sheet u)

  clean : append_test img sheet ≡ 0 → any_nan_row (rows_of sheet) ≡ false
  clean h = unmet _ 29 (both _ _ (both _ _ (sym chain ∙ h)).1).0

  pub readings : Readings img sheet
  readings = record {
    defined = λ h u. true≢false (sym (undefined-yes sheet u) ∙ clean h);
    refused = refused;
    holds = holds;
    last = last;
  }

-- The record

completed-clean : (cs : List Call) (x : List ℕ) → Each (λ rs. any_nan_row rs ≡ false) (completed x cs)
unfolding completed
completed-clean [] x = tt
completed-clean (c ∷ cs) x = go (completed-clean cs (after_call x c)) (last_store_made x c) refl
  where
    go : Each (λ rs. any_nan_row rs ≡ false) (completed (after_call x c) cs) → (b : Bool) → last_store_made x c ≡ b → Each (λ rs. any_nan_row rs ≡ false) (completed x (c ∷ cs))
    go f true e = rw (e, completed) (clean x c.sheet (made-both x c e).0, f)
    go f false e = rw (e, completed) f

-- the elements of a recorded row are the row's
recorded-nan : (img : List ℕ) (frame : ℕ) (r : Row) (q : Recorded img frame r) (e : Entry) → q.entry ≡ e → any_nan e.kind img e.location (e.n * e.m) ≡ nan_row r
recorded-nan img frame r q e f =
    let d : Entry = q.entry in
    ap (λ c. any_nan c.kind img c.location (c.n * c.m)) (sym f)
    ∙ nan_same (d.n * d.m) d.kind img d.location r.body 0
    (λ k l. sym (part_at img d.location (chunk_size d) k l) ∙ ap (λ b. get_or b k 0) q.same_bytes ∙ ap (λ j. get_or r.body j 0) (sym (zero-add k)))
    ∙ (λ i. any_nan (q.same_type i) r.body 0 (q.same_n i * q.same_m i))

-- no row of a complete frame has a NaN, so no element found there is one
complete-defined : (img : List ℕ) (frame : ℕ) (rs : List Row) → Complete img frame rs → any_nan_row rs ≡ false → (name : List ℕ) (e : Entry)
    → lookup img frame name ≡ Ok e → any_nan e.kind img e.location (e.n * e.m) ≡ false
complete-defined img frame rs whole none name e found = go (dec_lt (index_of name (row_names rs)) (length (row_names rs)))
  where
    row-name : (i : ℕ) → get_or (row_names rs) i [] ≡ (get_or rs i no_row).name
    row-name i = get_or-map (λ r. r.name) rs i no_row

    go : Dec (Has name (row_names rs)) → any_nan e.kind img e.location (e.n * e.m) ≡ false
    go (yes h) =
        let i : ℕ = index_of name (row_names rs) in
        let l : i < length rs = rw (length-map rs (λ r. r.name)) at h in
        let q : Recorded img frame (get_or rs i no_row) = whole.each i l in
        let same : Ok q.entry ≡ Ok e = sym q.found ∙ ap (lookup img frame) (sym (row-name i) ∙ index_at name (row_names rs) h) ∙ found in
        let it : q.entry ≡ e = cc in
        recorded-nan img frame (get_or rs i no_row) q e it ∙ each_at _ rs no_row (one-false nan_row rs none) i l
    go (no h) = absurd (absent_none img frame name e (whole.others name (λ i l f. h (has-at name (row_names rs) i (rw (length-map rs (λ r. r.name)) l) (row-name i ∙ f)))) found)

module _ (x : List ℕ) (cs : List Call) (opens : verdict x ≡ 0) (img : List ℕ) (moment : Moment x cs img) where
  claim : Demand3 x cs
  claim = demand3 x cs opens

  -- at every moment of a run, of the frames that its appends made
  pub run-defined : Defined img (frames x)
  run-defined frame name e l found k m nan =
      let below : frame < frames img = found_below img (claim.always moment) frame name e found in
      let i : ℕ = frame - frames x in
      let place : frames x + i ≡ frame = omega arith in
      let few : i < length (completed x cs) = omega (arith, claim.grows (end-follows moment), claim.counted) in
      let whole : Complete img frame (get_or (completed x cs) i []) = rw place at (claim.complete moment i (omega arith)) in
      true≢false (sym (nan-in (e.n * e.m) e.kind img e.location k m nan)
      ∙ complete-defined img frame (get_or (completed x cs) i []) whole (each_at _ (completed x cs) [] (completed-clean cs x) i few) name e found)
