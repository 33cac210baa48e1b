-- The append's numbers in their order, as the planner tests them.
use Prim.Native.Nat.{ℕ, suc, ◌+◌, ◌%◌, ◌≤◌, ◌<◌}
use mathlib.Core.Path.{◌≡◌, refl, sym, ◌∙◌, ap}
use mathlib.Core.Bool.{Bool, true, false, not, ◌||◌}
use mathlib.Core.List.{List}
use native.Mathlib.Omega.{arith}
use lib.ListN.{length}
use lib.Dec.{eqb}
use borrow.Author.Tests.{lt-ltb, le-ltb, eq-eqb, ne_eqb}
use Rattle.gsd_format.specs.declared.Layout.{Layout}
use Rattle.gsd_format.specs.declared.refusal.Refusal.{Refusal}
use Rattle.gsd_format.specs.Answers.{refusal_number}
use Rattle.gsd_format.specs.Header.{v10}
use Rattle.gsd_format.specs.Entries.{frames_of}
use Rattle.gsd_format.specs.Opening.{verdict, most_names, greatest_frame}
use Rattle.gsd_format.specs.Refusals.{◌⇒◌, ◌▹◌}
use Rattle.gsd_format.proofs.Refusals.{met, passed, unmet, both, decides, goes_on, first_of, refusal-some, first-refused, left-holds, right-decides, neither-of, not-of}
use Rattle.gsd_stores.specs.View.{view_of}
use Rattle.gsd_stores.specs.Sheet.{rows_of, sheet_test}
use Rattle.gsd_stores.specs.Plan.{new_names}
use Rattle.gsd_stores.specs.Append.{image_test, room_test, plan_test, append_test}
use Rattle.gsd_stores.proofs.Rows.{new-names, new-few}
use Rattle.gsd_stores.proofs.Sheet.{rows-count}
use Rattle.gsd_open.specs.declared.survey.Survey.{Survey}
use Rattle.gsd_open.specs.Surveys.{Surveyed}
use Rattle.gsd_sheet.specs.Columns.{plan_words}
use Rattle.gsd_sheet.specs.Rows.{Located}
use Rattle.gsd_ids.specs.declared.NewNames.{NewNames}
use Rattle.gsd_ids.specs.RowIds.{IdsFound}
use Rattle.gsd_matched.specs.Matches.{Matches}
use Rattle.gsd_plan.specs.Planning.{planned, Sees, Asked, Plans}

-- refused, planned, or as the test that decides says
pub plans-refused : (x sheet : List ℕ) (k n r : ℕ) (p : List ℕ) → k ≡ suc n → r ≡ suc n → Plans x sheet k r p
plans-refused x sheet k n r p e f = record { number = f ∙ sym e; plan = λ z. absurd (omega arith) }

pub plans-made : (x sheet : List ℕ) (k : ℕ) (p : List ℕ) → k ≡ 0 → Matches (view_of x) sheet (planned x sheet) p → Plans x sheet k 0 p
plans-made x sheet k p e m = record { number = sym e; plan = λ z. m }

pub plans-same : (x sheet : List ℕ) (k n r : ℕ) (p : List ℕ) → k ≡ n → Plans x sheet n r p → Plans x sheet k r p
plans-same x sheet k n r p e h = rw e h

pub fresh-small : (ns : List (List ℕ)) (sheet p : List ℕ) (new : NewNames) → Located sheet p → IdsFound ns (rows_of sheet) p new → new.count ≤ 64
fresh-small ns sheet p new h f = omega (arith, f.fresh, new-few (new-names ns (rows_of sheet)), rows-count sheet, h.few)

module _ (x sheet : List ℕ) where
  -- 28, then 29
  module _ (ns : List (List ℕ)) (listed : ℕ) (p : List ℕ) (new : NewNames) (many : listed ≡ length (view_of x).names) (are : ns ≡ (view_of x).names)
      (ok : IdsFound ns (rows_of sheet) p new) where
    found-ids : IdsFound (view_of x).names (rows_of sheet) p new
    found-ids = rw are at ok

    pub many-names : most_names < listed + new.count → plan_test x sheet ≡ 28
    unfolding plan_test
    many-names l = decides _ 27 _ (lt-ltb most_names (length (view_of x).names + length (new_names (view_of x).names (rows_of sheet))) (omega (arith, found-ids.fresh)))

    pub few-names : listed + new.count ≤ most_names → plan_test x sheet ≡ room_test x sheet
    unfolding plan_test
    few-names l = goes_on _ 28 _ (le-ltb most_names (length (view_of x).names + length (new_names (view_of x).names (rows_of sheet))) (omega (arith, found-ids.fresh)))

    -- a sheet that is accepted for the version that was seen is accepted for the image's
    pub asked : {s : Survey} → Sees x s → sheet_test s.layout.version sheet ≡ 0 → length p ≡ plan_words → Located sheet p → Asked x sheet p new
    asked see a l h = record {
      accepted = ap (λ v. sheet_test v.version sheet) (sym see.layout) ∙ a;
      long = l;
      located = h;
      found = found-ids;
    }

  -- Number by number

  all-tests : append_test x sheet ≡ verdict x ▹ image_test (view_of x).layout (frames_of (view_of x).entries) ▹ sheet_test (view_of x).layout.version sheet ▹ plan_test x sheet
  unfolding append_test
  all-tests = refl

  -- a refusal decides, by the first test that refuses
  stops : (r : Refusal) (k rest : ℕ) (p : List ℕ) → append_test x sheet ≡ k ▹ rest → refusal_number r ≡ k → Plans x sheet (append_test x sheet) (refusal_number r) p
  stops r k rest p t e =
      let u : refusal_number r ≡ append_test x sheet = first-refused r k rest e ∙ sym t in
      record { number = u; plan = λ q. absurd (omega (arith, refusal-some r, u, q)) }

  pub not_opened : (r : Refusal) (p : List ℕ) → refusal_number r ≡ verdict x → Plans x sheet (append_test x sheet) (refusal_number r) p
  not_opened r p = stops r _ _ p all-tests

  module _ (starts : List ℕ) (s : Survey) (told : Surveyed x starts s) where
    image-next : append_test x sheet ≡ image_test s.layout s.frames ▹ sheet_test s.layout.version sheet ▹ plan_test x sheet
    unfolding view_of
    image-next =
        all-tests ∙ first_of (verdict x) _ told.opens
        ∙ sym (λ i. image_test (told.layout i) (told.frames i) ▹ sheet_test (told.layout i).version sheet ▹ plan_test x sheet)

    pub bad-image : (r : Refusal) (p : List ℕ) → refusal_number r ≡ image_test s.layout s.frames → Plans x sheet (append_test x sheet) (refusal_number r) p
    bad-image r p = stops r _ _ p image-next

    module _ (ready : image_test s.layout s.frames ≡ 0) where
      sheet-next : append_test x sheet ≡ sheet_test s.layout.version sheet ▹ plan_test x sheet
      sheet-next = image-next ∙ first_of (image_test s.layout s.frames) _ ready

      pub bad-sheet : (r : Refusal) (p : List ℕ) → refusal_number r ≡ sheet_test s.layout.version sheet → Plans x sheet (append_test x sheet) (refusal_number r) p
      bad-sheet r p = stops r _ _ p sheet-next

      pub good-sheet : sheet_test s.layout.version sheet ≡ 0 → append_test x sheet ≡ plan_test x sheet
      good-sheet e = sheet-next ∙ first_of (sheet_test s.layout.version sheet) (plan_test x sheet) e

-- 20: the image is of 1.0; 21: a block does not lie at a word; 31: there is no greater frame
module _ (l : Layout) (frames : ℕ) where
  abbrev odd : Bool
  odd = not (eqb (l.index % 8) 0) || not (eqb (l.namelist % 8) 0)

  pub image-10 : v10 l.version ≡ true → 20 ≡ image_test l frames
  unfolding image_test
  image-10 r = sym (decides _ 19 _ r)

  -- where nothing is refused it is not of 1.0
  pub image-recent : image_test l frames ≡ 0 → v10 l.version ≡ false
  unfolding image_test
  image-recent h = unmet _ _ (both _ _ h).0

  module _ (recent : v10 l.version ≡ false) where
    from-21 : image_test l frames ≡ (odd ⇒ 21) ▹ (eqb frames (greatest_frame + 1) ⇒ 31)
    unfolding image_test
    from-21 = goes_on _ 20 _ recent

    pub odd_index : (l.index % 8 ≡ 0 → ⊥) → 21 ≡ image_test l frames
    odd_index f = sym (from-21 ∙ decides _ 20 _ (left-holds (not (eqb (l.index % 8) 0)) _ (rw (ne_eqb (l.index % 8) 0 f))))

    pub odd-names : l.index % 8 ≡ 0 → (l.namelist % 8 ≡ 0 → ⊥) → 21 ≡ image_test l frames
    odd-names e f =
        sym (from-21
        ∙ decides _ 20 _ (right-decides (not (eqb (l.index % 8) 0)) _ (not-of _ (eq-eqb (l.index % 8) 0 e)) ∙ rw (ne_eqb (l.namelist % 8) 0 f)))

    module _ (e : l.index % 8 ≡ 0) (f : l.namelist % 8 ≡ 0) where
      both-even : image_test l frames ≡ (eqb frames (greatest_frame + 1) ⇒ 31)
      both-even = from-21
          ∙ goes_on _ 21 _ (neither-of (not (eqb (l.index % 8) 0)) (not (eqb (l.namelist % 8) 0)) (not-of _ (eq-eqb _ _ e)) (not-of _ (eq-eqb _ _ f)))

      pub frames-full : frames ≡ greatest_frame + 1 → 31 ≡ image_test l frames
      frames-full g = sym (both-even ∙ met _ 31 (eq-eqb frames (greatest_frame + 1) g))

      pub image-good : (frames ≡ greatest_frame + 1 → ⊥) → 0 ≡ image_test l frames
      image-good g = sym (both-even ∙ passed _ 31 (ne_eqb frames (greatest_frame + 1) g))
