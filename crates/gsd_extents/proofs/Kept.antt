-- Laws of the test whether an extent keeps to an image and a sheet: it tells of any extent whether it is good.
-- And laws of comparisons that the code makes in another way.
use Prim.Native.Nat.{ℕ, ◌+◌, ◌-◌, ◌≤◌}
use mathlib.Core.Path.{◌≡◌, refl, sym, ◌∙◌}
use mathlib.Core.Bool.{Bool, true, false, ◌&&◌}
use native.Mathlib.Omega.{arith}
use lib.Dec.{leb}
use borrow.Author.Tests.{leb-true, leb-false, le-leb, lt-leb, eqb-true, eq-eqb}
use Rattle.gsd_format.proofs.Refusals.{both_true, both_of}
use Rattle.gsd_extents.specs.declared.extent.Extent.{Extent}
use Rattle.gsd_extents.specs.declared.extent.Kind.{Kind}
use Rattle.gsd_extents.specs.Exec.{Good, source_keeps, keeps_to}

-- a sum against its bound
pub leb-sum : (a b n : ℕ) → b ≤ n → leb a (n - b) ≡ leb (a + b) n
leb-sum a b n h = go (leb a (n - b)) refl
  where
    go : (t : Bool) → leb a (n - b) ≡ t → leb a (n - b) ≡ leb (a + b) n
    go true e = e ∙ sym (le-leb (a + b) n (omega (arith, leb-true a (n - b) e)))
    go false e = e ∙ sym (lt-leb (a + b) n (omega (arith, leb-false a (n - b) e)))

-- The test of what is read, kind by kind

module _ (n m : ℕ) (x : Extent) where
  pub keeps-copy : x.kind ≡ Kind.Copy → source_keeps n m x ≡ leb x.until n
  unfolding source_keeps
  keeps-copy e = rw (e, source_keeps)

  pub keeps-data : x.kind ≡ Kind.Data → source_keeps n m x ≡ leb x.until m
  unfolding source_keeps
  keeps-data e = rw (e, source_keeps)

  pub keeps-name : x.kind ≡ Kind.Name → source_keeps n m x ≡ (leb x.until m && leb (x.value + (x.until - x.from)) n)
  unfolding source_keeps
  keeps-name e = rw (e, source_keeps)

  pub keeps-number : x.kind ≡ Kind.Number → source_keeps n m x ≡ true
  unfolding source_keeps
  keeps-number e = rw (e, source_keeps)

  good-source : Good n m x → source_keeps n m x ≡ true
  good-source g = go x.kind refl
    where
      go : (k : Kind) → x.kind ≡ k → source_keeps n m x ≡ true
      go Kind.Copy e = keeps-copy e ∙ le-leb _ _ (g.image e)
      go Kind.Data e = keeps-data e ∙ le-leb _ _ (g.sheet e)
      go Kind.Number e = keeps-number e
      go Kind.Name e = keeps-name e ∙ both_of _ _ (le-leb _ _ (g.name e).0) (le-leb _ _ (g.name e).1)

  -- The test tells whether an extent is good

  pub keeps-good : keeps_to n m x ≡ true → Good n m x
  unfolding keeps_to
  keeps-good h =
      let s = both_true _ _ h in
      let o = both_true _ _ s.0 in
      let r = both_true _ _ o.0 in
      record {
        aligned = eqb-true _ _ r.0;
        room = leb-true _ _ r.1;
        order = leb-true _ _ o.1;
        image = λ e. leb-true _ _ (sym (keeps-copy e) ∙ s.1);
        sheet = λ e. leb-true _ _ (sym (keeps-data e) ∙ s.1);
        name = λ e. let t = both_true _ _ (sym (keeps-name e) ∙ s.1) in (leb-true _ _ t.0, leb-true _ _ t.1);
      }

  pub good-keeps : Good n m x → keeps_to n m x ≡ true
  unfolding keeps_to
  good-keeps g =
      both_of _ _ (both_of _ _ (both_of _ _ (eq-eqb _ _ g.aligned) (le-leb _ _ g.room)) (le-leb _ _ g.order)) (good-source g)
