-- A reader's queries fit its image, and the halving of the second one ends at the place from which the newest entry is sought.
use Rattle.std.specs.Prelude.{Ok, Err}
use Prim.Native.Nat.{ℕ, suc, ◌+◌, ◌*◌, ◌≤◌, ◌<◌}
use mathlib.Core.Path.{◌≡◌, refl, sym, ◌∙◌, ap}
use mathlib.Core.Bool.{Bool, true, false}
use mathlib.Core.List.{List}
use native.Mathlib.Omega.{arith}
use lib.ListN.{length, get_or}
use Rattle.gsd_format.specs.declared.Entry.{Entry}
use Rattle.gsd_format.specs.declared.Reader.{Reader}
use Rattle.gsd_format.specs.Header.{v10}
use Rattle.gsd_format.specs.Entries.{entry_at}
use Rattle.gsd_format.specs.Lookup.{none}
use Rattle.gsd_format.specs.Readers.{fits, find_by, place_behind, last_before, newest_by}
use Rattle.gsd_format.proofs.Entries.{slots_length, slots-each}
use Rattle.gsd_format.proofs.Readers.{find-33, find-fits, newest-33, newest-fits, counted-frames, counted-names}
use Rattle.gsd_format.proofs.Search.{halved-ends}
use Rattle.gsd_format.proofs.Newest.{last-here, last_on, behind-10, behind-recent}
use Rattle.gsd_search.specs.declared.probing.Query.{Query}
use Rattle.gsd_search.specs.Queries.{slots_for, halved_for, Fits}
use Rattle.gsd_reader.specs.Queries.{query_of, behind_of}
use Rattle.gsd_reader.proofs.Fitting.{fitting}

pub query-fits : (r : Reader) (img : List ℕ) (frame id : ℕ) → fits r img ≡ true → id < r.names → Fits img (query_of r frame id)
query-fits r img frame id h l =
    let f = fitting r img h in
    record { slots = f.slots; end = omega (arith, f.slots, f.short); short = omega (arith, f.names) }

-- The tests before the search: each one's number is what find and newest answer

module _ (r : Reader) (img : List ℕ) (frame id : ℕ) where
  abbrev Both : ℕ → Type 0
  Both n = (find_by r img frame id ≡ Err n) × (newest_by r img frame id ≡ Err n)

  pub both-33 : fits r img ≡ false → Both 33
  both-33 h = (find-33 r img h frame id, newest-33 r img h frame id)

  pub both-40 : fits r img ≡ true → r.frames ≤ frame → Both 40
  both-40 h f = (find-fits r img h frame id ∙ counted-frames _ _ _ _ _ f, newest-fits r img h frame id ∙ counted-frames _ _ _ _ _ f)

  pub both-41 : fits r img ≡ true → frame < r.frames → r.names ≤ id → Both 41
  both-41 h f d = (find-fits r img h frame id ∙ counted-names _ _ _ _ _ f d, newest-fits r img h frame id ∙ counted-names _ _ _ _ _ f d)

-- By the version

module _ (q : Query) where
  pub behind-old : v10 q.version ≡ true →
      behind_of q ≡ record { index = q.index; count = q.count; version = q.version; frame = q.frame + 1; id = 0 }
  unfolding behind_of
  behind-old r = rw (r, behind_of)

  pub behind-new : v10 q.version ≡ false →
      behind_of q ≡ record { index = q.index; count = q.count; version = q.version; frame = q.frame; id = q.id + 1 }
  unfolding behind_of
  behind-new r = rw (r, behind_of)

  pub behind-fits : (img : List ℕ) → Fits img q → q.id + 1 < 65536 → Fits img (behind_of q)
  behind-fits img f l = go (v10 q.version) refl
    where
      go : (v : Bool) → v10 q.version ≡ v → Fits img (behind_of q)
      go true r = rw (behind-old r) (record { slots = f.slots; end = f.end; short = omega arith })
      go false r = rw (behind-new r) (record { slots = f.slots; end = f.end; short = l })

  pub behind-place : (img : List ℕ) → (halved_for img (behind_of q)).place ≡ place_behind q.version q.frame q.id (slots_for img q)
  behind-place img = go (v10 q.version) refl
    where
      go : (v : Bool) → v10 q.version ≡ v → (halved_for img (behind_of q)).place ≡ place_behind q.version q.frame q.id (slots_for img q)
      go true r = ap (λ b. (halved_for img b).place) (behind-old r) ∙ sym (behind-10 q.version q.frame q.id (slots_for img q) r)
      go false r = ap (λ b. (halved_for img b).place) (behind-new r) ∙ sym (behind-recent q.version q.frame q.id (slots_for img q) r)

  pub behind-high : (img : List ℕ) → place_behind q.version q.frame q.id (slots_for img q) ≤ q.count
  behind-high img = go (v10 q.version) refl
    where
      many : length (slots_for img q) ≡ q.count
      many = slots_length q.count img q.index

      go : (v : Bool) → v10 q.version ≡ v → place_behind q.version q.frame q.id (slots_for img q) ≤ q.count
      go true r =
          omega (
            arith,
            behind-10 q.version q.frame q.id (slots_for img q) r,
            (halved-ends q.version (q.frame + 1) 0 (slots_for img q)).high,
            many,
          )
      go false r =
          omega (
            arith,
            behind-recent q.version q.frame q.id (slots_for img q) r,
            (halved-ends q.version q.frame (q.id + 1) (slots_for img q)).high,
            many,
          )

  -- The walk down, by the slot that is read
  module _ (img : List ℕ) (p : ℕ) (e : Entry) (l : p < q.count) (is : e ≡ entry_at img (q.index + 32 * p)) where
    at : e ≡ get_or (slots_for img q) p none
    at = is ∙ sym (slots-each q.count img q.index p l)

    pub slot-here : (i : ℕ) → i ≡ p + 1 → e.id ≡ q.id → last_before q.id (slots_for img q) i ≡ Ok e
    slot-here i s d =
        ap (last_before q.id (slots_for img q)) (let k : i ≡ suc p = omega arith in k)
        ∙ last-here q.id (slots_for img q) p (sym (ap (λ f. f.id) at) ∙ d) ∙ ap Ok (sym at)

    pub slot-on : (i : ℕ) → i ≡ p + 1 → (e.id ≡ q.id → ⊥) → last_before q.id (slots_for img q) i ≡ last_before q.id (slots_for img q) p
    slot-on i s d =
        ap (last_before q.id (slots_for img q)) (let k : i ≡ suc p = omega arith in k)
        ∙ last_on q.id (slots_for img q) p (λ f. d (ap (λ g. g.id) at ∙ f))
