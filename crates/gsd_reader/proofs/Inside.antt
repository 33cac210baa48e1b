-- What a reader hands out lies in the image: names and chunks.
use Rattle.std.specs.Prelude.{Result, Ok, Err}
use Prim.Native.Nat.{ℕ, ◌<◌}
use mathlib.Core.Path.{◌≡◌, refl, ◌∙◌}
use mathlib.Core.Bool.{Bool, true, false}
use mathlib.Core.List.{List}
use native.Mathlib.Decide.{dec_lt}
use native.Mathlib.Omega.{arith}
use lib.ListN.{length}
use Rattle.gsd_format.specs.declared.Entry.{Entry}
use Rattle.gsd_format.specs.declared.Reader.{Reader}
use Rattle.gsd_format.specs.Names.{list_parts}
use Rattle.gsd_format.specs.Lookup.{nowhere}
use Rattle.gsd_format.specs.Readers.{fits, parts_by, name_by, lookup_by, holds, chunk_place_by}
use Rattle.gsd_format.proofs.Lists.{Each, each_at, each_take}
use Rattle.gsd_format.proofs.Segments.{Within, list-within}
use Rattle.gsd_format.proofs.Readers.{name-fits, name-33, part-there, part-behind, chunk-held, chunk-33, chunk-none}
use Rattle.gsd_parts.specs.Parts.{Inside}
use Rattle.gsd_reader.proofs.Fitting.{fitting, found-fits, holding}

module _ (r : Reader) (img : List ℕ) where
  pub name-inside : (n : ℕ) → Inside img (name_by r img n)
  unfolding Inside
  name-inside n = go (fits r img) refl (dec_lt n (length (parts_by r img)))
    where
      within : Each (Within r.namelist r.size) (parts_by r img)
      within =
          each_take (Within r.namelist r.size) r.names (list_parts r.version img r.namelist r.size)
          (list-within r.version img r.namelist r.size)

      go : (b : Bool) → fits r img ≡ b → Dec (n < length (parts_by r img)) → Inside img (name_by r img n)
      go true f (yes l) =
          let w = each_at (Within r.namelist r.size) (parts_by r img) nowhere within n l in
          rw (name-fits r img f n ∙ part-there (parts_by r img) n l) (omega (arith, w.high, (fitting r img f).list))
      go true f (no l) = rw (name-fits r img f n ∙ part-behind (parts_by r img) n (omega arith)) tt
      go false f l = rw (name-33 r img f n) tt

  pub chunk_inside : (frame : ℕ) (name : List ℕ) → Inside img (chunk_place_by r img frame name)
  unfolding Inside
  chunk_inside frame name = go (lookup_by r img frame name) refl
    where
      found : (e : Entry) → lookup_by r img frame name ≡ Ok e → (b : Bool) → holds r img e ≡ b → Inside img (chunk_place_by r img frame name)
      found e h true b =
          rw (chunk-held r img (lookup_by r img frame name) e h b) (holding r img e b (fitting r img (found-fits r img frame name e h)).short).within
      found e h false b = rw (chunk-33 r img (lookup_by r img frame name) e h b) tt

      go : (l : Result Entry ℕ) → lookup_by r img frame name ≡ l → Inside img (chunk_place_by r img frame name)
      go (Ok e) h = found e h (holds r img e) refl
      go (Err n) h = rw (chunk-none r img (lookup_by r img frame name) n h) tt
