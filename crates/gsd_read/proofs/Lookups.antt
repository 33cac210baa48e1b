-- Laws of what is found: where names and chunks lie, and the element of an entry that is found.
use Rattle.std.specs.Prelude.{Result, Ok, Err}
use Prim.Native.Nat.{ℕ, zero, suc, ◌*◌, ◌<◌}
use mathlib.Core.Path.{◌≡◌, refl, sym, ◌∙◌, ap}
use mathlib.Core.List.{List}
use native.Mathlib.Decide.{dec_lt}
use native.Mathlib.Omega.{arith}
use lib.ListN.{length}
use Rattle.gsd_format.specs.declared.Entry.{Entry}
use Rattle.gsd_format.specs.Header.{layout_of}
use Rattle.gsd_format.specs.Types.{chunk_size}
use Rattle.gsd_format.specs.Names.{name_parts, names_of, index_of}
use Rattle.gsd_format.specs.Entries.{entries_of}
use Rattle.gsd_format.specs.Opening.{open_name, verdict}
use Rattle.gsd_format.specs.Lookup.{nowhere, nth_name, lookup, placed, chunk_place}
use Rattle.gsd_format.specs.Elements.{element_in, element}
use Rattle.gsd_format.proofs.Bytes.{Octets}
use Rattle.gsd_format.proofs.Lists.{Each, each_at}
use Rattle.gsd_format.proofs.Types.{known-sized}
use Rattle.gsd_format.proofs.Names.{Lies, parts-of-block, names-of-block, names-pass}
use Rattle.gsd_format.proofs.Segments.{parts_within}
use Rattle.gsd_format.proofs.Verdict.{Sound, verdict-zero}
use Rattle.gsd_format.proofs.Entries.{Fits, image-fits}
use Rattle.gsd_format.proofs.Lookup.{Stands, find-sound, look-found, opened-lookup, opened-name, opened-no-name, refused-name, found-opens}
use Rattle.gsd_open.specs.Index.{Capped}
use Rattle.gsd_open.proofs.Surveys.{layout-length}
use Rattle.gsd_elements.specs.Held.{Held}
use Rattle.gsd_parts.specs.Parts.{Inside}

-- Where names and chunks lie

pub name-inside : (img : List ℕ) (n : ℕ) → Inside img (nth_name img n)
unfolding Inside
name-inside img n = go (verdict img) refl (dec_lt n (length (name_parts img)))
  where
    go : (v : ℕ) → verdict img ≡ v → Dec (n < length (name_parts img)) → Inside img (nth_name img n)
    go zero e (yes l) =
        let closed = (names-pass img (layout_of img) (names_of img) ((verdict-zero img).0 e).names).0 in
        let within : Each (Lies img (layout_of img).namelist (64 * (layout_of img).segments)) (name_parts img) =
        rw (parts-of-block img) (parts_within img (layout_of img) (ap (open_name img (layout_of img)) (sym (names-of-block img)) ∙ closed)) in
        let lies = each_at (Lies img (layout_of img).namelist (64 * (layout_of img).segments)) (name_parts img) nowhere within n l in
        rw (opened-name img e n l) (omega (arith, lies.high, ((verdict-zero img).0 e).blocks.namelist_high, layout-length img (layout_of img) refl))
    go zero e (no l) = rw (opened-no-name img e n (omega arith)) tt
    go (suc k) e l = rw (refused-name img k e n) tt

-- an entry that is found is sound, and its chunk is in the image
module _ (img : List ℕ) (frame : ℕ) (name : List ℕ) (e : Entry) (found : lookup img frame name ≡ Ok e) where
  opens : verdict img ≡ 0
  opens = found-opens img frame name e found

  listed : Stands (entries_of img) frame (index_of name (names_of img)) e
  listed = find-sound _ _ (entries_of img) e ((look-found (entries_of img) (names_of img) frame name e).0 (sym (opened-lookup img opens frame name) ∙ found)).2

  pub found-sound : Sound (layout_of img) (length (names_of img)) e
  found-sound = rw listed.there at (((verdict-zero img).0 opens).sound listed.place listed.within)

  -- and its numbers fit where they stand
  pub found-fits : Octets img → Fits e
  found-fits octets = rw listed.there at (image-fits img octets listed.place listed.within)

  pub found-held : Held img e
  found-held = record {
    sized = known-sized _ _ found-sound.typed;
    within = omega (arith, found-sound.within, layout-length img (layout_of img) refl);
    short = ((verdict-zero img).0 opens).front.high;
  }

  -- its place, by its size as code keeps it
  pub place_found : (size : ℕ) → Capped (chunk_size e) size → chunk_place img frame name ≡ Ok (record { start = e.location; size = size })
  unfolding chunk_place placed
  place_found size c =
      ap placed found ∙ (λ i. Ok (record { start = e.location; size = sym (c.exact (omega (arith, found-held))) i }))

pub place-refused : (img : List ℕ) (frame : ℕ) (name : List ℕ) (n : ℕ) → lookup img frame name ≡ Err n →
    chunk_place img frame name ≡ Err n
unfolding chunk_place placed
place-refused img frame name n h = ap placed h

pub chunk_inside : (img : List ℕ) (frame : ℕ) (name : List ℕ) → Inside img (chunk_place img frame name)
unfolding Inside chunk_place placed
chunk_inside img frame name = go (lookup img frame name) refl
  where
    go : (r : Result Entry ℕ) → lookup img frame name ≡ r → Inside img (placed r)
    go (Ok e) h = (found-held img frame name e h).within
    go (Err n) h = tt

-- Elements

pub element-found : (img : List ℕ) (frame : ℕ) (name : List ℕ) (k : ℕ) (e : Entry) → lookup img frame name ≡ Ok e →
    element img frame name k ≡ element_in img e k
unfolding element
element-found img frame name k e h = rw (h, element)

pub element-refused : (img : List ℕ) (frame : ℕ) (name : List ℕ) (k n : ℕ) → lookup img frame name ≡ Err n →
    element img frame name k ≡ Err n
unfolding element
element-refused img frame name k n h = rw (h, element)
