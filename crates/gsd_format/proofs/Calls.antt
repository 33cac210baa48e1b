-- Each call's answer by its number: the refusal of that number, or the answer where the number is 0. So contracts say the
-- number and the values of the `Result` that a call answers.
use Rattle.std.specs.Prelude.{Result, Ok, Err}
use Rattle.gsd_format.specs.declared.Part.{Part}
use Rattle.gsd_format.specs.declared.Counts.{Counts}
use Prim.Native.Nat.{ℕ, zero, suc, ◌*◌}
use mathlib.Core.Path.{◌≡◌, refl, sym, ◌∙◌, ap}
use mathlib.Core.Bool.{Bool, true, false, not, ◌||◌}
use mathlib.Core.List.{List, [], ◌∷◌}
use native.Mathlib.Omega.{arith}
use lib.ListN.{length, get_or}
use lib.Dec.{ltb}
use Rattle.gsd_format.specs.declared.Entry.{Entry}
use Rattle.gsd_format.specs.declared.element.Number.{Number}
use Rattle.gsd_format.specs.Refusals.{◌⇒◌, ◌▹◌}
use Rattle.gsd_format.specs.Names.{name_parts, names_of, index_of}
use Rattle.gsd_format.specs.Entries.{entries_of, frames_of}
use Rattle.gsd_format.specs.Opening.{verdict, counts_of, opening}
use Rattle.gsd_format.specs.Lookup.{none, nowhere, nth_entry, nth_name, find_entry, lookup_in, lookup, chunk_part, placed, chunk_place}
use Rattle.gsd_format.specs.Elements.{element_of, element_in, element}
use Rattle.gsd_format.specs.Answers.{number_of, values_of, counts_values, opening_values, entry_values, listed_values, part_values, place_values}
use Rattle.gsd_format.specs.Answers.{number_values, element_values}
use Rattle.gsd_format.specs.Calls.{unless, open_values, nth_entry_test, nth_entry_values, nth_name_test, nth_name_values, is_entry, has_entry, entry_for}
use Rattle.gsd_format.specs.Calls.{lookup_test, found_entry, lookup_values, chunk_values, element_test, bits_of, nth_element_values}

-- An answer by its number

module _ {A : Type 0} where
  -- x where the number is 0
  unfoldable pub by : ℕ → A → Result A ℕ
  by zero x = Ok x
  by (suc n) x = Err (suc n)

  -- the opening's number comes before another
  opened : (v n : ℕ) (x : A) → elim v [ zero ↦ by n x | suc k ↦ Err (suc k) ] ≡ by (v ▹ n) x
  unfolding by ◌▹◌
  opened zero n x = refl
  opened (suc v) n x = refl

  -- so does a test's
  tested : (t : Bool) (k n : ℕ) (x : A) → elim t [ true ↦ by n x | false ↦ Err (suc k) ] ≡ by ((not t ⇒ suc k) ▹ n) x
  unfolding by ◌⇒◌ ◌▹◌
  tested true k n x = refl
  tested false k n x = refl

  last : (t : Bool) (k : ℕ) (x : A) → elim t [ true ↦ Ok x | false ↦ Err (suc k) ] ≡ by (not t ⇒ suc k) x
  unfolding by ◌⇒◌
  last true k x = refl
  last false k x = refl

  -- the opening's number, then a test's
  nth : (v : ℕ) (t : Bool) (k : ℕ) (x : A) → elim v [ zero ↦ elim t [ true ↦ Ok x | false ↦ Err (suc k) ] | suc j ↦ Err (suc j) ]
      ≡ by (v ▹ (not t ⇒ suc k)) x
  unfolding by ◌⇒◌ ◌▹◌
  nth zero true k x = refl
  nth zero false k x = refl
  nth (suc v) t k x = refl

  by_number : (n : ℕ) (x : A) → number_of (by n x) ≡ n
  unfolding by
  by_number zero x = refl
  by_number (suc n) x = refl

  by_values : (values : A → List ℕ) (n : ℕ) (x : A) → values_of values (by n x) ≡ unless n (values x)
  unfolding by unless
  by_values values zero x = refl
  by_values values (suc n) x = refl

  -- no answer is refused with the number 0
  never-0 : (n : ℕ) (x : A) (a : Result A ℕ) → a ≡ by n x → a ≡ Err 0 → ⊥
  unfolding by
  never-0 zero x a e h = let z : ◌≡◌ {A = Result A ℕ} (Ok x) (Err 0) = sym e ∙ h in absurd (cc)
  never-0 (suc n) x a e h = let z : suc n ≡ 0 = ap number_of (sym e ∙ h) in omega arith

  -- what a contract says of an answer r
  pub says : (values : A → List ℕ) (n : ℕ) (x : A) (a r : Result A ℕ) → a ≡ by n x → r ≡ a →
      (r ≡ a) × ((number_of r ≡ n) × (values_of values r ≡ unless n (values x)))
  says values n x a r e h = (h, (ap number_of (h ∙ e) ∙ by_number n x, ap (values_of values) (h ∙ e) ∙ by_values values n x))

-- Opening

opening-by : (img : List ℕ) → opening img ≡ by (verdict img) (counts_of img)
unfolding opening by
opening-by img = go (verdict img)
  where
    go : (v : ℕ) → elim v [ zero ↦ Ok (counts_of img) | suc k ↦ Err (suc k) ]
        ≡ by v (counts_of img)
    go zero = refl
    go (suc v) = refl

pub opening-says : (img : List ℕ) (r : Result Counts ℕ) → r ≡ opening img →
    (r ≡ opening img) × ((number_of r ≡ verdict img) × (opening_values r ≡ open_values img))
unfolding counts_of
opening-says img r = says counts_values _ _ _ r (opening-by img)

pub opening-never-0 : (img : List ℕ) → opening img ≡ Err 0 → ⊥
opening-never-0 img = never-0 _ _ _ (opening-by img)

-- The n-th entry and the n-th name

module _ (img : List ℕ) (n : ℕ) where
  entry-by : nth_entry img n ≡ by (nth_entry_test img n) (get_or (entries_of img) n none)
  unfolding nth_entry
  entry-by = nth (verdict img) (ltb n (length (entries_of img))) 43 _

  pub entry-says : (r : Result Entry ℕ) → r ≡ nth_entry img n →
      (r ≡ nth_entry img n) × ((number_of r ≡ nth_entry_test img n) × (listed_values r ≡ nth_entry_values img n))
  entry-says r = says entry_values _ _ _ r entry-by

  pub entry-never-0 : nth_entry img n ≡ Err 0 → ⊥
  entry-never-0 = never-0 _ _ _ entry-by

  name_by : nth_name img n ≡ by (nth_name_test img n) (get_or (name_parts img) n nowhere)
  unfolding nth_name
  name_by = nth (verdict img) (ltb n (length (name_parts img))) 43 _

  pub name-says : (r : Result Part ℕ) → r ≡ nth_name img n →
      (r ≡ nth_name img n) × ((number_of r ≡ nth_name_test img n) × (place_values r ≡ nth_name_values img n))
  name-says r = says part_values _ _ _ r name_by

  pub name-never-0 : nth_name img n ≡ Err 0 → ⊥
  name-never-0 = never-0 _ _ _ name_by

-- The lookup, and what passes on its number

find-by : (frame id : ℕ) (es : List Entry) → find_entry frame id es
    ≡ by (not (has_entry frame id es) ⇒ 42) (entry_for frame id es)
unfolding find_entry has_entry entry_for by ◌⇒◌
find-by frame id [] = refl
find-by frame id (e ∷ es) = go (is_entry frame id e) (find-by frame id es)
  where
    go : (t : Bool) → find_entry frame id es ≡ by (not (has_entry frame id es) ⇒ 42) (entry_for frame id es) →
        elim t [ true ↦ Ok e | false ↦ find_entry frame id es ]
        ≡ by (not (t || has_entry frame id es) ⇒ 42) (elim t [ true ↦ e | false ↦ entry_for frame id es ])
    go true h = refl
    go false h = h

module _ (img : List ℕ) (frame : ℕ) (name : List ℕ) where
  lookup-by : lookup img frame name ≡ by (lookup_test img frame name) (found_entry img frame name)
  unfolding lookup lookup_in lookup_test
  lookup-by =
      let id : ℕ = index_of name (names_of img) in
      ap (λ l. elim (verdict img) [ zero ↦ l | suc k ↦ Err (suc k) ])
      (ap (λ l. elim (ltb frame (frames_of (entries_of img))) [ true ↦ l | false ↦ Err 40 ])
      (ap (λ l. elim (ltb id (length (names_of img))) [ true ↦ l | false ↦ Err 41 ]) (find-by frame id (entries_of img))
      ∙ tested (ltb id (length (names_of img))) 40 _ _)
      ∙ tested (ltb frame (frames_of (entries_of img))) 39 _ _)
      ∙ opened (verdict img) _ _

  pub lookup-says : (r : Result Entry ℕ) → r ≡ lookup img frame name →
      (r ≡ lookup img frame name) × ((number_of r ≡ lookup_test img frame name) × (listed_values r ≡ lookup_values img frame name))
  lookup-says r = says entry_values _ _ _ r lookup-by

  -- an entry that is found is the one of the values
  pub lookup-found : (e : Entry) → lookup img frame name ≡ Ok e → (lookup_test img frame name ≡ 0) × (found_entry img frame name ≡ e)
  unfolding by
  lookup-found e h = go (lookup_test img frame name) (sym lookup-by ∙ h)
    where
      go : (n : ℕ) → by n (found_entry img frame name) ≡ Ok e → (n ≡ 0) × (found_entry img frame name ≡ e)
      go zero q = (refl, ap (λ l. elim l [ Ok x ↦ x | Err k ↦ none ]) q)
      go (suc n) q = let z : suc n ≡ 0 = ap number_of q in absurd (omega arith)

  pub lookup-never-0 : lookup img frame name ≡ Err 0 → ⊥
  lookup-never-0 = never-0 _ _ _ lookup-by

  place-by : chunk_place img frame name ≡ by (lookup_test img frame name) (chunk_part (found_entry img frame name))
  unfolding chunk_place placed by
  place-by = ap placed lookup-by ∙ go (lookup_test img frame name)
    where
      go : (n : ℕ) → placed (by n (found_entry img frame name))
          ≡ by n (chunk_part (found_entry img frame name))
      go zero = refl
      go (suc n) = refl

  pub place-says : (r : Result Part ℕ) → r ≡ chunk_place img frame name →
      (r ≡ chunk_place img frame name) × ((number_of r ≡ lookup_test img frame name) × (place_values r ≡ chunk_values img frame name))
  place-says r = says part_values _ _ _ r place-by

  pub place-never-0 : chunk_place img frame name ≡ Err 0 → ⊥
  place-never-0 = never-0 _ _ _ place-by

  -- the element of the entry that is found
  module _ (k : ℕ) where
    abbrev found : Entry
    found = found_entry img frame name

    abbrev there : Number
    there = element_of found.kind (bits_of img found k)

    element-by : element img frame name k ≡ by (element_test img frame name k) there
    unfolding element element_in by ◌▹◌ ◌⇒◌
    element-by =
        ap (λ l. elim l [ Ok e ↦ element_in img e k | Err n ↦ Err n ]) lookup-by
        ∙ go (lookup_test img frame name)
      where
        go : (n : ℕ) → elim (by n found) [ Ok e ↦ element_in img e k | Err n ↦ Err n ]
            ≡ by (n ▹ (not (ltb k (found.n * found.m)) ⇒ 43)) there
        go zero = last (ltb k (found.n * found.m)) 42 there
        go (suc n) = refl

    pub element-says : (r : Result Number ℕ) → r ≡ element img frame name k →
        (r ≡ element img frame name k) × ((number_of r ≡ element_test img frame name k) × (element_values r ≡ nth_element_values img frame name k))
    element-says r = says number_values _ _ _ r element-by

    pub element-never-0 : element img frame name k ≡ Err 0 → ⊥
    element-never-0 = never-0 _ _ _ element-by
