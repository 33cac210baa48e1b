-- A lookup's probes: its list where it searches and where it does not, and that every promise about it holds.
use Rattle.std.specs.Prelude.{Ok, Err}
use Prim.Native.Nat.{ℕ, zero, suc, ◌+◌, ◌≤◌, ◌<◌}
use mathlib.Core.Path.{◌≡◌, refl, sym, ◌∙◌, ap}
use mathlib.Core.Logic.{◌↔◌}
use mathlib.Core.Bool.{not}
use mathlib.Core.List.{List, []}
use native.Mathlib.Decide.{ℕ_discrete}
use native.Mathlib.Omega.{arith}
use lib.ListN.{length, get_or}
use borrow.Author.Tests.{ltb-true, not-false, lt-ltb}
use Rattle.gsd_format.specs.declared.Entry.{Entry}
use Rattle.gsd_format.specs.Refusals.{◌⇒◌, ◌▹◌}
use Rattle.gsd_format.specs.Header.{layout_of}
use Rattle.gsd_format.specs.Names.{names_of, index_of}
use Rattle.gsd_format.specs.Entries.{entries_of, frames_of}
use Rattle.gsd_format.specs.Opening.{most_names, verdict}
use Rattle.gsd_format.specs.Lookup.{nth_entry, lookup}
use Rattle.gsd_format.specs.Search.{binary_digits, halved, probed}
use Rattle.gsd_format.specs.Answers.{number_of}
use Rattle.gsd_format.specs.Calls.{unless, has_entry, lookup_test, search_test, probes_of}
use Rattle.gsd_format.specs.Probes.{spread, Among, Around, Belongs, Probes}
use Rattle.gsd_format.proofs.Refusals.{both, none_of, stays, ▹-assoc, unmet, passed, first-most, test-most, not-of}
use Rattle.gsd_format.proofs.Lists.{each_at, any_at}
use Rattle.gsd_format.proofs.Names.{names-pass}
use Rattle.gsd_format.proofs.Verdict.{verdict-zero, verdict-most}
use Rattle.gsd_format.proofs.Entries.{ShortIds}
use Rattle.gsd_format.proofs.Arranged.{Arranged}
use Rattle.gsd_format.proofs.Lookup.{Stands, stands-frame, stands-id, Lacks, find-sound, find-lacks}
use Rattle.gsd_format.proofs.Lookup.{Met, look-entry, look-found, opened-lookup, opened-entry, found-opens}
use Rattle.gsd_format.proofs.Calls.{lookup-says}
use Rattle.gsd_format.proofs.Search.{Has, probed-within, probed-few, probed-found, probed-around, probed-before, place-belongs}

module _ (img : List ℕ) (frame : ℕ) (name : List ℕ) where
  abbrev id : ℕ
  id = index_of name (names_of img)

  abbrev version : ℕ
  version = (layout_of img).version

  -- the lookup's numbers are those before the search, and 42
  pub lookup-searches : lookup_test img frame name ≡ search_test img frame name ▹ (not (has_entry frame id (entries_of img)) ⇒ 42)
  unfolding lookup_test search_test
  lookup-searches = sym (▹-assoc (verdict img) _ _ ∙ ap (λ n. verdict img ▹ n) (▹-assoc _ _ _))

  pub probes-none : (search_test img frame name ≡ 0 → ⊥) → probes_of img frame name ≡ []
  unfolding unless
  probes-none n = go (search_test img frame name) n
    where
      go : (t : ℕ) → (t ≡ 0 → ⊥) → unless t (probed version frame id (entries_of img)) ≡ []
      go zero n = absurd (n refl)
      go (suc t) n = refl

  pub probes-some : search_test img frame name ≡ 0 → probes_of img frame name ≡ probed version frame id (entries_of img)
  unfolding unless
  probes-some z = ap (λ n. unless n (probed version frame id (entries_of img))) z

  -- it searches exactly where the image opens, the frame is there and the name is listed
  pub search-zero : search_test img frame name ≡ 0 ↔ (verdict img ≡ 0) × (frame < frames_of (entries_of img)) × (id < length (names_of img))
  unfolding search_test
  search-zero = (to, from)
    where
      to : search_test img frame name ≡ 0 → (verdict img ≡ 0) × (frame < frames_of (entries_of img)) × (id < length (names_of img))
      to z =
          let a = both _ _ z in
          let b = both _ _ a.1 in
          (a.0, ltb-true _ _ (not-false _ (unmet _ _ b.0)), ltb-true _ _ (not-false _ (unmet _ _ b.1)))

      from : (verdict img ≡ 0) × (frame < frames_of (entries_of img)) × (id < length (names_of img)) → search_test img frame name ≡ 0
      from p = none_of _ _ p.0 (none_of _ _ (passed _ _ (not-of _ (lt-ltb _ _ p.1))) (passed _ _ (not-of _ (lt-ltb _ _ p.2))))

  -- where it finds an entry or answers 42 it has searched
  found-searches : (e : Entry) → lookup img frame name ≡ Ok e → search_test img frame name ≡ 0
  found-searches e h =
      let opens : verdict img ≡ 0 = found-opens img frame name e h in
      let met : Met (entries_of img) (names_of img) frame name e =
      (look-found (entries_of img) (names_of img) frame name e).0 (sym (opened-lookup img opens frame name) ∙ h) in
      search-zero.1 (opens, met.0, met.1)

  search-most : search_test img frame name ≤ 41
  unfolding search_test
  search-most =
      first-most 41 _ _ (omega (arith, verdict-most img)) (first-most 41 _ _ (test-most 41 _ 40 (omega arith)) (test-most 41 _ 41 (omega arith)))

  missing-searches : lookup img frame name ≡ Err 42 → search_test img frame name ≡ 0
  missing-searches h = go (ℕ_discrete (search_test img frame name) 0)
    where
      number : lookup_test img frame name ≡ 42
      number = sym (lookup-says img frame name (lookup img frame name) refl).1.0 ∙ ap number_of h

      go : Dec (search_test img frame name ≡ 0) → search_test img frame name ≡ 0
      go (yes z) = z
      go (no n) = absurd (omega (arith, search-most, number, lookup-searches ∙ stays (search_test img frame name) _ n))

  -- All that is promised

  -- a number that the list has, by its place there
  among : (i : ℕ) → search_test img frame name ≡ 0 → Has i (probed version frame id (entries_of img)) → Among i (probes_of img frame name)
  among i z h = rw (probes-some z) (any_at (λ j. j ≡ i) (probed version frame id (entries_of img)) 0 h)

  arranged : search_test img frame name ≡ 0 → Arranged version [] (entries_of img)
  arranged z = ((verdict-zero img).0 (search-zero.0 z).0).arranged

  -- ids are below the number of names, and names are few
  few-names : search_test img frame name ≡ 0 → length (names_of img) ≤ most_names
  few-names z = (names-pass img (layout_of img) (names_of img) ((verdict-zero img).0 (search-zero.0 z).0).names).1

  ids : search_test img frame name ≡ 0 → ShortIds (entries_of img)
  ids z i l = omega (arith, few-names z, (((verdict-zero img).0 (search-zero.0 z).0).sound i l).named)

  short : search_test img frame name ≡ 0 → id < 65536
  short z = omega (arith, few-names z, (search-zero.0 z).2)

  pub probes : Probes img frame name
  probes = record {
    found = λ e h. found e h (found-searches e h);
    missing = λ h. missing h (missing-searches h);
    within = within;
    few = few (ℕ_discrete (search_test img frame name) 0);
    unsought = probes-none;
  }
    where
      found : (e : Entry) → lookup img frame name ≡ Ok e → search_test img frame name ≡ 0 →
          (i : ℕ) × (nth_entry img i ≡ Ok e) × Among i (probes_of img frame name)
      found e h z =
          let opens : verdict img ≡ 0 = (search-zero.0 z).0 in
          let met : Met (entries_of img) (names_of img) frame name e =
          (look-found (entries_of img) (names_of img) frame name e).0 (sym (opened-lookup img opens frame name) ∙ h) in
          let s : Stands (entries_of img) frame id e = find-sound frame id (entries_of img) e met.2 in (
            s.place,
            opened-entry img opens s.place s.within ∙ ap Ok s.there,
            among s.place z (probed-found version frame id (entries_of img) (arranged z) (ids z) (short z)
                s.place s.within (stands-frame s) (stands-id s)),
          )

      missing : lookup img frame name ≡ Err 42 → search_test img frame name ≡ 0 →
          (p : ℕ) × Belongs version frame id (entries_of img) p (spread version frame (entries_of img))
          × Around p (spread version frame (entries_of img)) (length (entries_of img)) (probes_of img frame name)
      missing h z =
          let met = search-zero.0 z in
          let lacks : Lacks (entries_of img) frame id =
          find-lacks frame id (entries_of img) 42
          (sym (look-entry (entries_of img) (names_of img) frame name met.1 met.2) ∙ sym (opened-lookup img met.0 frame name) ∙ h) in
          let belongs = place-belongs version frame id (entries_of img) (arranged z) (ids z) (short z) lacks in
          let around = probed-around version frame id (entries_of img) (arranged z) (ids z) (short z) lacks in (
            (halved version frame id (entries_of img)).place,
            belongs,
            record {
              inside = λ i l u. among i z (around i l (omega arith) (omega (arith, belongs.high)));
              next = λ u. among _ z (around _ (omega arith) (omega arith) u);
              before = λ u. among _ z (probed-before version frame id (entries_of img) u);
            },
          )

      within : (i : ℕ) → Among i (probes_of img frame name) → i < length (entries_of img)
      within i a = go (ℕ_discrete (search_test img frame name) 0) a
        where
          go : Dec (search_test img frame name ≡ 0) → Among i (probes_of img frame name) → i < length (entries_of img)
          go (no n) a = absurd (omega (arith, ap length (probes-none n), a.1))
          go (yes z) a =
              let l : a.0 < length (probed version frame id (entries_of img)) = omega (arith, ap length (probes-some z), a.1) in
              omega (
                arith,
                each_at (λ j. j < length (entries_of img)) (probed version frame id (entries_of img)) 0 (probed-within version frame id (entries_of img)) a.0 l,
                sym (ap (λ ps. get_or ps a.0 0) (probes-some z)) ∙ a.2,
              )

      few : Dec (search_test img frame name ≡ 0) →
          length (probes_of img frame name) ≤ binary_digits (length (entries_of img)) + 1 + spread version frame (entries_of img)
      few (no n) = rw (probes-none n) (omega arith)
      few (yes z) = rw (probes-some z) (probed-few version frame id (entries_of img))
