-- What the calls answer by what the survey says: the counts, the n-th entry and name, and the lookup with the probes of its
-- search.
use Rattle.std.specs.Prelude.{Result, Ok, Err}
use Rattle.gsd_format.specs.declared.Entry.{Entry}
use Rattle.gsd_format.specs.declared.refusal.Refusal.{Refusal}
use Rattle.gsd_format.specs.Answers.{refusal_number, number_of, numbered, refused}
use Rattle.gsd_format.proofs.Refusals.{refusal-some}
use Prim.Native.Nat.{ℕ, ◌+◌, ◌*◌, ◌≤◌, ◌<◌}
use mathlib.Core.Path.{◌≡◌, refl, sym, ◌∙◌, ap}
use mathlib.Core.Bool.{Bool}
use mathlib.Core.List.{List}
use native.Mathlib.Omega.{arith}
use lib.ListN.{length}
use Rattle.gsd_format.specs.Header.{layout_of}
use Rattle.gsd_format.specs.Names.{name_parts, names_of, index_of}
use Rattle.gsd_format.specs.Entries.{entry_at, slots_at, entries_of, frames_of}
use Rattle.gsd_format.specs.Opening.{verdict, counts_of, opening}
use Rattle.gsd_format.specs.Lookup.{nth_entry, nth_name, find_entry, lookup}
use Rattle.gsd_format.specs.Search.{probed, searched}
use Rattle.gsd_format.specs.Calls.{search_test, probes_of}
use Rattle.gsd_format.proofs.Entries.{ShortIds, image-entries, image-slots}
use Rattle.gsd_format.proofs.Verdict.{verdict-zero, opening-open}
use Rattle.gsd_format.proofs.Lookup.{look-frame, look-name, look-entry, opened-lookup, refused-lookup}
use Rattle.gsd_format.proofs.Lookup.{opened-entry, opened-no-entry, opened-name, opened-no-name}
use Rattle.gsd_format.proofs.Search.{searched-finds}
use Rattle.gsd_format.proofs.Probes.{search-zero, probes-none, probes-some}
use Rattle.gsd_open.specs.declared.survey.Survey.{Survey}
use Rattle.gsd_names.specs.NameLists.{part_at, parts_from}
use Rattle.gsd_names.proofs.NameLists.{from-length, listed-part}
use Rattle.gsd_open.specs.Surveys.{Surveyed}
use Rattle.gsd_open.proofs.Surveys as survey
use Rattle.gsd_search.specs.declared.probing.Query.{Query}
use Rattle.gsd_search.specs.Queries.{slots_for, probes_for, answer_for, Fits}

-- why the code refuses is the number of its answer
pub refused_number : {A : Type 0} (r : Result A Refusal) → refused r ≡ number_of (numbered r)
refused_number (Ok x) = refl
refused_number (Err r) = refl

-- what a search answers of an image: its lookup, and how many probes that makes
abbrev pub Told : List ℕ → ℕ → List ℕ → Result Entry ℕ → ℕ → Type 0
Told img frame name answer probes = (answer ≡ lookup img frame name) × (probes ≡ length (probes_of img frame name))

-- no search, no probe
unsought : (img : List ℕ) (frame : ℕ) (name : List ℕ) → (search_test img frame name ≡ 0 → ⊥) → 0 ≡ length (probes_of img frame name)
unsought img frame name n = sym (ap length (probes-none img frame name n))

pub not_opened : (img : List ℕ) (frame : ℕ) (name : List ℕ) (why : Refusal) → refusal_number why ≡ verdict img →
    Told img frame name (Err (refusal_number why)) 0
not_opened img frame name why e = (
  survey.refused_on img Err _ (λ k r. refused-lookup img k r frame name) why e,
  unsought img frame name (λ z. omega (arith, refusal-some why, e, ((search-zero img frame name).0 z).0)),
)

module _ (img starts : List ℕ) (s : Survey) (told : Surveyed img starts s) where
  opens : verdict img ≡ 0
  opens = told.opens

  many-names : s.names.count ≡ length (names_of img)
  many-names = survey.many-names img starts s told

  pub opened : opening img ≡ Ok (record { frames = s.frames; names = s.names.count; entries = s.entries })
  unfolding counts_of
  opened =
      opening-open img opens
      ∙ (λ i. Ok (record { frames = sym (told.frames) i; names = sym many-names i; entries = sym (told.entries) i }))

  -- the n-th entry
  pub entry-there : (n : ℕ) → n < s.entries → nth_entry img n ≡ Ok (entry_at img (s.layout.index + 32 * n))
  entry-there n h =
      let few : n < length (entries_of img) = omega (arith, told.entries) in
      let at = survey.slot-entry img opens n few (s.layout.index + 32 * n) (omega (arith, survey.index-there img starts s told)) in
      opened-entry img opens n few ∙ ap Ok (sym at)

  pub no-entry : (n : ℕ) → s.entries ≤ n → nth_entry img n ≡ Err 44
  no-entry n h = opened-no-entry img opens n (omega (arith, told.entries))

  -- the n-th name
  pub name-there : (v : Bool) (places : List ℕ) (count : ℕ) → parts_from v places 0 count ≡ name_parts img → (n : ℕ) → n < count →
      nth_name img n ≡ Ok (part_at v places n)
  name-there v places count parts n h =
      opened-name img opens n (omega (arith, ap length parts, from-length count v places 0)) ∙ ap Ok (listed-part v places count _ parts n h)

  pub no_name : (n : ℕ) → s.names.count ≤ n → nth_name img n ≡ Err 44
  no_name n h = opened-no-name img opens n (omega (arith, survey.many-parts img starts s told))

  -- the search, which answers the lookup and counts its probes
  module _ (frame : ℕ) (name : List ℕ) where
    pub no-frame : s.frames ≤ frame → Told img frame name (Err 40) 0
    no-frame h = (
      sym (opened-lookup img opens frame name ∙ look-frame (entries_of img) (names_of img) frame name (omega (arith, told.frames))),
      unsought img frame name (λ z. omega (arith, told.frames, ((search-zero img frame name).0 z).1)),
    )

    -- id is what the search for the name answers
    module _ (id : ℕ) (sought : id ≡ index_of name (names_of img)) (there : frame < s.frames) where
      pub not_listed : s.names.count ≤ id → Told img frame name (Err 41) 0
      not_listed h = (
        sym (opened-lookup img opens frame name
            ∙ look-name (entries_of img) (names_of img) frame name (omega (arith, told.frames)) (omega (arith, sought, many-names))),
        unsought img frame name (λ z. omega (arith, sought, many-names, ((search-zero img frame name).0 z).2)),
      )

      module _ (listed : id < s.names.count) where
        abbrev query : Query
        query = record { index = s.layout.index; count = s.entries; version = s.layout.version; frame = frame; id = id }

        pub query-fits : Fits img query
        query-fits =
            let blocks = ((verdict-zero img).0 opens).blocks in
            let long : (layout_of img).len ≡ length img = survey.layout-length img (layout_of img) refl in
            let end : s.layout.index + 32 * s.entries ≤ length img =
            omega (arith, told.entries, survey.index-there img starts s told, (image-entries img).few, blocks.index_high) in
            record {
              slots = end;
              end = omega (arith, ((verdict-zero img).0 opens).front.high);
              short = omega (arith, survey.few-names img starts s told);
            }

        -- the slots searched are those of the listed entries
        entries : slots_for img query ≡ entries_of img
        entries = (λ i. slots_at img (survey.index-there img starts s told i) (told.entries i)) ∙ image-slots img

        version : s.layout.version ≡ (layout_of img).version
        version = ap (λ l. l.version) told.layout

        ids : ShortIds (entries_of img)
        ids i l = omega (arith, many-names, survey.few-names img starts s told, (((verdict-zero img).0 opens).sound i l).named)

        pub look-on : (answer : Result Entry ℕ) (probes : ℕ) → answer ≡ answer_for img query → probes ≡ length (probes_for img query) →
            Told img frame name answer probes
        look-on answer probes a n =
            let here : frame < frames_of (entries_of img) = omega (arith, told.frames) in
            let known : index_of name (names_of img) < length (names_of img) = omega (arith, sought, many-names) in (
              a ∙ (λ i. searched (version i) frame id (entries i))
                  ∙ searched-finds (layout_of img).version frame id (entries_of img) ((verdict-zero img).0 opens).arranged ids query-fits.short
                  ∙ ap (λ k. find_entry frame k (entries_of img)) sought
                  ∙ sym (opened-lookup img opens frame name ∙ look-entry (entries_of img) (names_of img) frame name here known),
              n ∙ (λ i. length (probed (version i) frame id (entries i)))
                  ∙ ap (λ k. length (probed (layout_of img).version frame k (entries_of img))) sought
                  ∙ ap length (sym (probes-some img frame name ((search-zero img frame name).1 (opens, here, known)))),
            )
