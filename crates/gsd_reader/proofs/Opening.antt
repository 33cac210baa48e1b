-- The reader that opening gives is the one that a survey of the image tells.
use Rattle.std.specs.Prelude.{Ok, Err}
use Prim.Native.Nat.{ℕ, ◌*◌, ◌-◌, ◌≤◌}
use mathlib.Core.Path.{◌≡◌, refl, sym, ◌∙◌, ap}
use mathlib.Core.Bool.{Bool, true, false}
use mathlib.Core.List.{List}
use native.Mathlib.Omega.{arith}
use lib.ListN.{length}
use Rattle.gsd_format.specs.declared.refusal.Refusal.{Refusal}
use Rattle.gsd_format.specs.Header.{v10, layout_of}
use Rattle.gsd_format.specs.Answers.{refusal_number}
use Rattle.gsd_format.specs.Names.{names_of, flat, list_size}
use Rattle.gsd_format.specs.Opening.{most_names, verdict}
use Rattle.gsd_format.specs.Readers.{reader_of, reading}
use Rattle.gsd_format.proofs.Names.{names-of-block}
use Rattle.gsd_format.proofs.Segments.{size-10, size-recent}
use Rattle.gsd_format.proofs.Readers.{reading-ready, reading-refused}
use Rattle.gsd_open.specs.declared.survey.Survey.{Survey}
use Rattle.gsd_open.specs.Surveys.{Surveyed}
use Rattle.gsd_open.proofs.Surveys as survey
use Rattle.gsd_reader.specs.Sizes.{size_in}

pub size-old : (s : Survey) → v10 s.layout.version ≡ true → size_in s ≡ 64 * s.names.count
unfolding size_in
size-old s r = rw (r, size_in)

pub size-new : (s : Survey) → v10 s.layout.version ≡ false → size_in s ≡ s.names.list_end - s.layout.namelist
unfolding size_in
size-new s r = rw (r, size_in)

pub refused-reading : (img : List ℕ) (why : Refusal) → refusal_number why ≡ verdict img → Err (refusal_number why) ≡ reading img
refused-reading img why e = survey.refused_on img Err _ (λ k r. reading-refused img k r) why e

module _ (img starts : List ℕ) (s : Survey) (told : Surveyed img starts s) where
  laid : s.layout ≡ layout_of img
  laid = told.layout

  many : s.names.count ≡ length (names_of img)
  many = survey.many-names img starts s told

  pub few-names : s.names.count ≤ most_names
  few-names = survey.few-names img starts s told

  pub list-above : s.layout.namelist ≤ s.names.list_end
  list-above = omega (arith, told.names.above, ap (λ l. l.namelist) laid)

  size-told : size_in s ≡ list_size (layout_of img).version (names_of img)
  size-told = go (v10 (layout_of img).version) refl
    where
      go : (v : Bool) → v10 (layout_of img).version ≡ v → size_in s ≡ list_size (layout_of img).version (names_of img)
      go true r =
          size-old s (ap (λ l. v10 l.version) laid ∙ r) ∙ ap (λ n. 64 * n) many ∙ sym (size-10 (layout_of img).version (names_of img) r)
      go false r =
          size-new s (ap (λ l. v10 l.version) laid ∙ r)
          ∙ (let q : s.names.list_end - s.layout.namelist ≡ length (flat (names_of img)) =
          omega (arith, told.names.list_end r, ap (λ l. l.namelist) laid, ap (λ ns. length (flat ns)) (names-of-block img)) in q)
          ∙ sym (size-recent (layout_of img).version (names_of img) r)

  pub ready-reading : (size : ℕ) → size ≡ size_in s → Ok (record {
    frames = s.frames;
    names = s.names.count;
    entries = s.entries;
    index = s.layout.index;
    namelist = s.layout.namelist;
    size = size;
    version = s.layout.version;
  }) ≡ reading img
  unfolding reader_of
  ready-reading size is = (λ i. Ok (record {
    frames = told.frames i;
    names = many i;
    entries = told.entries i;
    index = (laid i).index;
    namelist = (laid i).namelist;
    size = (is ∙ size-told) i;
    version = (laid i).version;
  })) ∙ sym (reading-ready img told.opens)
