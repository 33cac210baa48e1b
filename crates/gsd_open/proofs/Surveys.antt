-- Laws of the survey: the opening's number test by test, and what is known of an image where it is 0.
use Prim.Native.Nat.{ℕ, zero, suc, ◌+◌, ◌*◌, ◌≤◌, ◌<◌}
use mathlib.Core.Path.{◌≡◌, refl, sym, ◌∙◌, ap}
use mathlib.Core.Bool.{Bool, false}
use mathlib.Core.List.{List, []}
use native.Mathlib.Omega.{arith}
use lib.ListN.{length, get_or}
use Rattle.gsd_format.specs.declared.Layout.{Layout}
use Rattle.gsd_format.specs.declared.refusal.Refusal.{Refusal}
use Rattle.gsd_format.specs.Answers.{refusal_number}
use Rattle.gsd_format.specs.Header.{greatest_length, v10, layout_of}
use Rattle.gsd_format.specs.Names.{name_parts, names_of, block_names}
use Rattle.gsd_format.specs.Entries.{entry_at, entries_at, entries_of, frames_of, chunks_end}
use Rattle.gsd_format.specs.Refusals.{◌▹◌}
use Rattle.gsd_format.specs.Opening.{header_test, blocks_test, most_names, names_test, entries_test, verdict, Blocks}
use Rattle.gsd_format.specs.Lookup.{none}
use Rattle.gsd_format.proofs.Refusals.{first_of, refusal-some, first-refused}
use Rattle.gsd_format.proofs.Names.{parts-of-block, names-of-block, parts-many, names-pass}
use Rattle.gsd_format.proofs.Entries.{image-entries}
use Rattle.gsd_format.proofs.Verdict.{header-zero, blocks-zero, verdict-zero}
use Rattle.gsd_names.specs.declared.list.NameList.{NameList}
use Rattle.gsd_names.specs.NameLists.{parts_from, names_in, Spans, NamesFound}
use Rattle.gsd_names.proofs.NameLists.{found-count, found-names}
use Rattle.gsd_open.specs.declared.index.Walk.{Walk}
use Rattle.gsd_open.specs.declared.survey.Survey.{Survey}
use Rattle.gsd_open.specs.Index.{frames_to, Walks}
use Rattle.gsd_open.specs.Surveys.{Laid, Surveyed}

-- the verdict is the number of the first part that refuses
pub bad-header : (img : List ℕ) (r : Refusal) → refusal_number r ≡ header_test img → refusal_number r ≡ verdict img
unfolding verdict
bad-header img r e = first-refused r _ _ e

pub bad-blocks : (img : List ℕ) (l : Layout) (r : Refusal) → header_test img ≡ 0 → l ≡ layout_of img → refusal_number r ≡ blocks_test l →
    refusal_number r ≡ verdict img
unfolding verdict
bad-blocks img l r header at e = first-refused r _ _ (e ∙ ap blocks_test at) ∙ sym (first_of _ _ header)

pub layout-length : (img : List ℕ) (l : Layout) → l ≡ layout_of img → l.len ≡ length img
unfolding layout_of
layout-length img l at = ap (λ k. k.len) at

-- behind header and blocks
module _ (img : List ℕ) (l : Layout) (laid : Laid img l) where
  pub laid-length : l.len ≡ length img
  laid-length = layout-length img l laid.layout

  pub laid-short : length img ≤ greatest_length
  laid-short = ((header-zero img).0 laid.header).high

  pub laid-blocks : Blocks l
  laid-blocks = (blocks-zero l).0 laid.blocks

  behind : verdict img ≡ names_test img (layout_of img) (names_of img) ▹ entries_test (layout_of img) (length (names_of img)) [] (entries_of img)
  unfolding verdict
  behind = first_of _ _ laid.header ∙ first_of _ _ (ap blocks_test (sym laid.layout) ∙ laid.blocks)

  abbrev pub block : List (List ℕ)
  block = block_names img l

  block-names : block ≡ names_of img
  block-names = (λ i. block_names img (laid.layout i)) ∙ sym (names-of-block img)

  pub bad-names : (r : Refusal) → refusal_number r ≡ names_test img l block → refusal_number r ≡ verdict img
  bad-names r e = first-refused r _ _ (e ∙ (λ i. names_test img (laid.layout i) (block-names i))) ∙ sym behind

  -- where no part refuses, the answer is what the walk says
  module _ (starts : List ℕ) (list : NameList) (good : names_test img l block ≡ 0) (found : NamesFound img l starts list) where
    closed : list.«open» ≡ false
    closed = found.«open» ∙ (names-pass img l block good).0

    pub few-found : list.count ≤ most_names
    few-found = omega (arith, found-count img l starts list found closed, (names-pass img l block good).1)

    same-count : list.count ≡ length (names_of img)
    same-count = sym (found-count img l starts list found closed) ∙ ap length block-names

    -- the walk's number is the verdict, for no part before it refuses
    pub walked-verdict : (n : ℕ) → n ≡ entries_test l list.count [] (entries_at img l.index l.slots) → n ≡ verdict img
    unfolding entries_of
    walked-verdict n e =
        e ∙ (λ i. entries_test (laid.layout i) (same-count i) [] (entries_at img (laid.layout i).index (laid.layout i).slots))
        ∙ sym (first_of _ _ ((λ i. names_test img (sym laid.layout i) (sym block-names i)) ∙ good)) ∙ sym behind

    pub walked : (w : Walk) → 0 ≡ entries_test l list.count [] (entries_at img l.index l.slots) → Walks (entries_at img l.index l.slots) w →
        (frames : ℕ) → frames ≡ frames_to w.least →
        Surveyed img starts (record { layout = l; names = list; entries = w.entries; frames = frames; chunks_end = w.chunks_end })
    unfolding entries_of
    walked w passes walks frames framed =
        let es : entries_at img l.index l.slots ≡ entries_of img = λ i. entries_at img (laid.layout i).index (laid.layout i).slots in
        record {
          opens = sym (walked-verdict 0 passes);
          layout = laid.layout;
          names = rw laid.layout at found;
          entries = walks.entries ∙ ap length es;
          frames = framed ∙ walks.frames ∙ ap frames_of es;
          chunks = walks.chunks ∙ ap chunks_end es;
        }

-- the slots of the listed entries
module _ (img : List ℕ) (good : verdict img ≡ 0) (i : ℕ) (few : i < length (entries_of img)) where
  pub slot-within : (layout_of img).index + 32 * i + 32 ≤ length img
  slot-within = omega (arith, ((verdict-zero img).0 good).blocks.index_high, layout-length img (layout_of img) refl, (image-entries img).few)

  pub slot-entry : (at : ℕ) → at ≡ (layout_of img).index + 32 * i → entry_at img at ≡ get_or (entries_of img) i none
  slot-entry at e = ap (entry_at img) e ∙ (image-entries img).each i few

-- the entries lie behind the header, in the image
pub entries-within : (img : List ℕ) → verdict img ≡ 0 → 256 + 32 * length (entries_of img) ≤ length img
entries-within img good =
    let blocks = ((verdict-zero img).0 good).blocks in
    omega (arith, blocks.index_low, blocks.index_high, layout-length img (layout_of img) refl, (image-entries img).few)

-- By the survey

-- a refusal passes the number on
pub passed_on : {A : Type 0} (img : List ℕ) (refusal : ℕ → A) (answer : A) → ((k : ℕ) → verdict img ≡ suc k → answer ≡ refusal (suc k)) →
    (number : ℕ) → number ≡ verdict img → (number ≡ 0 → ⊥) → refusal number ≡ answer
passed_on img refusal answer h zero e n = absurd (n refl)
passed_on img refusal answer h (suc k) e n = sym (h k (sym e))

-- the same where code has the refusal
pub refused_on : {A : Type 0} (img : List ℕ) (refusal : ℕ → A) (answer : A) → ((k : ℕ) → verdict img ≡ suc k → answer ≡ refusal (suc k)) →
    (r : Refusal) → refusal_number r ≡ verdict img → refusal (refusal_number r) ≡ answer
refused_on img refusal answer h r e = passed_on img refusal answer h (refusal_number r) e (λ z. omega (arith, refusal-some r, z))

module _ (img starts : List ℕ) (s : Survey) (told : Surveyed img starts s) where
  listed : NamesFound img (layout_of img) starts s.names
  listed = told.names

  shut : s.names.«open» ≡ false
  shut = listed.«open» ∙ (names-pass img (layout_of img) _ (ap (names_test img (layout_of img)) (sym (names-of-block img)) ∙ ((verdict-zero img).0 told.opens).names)).0

  pub many-parts : s.names.count ≡ length (name_parts img)
  many-parts = listed.count shut ∙ ap length (sym (parts-of-block img))

  pub many-names : s.names.count ≡ length (names_of img)
  many-names = many-parts ∙ parts-many img

  pub few-names : s.names.count ≤ most_names
  few-names = omega (arith, many-names, (names-pass img (layout_of img) (names_of img) ((verdict-zero img).0 told.opens).names).1)

  -- is it 1.0, as the survey tells
  abbrev pub told10 : Bool
  told10 = v10 s.layout.version

  same10 : v10 (layout_of img).version ≡ told10
  same10 = ap (λ l. v10 l.version) (sym told.layout)

  pub spans : Spans told10 starts s.names.count (length img)
  spans = rw same10 at (listed.spans shut few-names)

  pub kept-names : names_in told10 img starts s.names.count ≡ names_of img
  kept-names = rw same10 at (found-names img (layout_of img) starts s.names listed shut few-names ∙ sym (names-of-block img))

  pub kept-parts : parts_from told10 starts 0 s.names.count ≡ name_parts img
  kept-parts = rw same10 at (listed.parts shut few-names ∙ sym (parts-of-block img))

  -- the slots of its entries
  pub index-there : s.layout.index ≡ (layout_of img).index
  index-there = ap (λ l. l.index) told.layout

  pub entry-within : (n : ℕ) → n < s.entries → s.layout.index + 32 * n + 32 ≤ length img
  entry-within n h = omega (arith, slot-within img told.opens n (omega (arith, told.entries)), index-there)
