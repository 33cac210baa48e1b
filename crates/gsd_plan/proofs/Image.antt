-- The numbers of an image that opens, and of its survey.
use Prim.Native.Nat.{ℕ, suc, ◌+◌, ◌*◌, ◌≤◌, ◌<◌, max}
use mathlib.Core.Path.{◌≡◌, refl, sym, ◌∙◌, ap}
use mathlib.Core.Bool.{false}
use mathlib.Core.List.{List, [], ◌∷◌}
use native.Mathlib.Omega.{arith}
use lib.ListN.{length, get_or}
use Rattle.gsd_format.specs.declared.Entry.{Entry}
use Rattle.gsd_format.specs.Header.{v10, greatest_length, layout_of, aligned}
use Rattle.gsd_format.specs.Types.{chunk_size}
use Rattle.gsd_format.specs.Names.{flat, names_of}
use Rattle.gsd_format.specs.Entries.{chunks_end, entries_of}
use Rattle.gsd_format.specs.Lookup.{none}
use Rattle.gsd_format.specs.Opening.{verdict, most_names}
use Rattle.gsd_format.proofs.Names.{names-hold, names-of-block, names-recent, names-pass}
use Rattle.gsd_format.proofs.Entries.{image-entries}
use Rattle.gsd_format.proofs.Walk.{chunks-none, chunks-more}
use Rattle.gsd_format.proofs.Verdict.{Opens, verdict-zero}
use Rattle.gsd_stores.specs.View.{View, view_of, end_of_use, index_end, namelist_end}
use Rattle.gsd_stores.proofs.Plan.{end-of-use}
use Rattle.gsd_open.specs.declared.survey.Survey.{Survey}
use Rattle.gsd_open.specs.Surveys.{Surveyed}
use Rattle.gsd_open.proofs.Surveys.{many-names as survey-many}
use Rattle.gsd_plan.specs.Planning.{Sees}

-- The numbers of an image that opens

chunks-within : (es : List Entry) (n : ℕ) → ((i : ℕ) → i < length es → (get_or es i none).location + chunk_size (get_or es i none) ≤ n) → chunks_end es ≤ n
chunks-within [] n h = omega (arith, chunks-none)
chunks-within (e ∷ es) n h = omega (arith, chunks-more e es, h 0 (omega arith), chunks-within es n (λ i l. h (suc i) (omega arith)))

pub record Room (v : View) : Type 0 where
  pub long : v.layout.len ≤ greatest_length
  pub index : index_end v.layout ≤ v.layout.len
  pub names : namelist_end v.layout ≤ v.layout.len
  pub entries : length v.entries ≤ v.layout.slots
  pub listed : length (flat v.names) ≤ 64 * v.layout.segments
  pub chunks : chunks_end v.entries ≤ v.layout.len
  pub few_names : length v.names ≤ most_names

pub view-room : (x : List ℕ) → verdict x ≡ 0 → v10 (layout_of x).version ≡ false → Room (view_of x)
unfolding view_of layout_of
view-room x o r =
    let opens : Opens x = (verdict-zero x).0 o in
    record {
      long = opens.front.high;
      index = opens.blocks.index_high;
      names = opens.blocks.namelist_high;
      entries = (image-entries x).few;
      listed = rw (names-of-block x ∙ names-recent x (layout_of x) r) (names-hold x (layout_of x).namelist (64 * (layout_of x).segments)).few;
      chunks = chunks-within (entries_of x) (layout_of x).len (λ i l. (opens.sound i l).within);
      few_names = (names-pass x (layout_of x) (names_of x) opens.names).1;
    }

pub view-length : (x : List ℕ) → (view_of x).layout.len ≡ length x
unfolding view_of layout_of
view-length x = refl

-- the same, as they are seen
pub record Within (s : Survey) : Type 0 where
  pub index : index_end s.layout ≤ greatest_length
  pub names : namelist_end s.layout ≤ greatest_length
  pub chunks : s.chunks_end ≤ greatest_length
  pub entries : s.entries ≤ s.layout.slots
  pub low : s.layout.namelist ≤ s.names.list_end
  pub high : s.names.list_end ≤ namelist_end s.layout

pub seen-room : (x : List ℕ) (s : Survey) → Sees x s → Room (view_of x)
unfolding view_of
seen-room x s see = view-room x see.opens (sym (ap (λ l. v10 l.version) see.layout) ∙ see.recent)

module _ (x : List ℕ) (s : Survey) (see : Sees x s) where
  room : Room (view_of x)
  room = seen-room x s see

  pub seen-within : Within s
  seen-within = record {
    index = omega (arith, ap index_end see.layout, room.index, room.long);
    names = omega (arith, ap namelist_end see.layout, room.names, room.long);
    chunks = omega (arith, see.chunks, room.chunks, room.long);
    entries = omega (arith, see.entries, ap (λ l. l.slots) see.layout, room.entries);
    low = omega (arith, see.list_end, ap (λ l. l.namelist) see.layout);
    high = omega (arith, see.list_end, ap namelist_end see.layout, ap (λ l. l.namelist) see.layout, room.listed);
  }

  pub use-need : (index_end s.layout ≤ greatest_length) × ((namelist_end s.layout ≤ greatest_length) × (s.chunks_end ≤ greatest_length))
  use-need = (seen-within.index, (seen-within.names, seen-within.chunks))

  -- where the data begin
  pub use-found : (r : ℕ) → r ≡ aligned (max 256 (max (index_end s.layout) (max (namelist_end s.layout) s.chunks_end))) → r ≡ end_of_use (view_of x)
  unfolding end_of_use
  use-found r e = e ∙ λ i. aligned (max 256 (max (index_end (see.layout i)) (max (namelist_end (see.layout i)) (see.chunks i))))

  pub use-small : (r : ℕ) → r ≡ end_of_use (view_of x) → r < 4611686018427387904
  use-small r e = omega (arith, (end-of-use (view_of x)).least, room.index, room.names, room.chunks, room.long)

-- What the survey of an image that opens tells

module _ (x starts : List ℕ) (s : Survey) (told : Surveyed x starts s) where
  pub sees : v10 s.layout.version ≡ false → Sees x s
  unfolding view_of
  sees r = record {
    opens = told.opens;
    recent = r;
    layout = told.layout;
    entries = told.entries;
    frames = told.frames;
    list_end = told.names.list_end (sym (ap (λ l. v10 l.version) told.layout) ∙ r)
        ∙ ap (λ ns. (layout_of x).namelist + length (flat ns)) (sym (names-of-block x));
    chunks = told.chunks;
  }

  pub listed-many : (count : ℕ) → count ≡ s.names.count → count ≡ length (view_of x).names
  unfolding view_of
  listed-many count e = e ∙ survey-many x starts s told

-- the names listed in it
pub listed-are : (x : List ℕ) (ns : List (List ℕ)) → ns ≡ names_of x → ns ≡ (view_of x).names
unfolding view_of
listed-are x ns e = e
