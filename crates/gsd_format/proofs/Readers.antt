-- What a reader answers: the reader of an image answers, on every image that kept what the image listed, as the calls do on
-- the image itself. On the image itself that is the first theorem about readers.
use Rattle.std.specs.Prelude.{Result, Ok, Err}
use Prim.Native.Nat.{ℕ, zero, suc, ◌+◌, ◌*◌, ◌-◌, ◌≤◌, ◌<◌}
use mathlib.Core.Path.{◌≡◌, refl, sym, ◌∙◌, ap}
use mathlib.Core.Bool.{true, false}
use mathlib.Core.List.{List, [], ◌∷◌, map}
use native.Mathlib.Nat.{mul-le-mul_right}
use native.Mathlib.Decide.{dec_lt}
use native.Mathlib.Omega.{arith}
use lib.ListN.{length, get_or, take}
use lib.Seq.{take-length}
use borrow.Author.Tests.{lt-ltb, le-ltb, le-leb}
use Rattle.gsd_format.specs.declared.Entry.{Entry}
use Rattle.gsd_format.specs.declared.Part.{Part}
use Rattle.gsd_format.specs.declared.Reader.{Reader}
use Rattle.gsd_format.specs.Types.{size_of, chunk_size}
use Rattle.gsd_format.specs.Header.{greatest_length, layout_of}
use Rattle.gsd_format.specs.Names.{name_parts, names_of, bytes_of, list_size, list_parts, index_of}
use Rattle.gsd_format.specs.Entries.{entry_at, entries_of, frames_of}
use Rattle.gsd_format.specs.Opening.{most_names, verdict}
use Rattle.gsd_format.specs.Lookup.{none, nowhere, nth_entry, nth_name, find_entry, lookup_in, lookup, chunk_of, placed, chunk_place, bytes_at}
use Rattle.gsd_format.specs.Search.{searched}
use Rattle.gsd_format.specs.Elements.{element_of, element_in, element}
use Rattle.gsd_format.specs.Readers.{reader_of, reading, fits, entries_by, parts_by, names_by, entry_by, nth_part, name_by, ident_in, id_by}
use Rattle.gsd_format.specs.Readers.{counted, find_by, found_for, lookup_by, place_behind, last_before, newest_by, newest_entry}
use Rattle.gsd_format.specs.Readers.{holds, chunk_for, chunk_place_by, element_for, element_by, Reads}
use Rattle.gsd_format.proofs.Lists.{Each, each_at}
use Rattle.gsd_format.proofs.Refusals.{both_of}
use Rattle.gsd_format.proofs.Bytes.{Same, le_same, part_same}
use Rattle.gsd_format.proofs.Names.{names-pass, parts-many}
use Rattle.gsd_format.proofs.Segments.{Within, list_same, list-within, list-listed, list-few}
use Rattle.gsd_format.proofs.Entries.{IsEntries, ShortIds, image-entries, entries-kept, slots-listed}
use Rattle.gsd_format.proofs.Verdict.{Opens, Sound, verdict-zero, sound-ids}
use Rattle.gsd_format.proofs.Lookup.{Stands, find-sound, look-frame, look-name, look-entry, look-found}
use Rattle.gsd_format.proofs.Lookup.{opened-lookup, opened-entry, opened-no-entry, opened-name, opened-no-name}
use Rattle.gsd_format.proofs.Search.{searched-finds}
use Rattle.gsd_format.proofs.Elements.{element-at, element-behind}
use Rattle.gsd_format.proofs.Newest.{newest-is}

-- y has what m lists: the entries, the names and the chunks, each where it was
pub record InPlace (m y : List ℕ) : Type 0 where
  pub long : length y ≡ length m
  pub entries : Same y (layout_of m).index m (layout_of m).index (32 * length (entries_of m))
  pub names : Same y (layout_of m).namelist m (layout_of m).namelist (list_size (layout_of m).version (names_of m))
  pub chunks : (i : ℕ) → i < length (entries_of m) →
      Same y (get_or (entries_of m) i none).location m (get_or (entries_of m) i none).location (chunk_size (get_or (entries_of m) i none))

pub in-place-same : (m : List ℕ) → InPlace m m
in-place-same m = record { long = refl; entries = λ k l. refl; names = λ k l. refl; chunks = λ i l k u. refl }

-- The answers test by test: what fits

module _ (r : Reader) (img : List ℕ) (fit : fits r img ≡ true) where
  pub entry-there : (n : ℕ) → n < r.entries → entry_by r img n ≡ Ok (entry_at img (r.index + 32 * n))
  unfolding entry_by
  entry-there n l = rw (fit, lt-ltb n r.entries l, entry_by)

  pub entry-behind : (n : ℕ) → r.entries ≤ n → entry_by r img n ≡ Err 44
  unfolding entry_by
  entry-behind n l = rw (fit, le-ltb n r.entries l, entry_by)

  pub name-fits : (n : ℕ) → name_by r img n ≡ nth_part (parts_by r img) n
  unfolding name_by
  name-fits n = rw (fit, name_by)

  pub id-fits : (name : List ℕ) → id_by r img name ≡ ident_in (names_by r img) name
  unfolding id_by
  id-fits name = rw (fit, id_by)

  pub find-fits : (frame id : ℕ) → find_by r img frame id ≡ counted r.frames r.names frame id (searched r.version frame id (entries_by r img))
  unfolding find_by
  find-fits frame id = rw (fit, find_by)

  pub newest-fits : (frame id : ℕ) → newest_by r img frame id
      ≡ counted r.frames r.names frame id (last_before id (entries_by r img) (place_behind r.version frame id (entries_by r img)))
  unfolding newest_by
  newest-fits frame id = rw (fit, newest_by)

  pub look-behind : (frame : ℕ) (name : List ℕ) → r.frames ≤ frame → lookup_by r img frame name ≡ Err 40
  unfolding lookup_by
  look-behind frame name l = rw (fit, le-ltb frame r.frames l, lookup_by)

  pub look-for : (frame : ℕ) (name : List ℕ) → frame < r.frames → lookup_by r img frame name ≡ found_for r img frame (ident_in (names_by r img) name)
  unfolding lookup_by
  look-for frame name l = rw (fit, lt-ltb frame r.frames l, lookup_by)

-- what does not
module _ (r : Reader) (img : List ℕ) (unfit : fits r img ≡ false) where
  pub entry-33 : (n : ℕ) → entry_by r img n ≡ Err 33
  unfolding entry_by
  entry-33 n = rw (unfit, entry_by)

  pub name-33 : (n : ℕ) → name_by r img n ≡ Err 33
  unfolding name_by
  name-33 n = rw (unfit, name_by)

  pub id-33 : (name : List ℕ) → id_by r img name ≡ Err 33
  unfolding id_by
  id-33 name = rw (unfit, id_by)

  pub find-33 : (frame id : ℕ) → find_by r img frame id ≡ Err 33
  unfolding find_by
  find-33 frame id = rw (unfit, find_by)

  pub newest-33 : (frame id : ℕ) → newest_by r img frame id ≡ Err 33
  unfolding newest_by
  newest-33 frame id = rw (unfit, newest_by)

  pub look-33 : (frame : ℕ) (name : List ℕ) → lookup_by r img frame name ≡ Err 33
  unfolding lookup_by
  look-33 frame name = rw (unfit, lookup_by)

-- a frame and an id below their counts, or not
module _ (frames names frame id : ℕ) (answer : Result Entry ℕ) where
  pub counted-both : frame < frames → id < names → counted frames names frame id answer ≡ answer
  unfolding counted
  counted-both f d = rw (lt-ltb frame frames f, lt-ltb id names d, counted)

  pub counted-frames : frames ≤ frame → counted frames names frame id answer ≡ Err 40
  unfolding counted
  counted-frames f = rw (le-ltb frame frames f, counted)

  pub counted-names : frame < frames → names ≤ id → counted frames names frame id answer ≡ Err 41
  unfolding counted
  counted-names f d = rw (lt-ltb frame frames f, le-ltb id names d, counted)

-- answers that are equal where both are below
counted_same : (frames names frame id : ℕ) (a b : Result Entry ℕ) → (frame < frames → id < names → a ≡ b) → counted frames names frame id a ≡ counted frames names frame id b
counted_same frames names frame id a b h = go (dec_lt frame frames) (dec_lt id names)
  where
    go : Dec (frame < frames) → Dec (id < names) → counted frames names frame id a ≡ counted frames names frame id b
    go (yes f) (yes d) = ap (counted frames names frame id) (h f d)
    go (yes f) (no d) = counted-names frames names frame id a f (omega arith) ∙ sym (counted-names frames names frame id b f (omega arith))
    go (no f) d = counted-frames frames names frame id a (omega arith) ∙ sym (counted-frames frames names frame id b (omega arith))

-- the n-th of some places
module _ (ps : List Part) (n : ℕ) where
  pub part-there : n < length ps → nth_part ps n ≡ Ok (get_or ps n nowhere)
  unfolding nth_part
  part-there l = rw (lt-ltb n (length ps) l, nth_part)

  pub part-behind : length ps ≤ n → nth_part ps n ≡ Err 44
  unfolding nth_part
  part-behind l = rw (le-ltb n (length ps) l, nth_part)

-- a name that is listed, or is not
module _ (ns : List (List ℕ)) (name : List ℕ) where
  pub ident-there : index_of name ns < length ns → ident_in ns name ≡ Ok (index_of name ns)
  unfolding ident_in
  ident-there l = rw (lt-ltb (index_of name ns) (length ns) l, ident_in)

  pub ident-none : length ns ≤ index_of name ns → ident_in ns name ≡ Err 41
  unfolding ident_in
  ident-none l = rw (le-ltb (index_of name ns) (length ns) l, ident_in)

-- an id that is found is the name's place
pub ident-is : (ns : List (List ℕ)) (name : List ℕ) (id : ℕ) → ident_in ns name ≡ Ok id → (index_of name ns ≡ id) × (id < length ns)
ident-is ns name id h = go (dec_lt (index_of name ns) (length ns))
  where
    number : Result ℕ ℕ → ℕ
    number (Ok i) = 0
    number (Err n) = n

    value : Result ℕ ℕ → ℕ
    value (Ok i) = i
    value (Err n) = 0

    go : Dec (index_of name ns < length ns) → (index_of name ns ≡ id) × (id < length ns)
    go (no l) =
        let q : number (Err 41) ≡ number (Ok id) = ap number (sym (ident-none ns name (omega arith)) ∙ h) in absurd (omega (arith, q))
    go (yes l) = let q : index_of name ns ≡ id = ap value (sym (ident-there ns name l) ∙ h) in (q, omega (arith, q))

module _ (r : Reader) (img : List ℕ) (frame : ℕ) where
  pub found-is : (i : Result ℕ ℕ) (id : ℕ) → i ≡ Ok id → found_for r img frame i ≡ searched r.version frame id (entries_by r img)
  unfolding found_for
  found-is i id e = rw (e, found_for)

  pub found-not : (i : Result ℕ ℕ) (n : ℕ) → i ≡ Err n → found_for r img frame i ≡ Err n
  unfolding found_for
  found-not i n e = rw (e, found_for)

-- chunks and elements of what is found
module _ (r : Reader) (img : List ℕ) where
  module _ (l : Result Entry ℕ) (e : Entry) (found : l ≡ Ok e) where
    pub chunk-held : holds r img e ≡ true → chunk_for r img l ≡ Ok (record { start = e.location; size = chunk_size e })
    unfolding chunk_for
    chunk-held h = rw (found, chunk_for) (rw (h, chunk_for))

    pub chunk-33 : holds r img e ≡ false → chunk_for r img l ≡ Err 33
    unfolding chunk_for
    chunk-33 h = rw (found, chunk_for) (rw (h, chunk_for))

    pub element-held : holds r img e ≡ true → (k : ℕ) → element_for r img l k ≡ element_in img e k
    unfolding element_for
    element-held h k = rw (found, element_for) (rw (h, element_for))

    pub element-33 : holds r img e ≡ false → (k : ℕ) → element_for r img l k ≡ Err 33
    unfolding element_for
    element-33 h k = rw (found, element_for) (rw (h, element_for))

  module _ (l : Result Entry ℕ) (n : ℕ) (refused : l ≡ Err n) where
    pub chunk-none : chunk_for r img l ≡ Err n
    unfolding chunk_for
    chunk-none = rw (refused, chunk_for)

    pub element-none : (k : ℕ) → element_for r img l k ≡ Err n
    unfolding element_for
    element-none k = rw (refused, element_for)

-- The reader of an image that opens, on one that kept what it lists

module _ (m y : List ℕ) (opens : verdict m ≡ 0) (kept : InPlace m y) where
  o : Opens m
  o = (verdict-zero m).0 opens

  few : length (names_of m) ≤ most_names
  few = (names-pass m (layout_of m) (names_of m) o.names).1

  listed : IsEntries m (layout_of m).index (layout_of m).slots (entries_of m)
  listed = image-entries m

  ids : ShortIds (entries_of m)
  ids = sound-ids (entries_of m) (layout_of m) (length (names_of m)) (omega (arith, few)) o.sound

  len : (layout_of m).len ≡ length m
  unfolding layout_of
  len = refl

  -- it fits
  fits-there : fits (reader_of m) y ≡ true
  unfolding fits reader_of layout_of
  fits-there =
      let short : length y ≤ greatest_length = omega (arith, kept.long, o.front.high) in
      let index : (reader_of m).index + 32 * (reader_of m).entries ≤ length y = omega (arith, kept.long, len, o.blocks.index_high, listed.few) in
      let names : (reader_of m).namelist + (reader_of m).size ≤ length y =
      omega (arith, kept.long, len, o.blocks.namelist_high, list-few m) in
      both_of _ _ (le-leb _ _ short) (both_of _ _ o.front.versioned (both_of _ _ (le-leb _ _ few) (both_of _ _ (le-leb _ _ index) (le-leb _ _ names))))

  -- it shows the listed entries and names
  listed-y : IsEntries y (layout_of m).index (length (entries_of m)) (entries_of m)
  listed-y = entries-kept m _ _ (entries_of m) y (layout_of m).index (length (entries_of m)) listed kept.entries (omega arith) (λ l. absurd (omega arith))

  entries_by_lem : entries_by (reader_of m) y ≡ entries_of m
  unfolding reader_of
  entries_by_lem = slots-listed y (layout_of m).index (length (entries_of m)) (entries_of m) listed-y

  list-m : list_parts (layout_of m).version m (layout_of m).namelist (list_size (layout_of m).version (names_of m)) ≡ name_parts m
  list-m = list-listed m (names-pass m (layout_of m) (names_of m) o.names).0

  parts-by : parts_by (reader_of m) y ≡ name_parts m
  unfolding reader_of
  parts-by =
      ap (take (length (names_of m))) (list_same (layout_of m).version y m (layout_of m).namelist _ kept.names ∙ list-m)
      ∙ ap (λ n. take n (name_parts m)) (sym (parts-many m)) ∙ take-length (name_parts m)

  within : Each (Within (layout_of m).namelist (list_size (layout_of m).version (names_of m))) (name_parts m)
  within = rw list-m at (list-within (layout_of m).version m (layout_of m).namelist (list_size (layout_of m).version (names_of m)))

  -- each name has its bytes
  part_bytes : (p : Part) → Within (layout_of m).namelist (list_size (layout_of m).version (names_of m)) p → bytes_of y p ≡ bytes_of m p
  part_bytes p w =
      let room : p.start + p.size ≤ length m = omega (arith, w.high, len, o.blocks.namelist_high, list-few m) in
      part_same y p.start m p.start p.size (omega (arith, kept.long)) room (λ k u.
      ap (λ i. get_or y i 0) (let q : p.start + k ≡ (layout_of m).namelist + (p.start - (layout_of m).namelist + k) = omega (arith, w.low) in q)
      ∙ kept.names (p.start - (layout_of m).namelist + k) (omega (arith, w.low, w.high))
      ∙ ap (λ i. get_or m i 0) (let q : (layout_of m).namelist + (p.start - (layout_of m).namelist + k) ≡ p.start + k = omega (arith, w.low) in q))

  map-bytes : (ps : List Part) → Each (Within (layout_of m).namelist (list_size (layout_of m).version (names_of m))) ps → map (bytes_of y) ps ≡ map (bytes_of m) ps
  map-bytes [] w = refl
  map-bytes (p ∷ ps) w = λ i. part_bytes p w.0 i ∷ map-bytes ps w.1 i

  names-by : names_by (reader_of m) y ≡ names_of m
  unfolding names_of
  names-by = ap (map (bytes_of y)) parts-by ∙ map-bytes (name_parts m) within

  -- its answers, one by one
  entry-reads : (n : ℕ) → entry_by (reader_of m) y n ≡ nth_entry m n
  unfolding reader_of
  entry-reads n = go (dec_lt n (length (entries_of m)))
    where
      go : Dec (n < length (entries_of m)) → entry_by (reader_of m) y n ≡ nth_entry m n
      go (yes l) = entry-there (reader_of m) y fits-there n l ∙ ap Ok (listed-y.each n l) ∙ sym (opened-entry m opens n l)
      go (no l) = entry-behind (reader_of m) y fits-there n (omega arith) ∙ sym (opened-no-entry m opens n (omega arith))

  -- each listed entry's chunk
  inside-there : (n : ℕ) → n < length (entries_of m) → (get_or (entries_of m) n none).location + chunk_size (get_or (entries_of m) n none) ≤ length y
  inside-there n l = omega (arith, kept.long, len, (o.sound n l).within)

  entry-bytes : (n : ℕ) → n < length (entries_of m) → chunk_of y (get_or (entries_of m) n none) ≡ chunk_of m (get_or (entries_of m) n none)
  entry-bytes n l =
      let e : Entry = get_or (entries_of m) n none in
      part_same y e.location m e.location (chunk_size e) (inside-there n l) (omega (arith, kept.long, inside-there n l)) (kept.chunks n l)

  name-reads : (n : ℕ) → name_by (reader_of m) y n ≡ nth_name m n
  name-reads n = name-fits (reader_of m) y fits-there n ∙ ap (λ ps. nth_part ps n) parts-by ∙ go (dec_lt n (length (name_parts m)))
    where
      go : Dec (n < length (name_parts m)) → nth_part (name_parts m) n ≡ nth_name m n
      go (yes l) = part-there (name_parts m) n l ∙ sym (opened-name m opens n l)
      go (no l) = part-behind (name_parts m) n (omega arith) ∙ sym (opened-no-name m opens n (omega arith))

  name-bytes : (n : ℕ) → bytes_at y (nth_name m n) ≡ bytes_at m (nth_name m n)
  unfolding bytes_at
  name-bytes n = go (dec_lt n (length (name_parts m)))
    where
      go : Dec (n < length (name_parts m)) → bytes_at y (nth_name m n) ≡ bytes_at m (nth_name m n)
      go (yes l) = rw (opened-name m opens n l, bytes_at) (part_bytes (get_or (name_parts m) n nowhere) (each_at _ (name_parts m) nowhere within n l))
      go (no l) = rw (opened-no-name m opens n (omega arith), bytes_at)

  ident-reads : (name : List ℕ) → id_by (reader_of m) y name ≡ ident_in (names_of m) name
  ident-reads name = id-fits (reader_of m) y fits-there name ∙ ap (λ ns. ident_in ns name) names-by

  searched-by : (frame id : ℕ) → id < length (names_of m) → searched (layout_of m).version frame id (entries_by (reader_of m) y) ≡ find_entry frame id (entries_of m)
  searched-by frame id l =
      ap (searched (layout_of m).version frame id) entries_by_lem
      ∙ searched-finds (layout_of m).version frame id (entries_of m) o.arranged ids (omega (arith, few))

  find-reads : (frame id : ℕ) → find_by (reader_of m) y frame id ≡ counted (frames_of (entries_of m)) (length (names_of m)) frame id (find_entry frame id (entries_of m))
  unfolding reader_of
  find-reads frame id = find-fits (reader_of m) y fits-there frame id ∙ counted_same _ _ frame id _ _ (λ f d. searched-by frame id d)

  newest-reads : (frame id : ℕ) →
      newest_by (reader_of m) y frame id ≡ counted (frames_of (entries_of m)) (length (names_of m)) frame id (newest_entry frame id (entries_of m))
  unfolding reader_of
  newest-reads frame id =
      newest-fits (reader_of m) y fits-there frame id
      ∙ counted_same _ _ frame id _ _ (λ f d.
      ap (λ es. last_before id es (place_behind (layout_of m).version frame id es)) entries_by_lem
      ∙ newest-is (layout_of m).version frame id (entries_of m) o.arranged ids (omega (arith, few)))

  look-reads : (frame : ℕ) (name : List ℕ) → lookup_by (reader_of m) y frame name ≡ lookup m frame name
  unfolding reader_of
  look-reads frame name =
      go (dec_lt frame (frames_of (entries_of m))) (dec_lt (index_of name (names_of m)) (length (names_of m))) ∙ sym (opened-lookup m opens frame name)
    where
      go : Dec (frame < frames_of (entries_of m)) → Dec (index_of name (names_of m) < length (names_of m)) →
          lookup_by (reader_of m) y frame name ≡ lookup_in (entries_of m) (names_of m) frame name
      go (no f) n = look-behind (reader_of m) y fits-there frame name (omega arith) ∙ sym (look-frame (entries_of m) (names_of m) frame name (omega arith))
      go (yes f) (no n) =
          look-for (reader_of m) y fits-there frame name f
          ∙ found-not (reader_of m) y frame _ 41 (ap (λ ns. ident_in ns name) names-by ∙ ident-none (names_of m) name (omega arith))
          ∙ sym (look-name (entries_of m) (names_of m) frame name f (omega arith))
      go (yes f) (yes n) =
          look-for (reader_of m) y fits-there frame name f
          ∙ found-is (reader_of m) y frame _ (index_of name (names_of m)) (ap (λ ns. ident_in ns name) names-by ∙ ident-there (names_of m) name n)
          ∙ searched-by frame (index_of name (names_of m)) n
          ∙ sym (look-entry (entries_of m) (names_of m) frame name f n)

  -- what is found is an entry of m, with its chunk
  module _ (frame : ℕ) (name : List ℕ) (e : Entry) (found : lookup m frame name ≡ Ok e) where
    stands : Stands (entries_of m) frame (index_of name (names_of m)) e
    stands =
        find-sound frame (index_of name (names_of m)) (entries_of m) e
        ((look-found (entries_of m) (names_of m) frame name e).0 (sym (opened-lookup m opens frame name) ∙ found)).2

    sound : Sound (layout_of m) (length (names_of m)) e
    sound = rw stands.there at (o.sound stands.place stands.within)

    there : Same y e.location m e.location (chunk_size e)
    there = rw stands.there at (kept.chunks stands.place stands.within)

    held : holds (reader_of m) y e ≡ true
    unfolding holds reader_of
    held = both_of _ _ sound.typed (le-leb _ _ (let q : e.location + chunk_size e ≤ length y = omega (arith, kept.long, len, sound.within) in q))

    by : lookup_by (reader_of m) y frame name ≡ Ok e
    by = look-reads frame name ∙ found

    chunk-found : chunk_place_by (reader_of m) y frame name ≡ chunk_place m frame name
    unfolding chunk_place placed
    chunk-found = chunk-held (reader_of m) y _ e by held ∙ sym (ap placed found)

    bytes-found : bytes_at y (chunk_place m frame name) ≡ bytes_at m (chunk_place m frame name)
    unfolding chunk_place placed bytes_at
    bytes-found =
        rw (found, placed, bytes_at)
        (part_same y e.location m e.location (chunk_size e) (omega (arith, kept.long, len, sound.within)) (omega (arith, len, sound.within)) there)

    element-same : (k : ℕ) → Dec (k < e.n * e.m) → element_in y e k ≡ element_in m e k
    element-same k (yes l) =
        element-at y e k l
        ∙ ap (λ bits. Ok (element_of e.kind bits)) (le_same (size_of e.kind) y _ m _ (λ i u.
        let q : e.location + k * size_of e.kind + i ≡ e.location + (k * size_of e.kind + i) = omega arith in
        rw q (there (k * size_of e.kind + i) (omega (arith, mul-le-mul_right (size_of e.kind) l)))))
        ∙ sym (element-at m e k l)
    element-same k (no l) = element-behind y e k (omega arith) ∙ sym (element-behind m e k (omega arith))

    element-found : (k : ℕ) → element_by (reader_of m) y frame name k ≡ element m frame name k
    unfolding element
    element-found k = element-held (reader_of m) y _ e by held k ∙ element-same k (dec_lt k (e.n * e.m)) ∙ sym (rw (found, element))

  -- a refusal is passed on
  module _ (frame : ℕ) (name : List ℕ) (n : ℕ) (refused : lookup m frame name ≡ Err n) where
    not-by : lookup_by (reader_of m) y frame name ≡ Err n
    not-by = look-reads frame name ∙ refused

    chunk-refused : chunk_place_by (reader_of m) y frame name ≡ chunk_place m frame name
    unfolding chunk_place placed
    chunk-refused = chunk-none (reader_of m) y _ n not-by ∙ sym (ap placed refused)

    bytes-refused : bytes_at y (chunk_place m frame name) ≡ bytes_at m (chunk_place m frame name)
    unfolding chunk_place placed bytes_at
    bytes-refused = rw (refused, placed, bytes_at)

    element-refused : (k : ℕ) → element_by (reader_of m) y frame name k ≡ element m frame name k
    unfolding element
    element-refused k = element-none (reader_of m) y _ n not-by k ∙ sym (rw (refused, element))

  pub reader-reads : Reads (reader_of m) y m
  reader-reads = record {
    entry = entry-reads;
    inside = inside-there;
    entry_bytes = entry-bytes;
    name = name-reads;
    name_bytes = name-bytes;
    ident = ident-reads;
    find = find-reads;
    newest = newest-reads;
    look = look-reads;
    chunk = λ f n. either f n (chunk_place_by (reader_of m) y f n ≡ chunk_place m f n) (chunk-found f n) (chunk-refused f n);
    chunk_bytes = λ f n. either f n (bytes_at y (chunk_place m f n) ≡ bytes_at m (chunk_place m f n)) (bytes-found f n) (bytes-refused f n);
    element = λ f n k. either f n (element_by (reader_of m) y f n k ≡ element m f n k)
        (λ e h. element-found f n e h k) (λ i h. element-refused f n i h k);
  }
    where
      -- found or refused
      either : (f : ℕ) (n : List ℕ) (P : Type 0) → ((e : Entry) → lookup m f n ≡ Ok e → P) → ((k : ℕ) → lookup m f n ≡ Err k → P) → P
      either f n P a b = go (lookup m f n) refl
        where
          go : (l : Result Entry ℕ) → lookup m f n ≡ l → P
          go (Ok e) q = a e q
          go (Err k) q = b k q

-- What opening gives

pub reading-ready : (m : List ℕ) → verdict m ≡ 0 → reading m ≡ Ok (reader_of m)
unfolding reading
reading-ready m opens = rw (opens, reading)

pub reading-refused : (m : List ℕ) (k : ℕ) → verdict m ≡ suc k → reading m ≡ Err (suc k)
unfolding reading
reading-refused m k h = rw (h, reading)

-- a reader that opening gave is the image's, and the image opens
pub reading-of : (m : List ℕ) (r : Reader) → reading m ≡ Ok r → (verdict m ≡ 0) × (r ≡ reader_of m)
reading-of m r h = go (verdict m) refl
  where
    ready : Result Reader ℕ → ℕ
    ready (Ok s) = 1
    ready (Err n) = 0

    reader : Reader → Result Reader ℕ → Reader
    reader d (Ok s) = s
    reader d (Err n) = d

    go : (v : ℕ) → verdict m ≡ v → (verdict m ≡ 0) × (r ≡ reader_of m)
    go zero e = (e, ap (reader r) (sym h ∙ reading-ready m e))
    go (suc k) e = let q : ready (Ok r) ≡ ready (Err (suc k)) = ap ready (sym h ∙ reading-refused m k e) in absurd (omega (arith, q))

-- Theorem: a reader that opening m gave answers, wherever what m lists is kept, as the calls do on m; on m itself too
pub in_place_reads : (m y : List ℕ) (r : Reader) → reading m ≡ Ok r → InPlace m y → Reads r y m
in_place_reads m y r h kept =
    let (opens, is) = reading-of m r h in
    rw is (reader-reads m y opens kept)

pub same_reads : (m : List ℕ) (r : Reader) → reading m ≡ Ok r → Reads r m m
same_reads m r h = in_place_reads m m r h (in-place-same m)

-- a name's id serves as the name
pub id-looks : (m : List ℕ) → verdict m ≡ 0 → (frame id : ℕ) (name : List ℕ) → ident_in (names_of m) name ≡ Ok id →
    counted (frames_of (entries_of m)) (length (names_of m)) frame id (find_entry frame id (entries_of m)) ≡ lookup m frame name
id-looks m opens frame id name h = go (dec_lt frame (frames_of (entries_of m))) ∙ sym (opened-lookup m opens frame name)
  where
    go : Dec (frame < frames_of (entries_of m)) →
        counted (frames_of (entries_of m)) (length (names_of m)) frame id (find_entry frame id (entries_of m)) ≡ lookup_in (entries_of m) (names_of m) frame name
    go (no f) = counted-frames _ _ frame id _ (omega arith) ∙ sym (look-frame (entries_of m) (names_of m) frame name (omega arith))
    go (yes f) =
        let (is, low) = ident-is (names_of m) name id h in
        counted-both _ _ frame id _ f low ∙ ap (λ i. find_entry frame i (entries_of m)) (sym is)
        ∙ sym (look-entry (entries_of m) (names_of m) frame name f (omega (arith, is, low)))
