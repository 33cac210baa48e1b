-- What comes back: a file that is read makes a sheet of its one row, what follows its data is ignored, and what was written is read.
use Rattle.std.specs.Prelude.{Result, Ok, Err}
use Prim.Native.Nat.{ℕ, ◌+◌, ◌*◌, ◌^◌, ◌<◌}
use mathlib.Core.Path.{◌≡◌, refl, sym, ◌∙◌, ap}
use mathlib.Core.Bool.{true, not}
use mathlib.Core.List.{List, ◌++◌}
use native.Mathlib.Decide.{ℕ_discrete}
use native.Mathlib.Omega.{arith}
use lib.ListN.{length, take, drop, length-append}
use lib.Seq.{take_all}
use lib.Dec.{eqb}
use borrow.Author.Tests.{le-leb, eq-eqb}
use Rattle.gsd_format.specs.declared.Entry.{Entry}
use Rattle.gsd_format.specs.Bytes.{le, le_bytes, part, same}
use Rattle.gsd_format.specs.Refusals.{◌⇒◌, ◌▹◌, accepted}
use Rattle.gsd_format.specs.Types.{size_of, chunk_size}
use Rattle.gsd_format.specs.Lookup.{lookup, chunk_of}
use Rattle.gsd_format.proofs.Bytes.{Octets, le-bound, le-back, same_refl}
use Rattle.gsd_format.proofs.Entries.{Fits}
use Rattle.gsd_format.proofs.Refusals.{both_of, first_of, was-accepted}
use Rattle.gsd_format.proofs.Types.{size-kind, size-each}
use Rattle.gsd_format.proofs.Calls.{lookup-found, lookup-never-0}
use Rattle.gsd_read.proofs.Lookups.{found-held, found-fits}
use Rattle.gsd_rawarray.specs.File.{raw_magic, raw_type, raw_head, raw_file}
use Rattle.gsd_rawarray.specs.Said.{flags, element_type, width, data_length, dimensions, data_start, raw_data, raw_n, raw_m, raw_kind, kind_of}
use Rattle.gsd_rawarray.specs.Requests.{write_test, written_file, dimensioned, filled, raw_test, bad_name, raw_table, raw_sheet, read_test, read_sheet}
use Rattle.gsd_rawarray.specs.Back.{OneRow, plain, Returns}
use Rattle.gsd_rawarray.proofs.Types.{kind-sized, kind-back, plain-some}
use Rattle.gsd_rawarray.proofs.Said.{n-one, n-two, m-two, dims-two}
use Rattle.gsd_rawarray.proofs.Requests.{gives-0, request-passed}
use Rattle.gsd_rawarray.proofs.Sheets.{product, data-length}
use Rattle.gsd_rawarray.proofs.Files.{chunk-length, head-length, of-refused}
use Rattle.gsd_rawarray.proofs.Rows.{one_row, one-row, good-form}

-- A file that is read

was-new : (n : ℕ) (new old : List ℕ) → n ≡ 0 → accepted n new old ≡ new
was-new n new old h = sym (was-accepted n new old new (sym h) refl)

read-row : (f name sheet : List ℕ) → raw_n f < 2 ^ 64 → read_test f name (length sheet) ≡ 0 →
    OneRow (read_sheet f name sheet) name (raw_n f) (raw_m f) (raw_kind f) (raw_data f)
unfolding raw_sheet raw_table one_row
read-row f name sheet rows h =
    let passed = request-passed f name (length sheet) h in
    let typed = kind-sized (element_type f) (width f) passed.file.typed in
    let none : raw_kind f ≡ 0 → ⊥ = passed.file.typed in
    let columns : raw_m f < 2 ^ 32 = omega (arith, passed.file.few) in
    let sized : length (raw_data f) ≡ raw_n f * raw_m f * size_of (raw_kind f) =
    data-length f passed.file.whole ∙ product f passed.file.whole ∙ ap (λ w. raw_n f * raw_m f * w) (sym typed.1) in
    let is : read_sheet f name sheet ≡ one_row (raw_n f) (raw_m f) (raw_kind f) name (raw_data f) = was-new (read_test f name (length sheet)) (raw_sheet f name) sheet h in
    record {
      row = rw is (one-row (raw_n f) (raw_m f) (raw_kind f) name (raw_data f) rows columns sized);
      form = λ version. rw is
          (good-form (raw_n f) (raw_m f) (raw_kind f) name (raw_data f) rows columns sized version (omega arith) typed.0 passed.some passed.full);
    }

-- in a file of bytes N fits
pub read-sheet : (f name sheet : List ℕ) → Octets f → read_test f name (length sheet) ≡ 0 →
    OneRow (read_sheet f name sheet) name (raw_n f) (raw_m f) (raw_kind f) (raw_data f)
read-sheet f name sheet octets h = read-row f name sheet (go (ℕ_discrete (dimensions f) 1)) h
  where
    go : Dec (dimensions f ≡ 1) → raw_n f < 2 ^ 64
    go (yes e) = rw (← n-one f e) (le-bound 8 f 48 octets)
    go (no n) = rw (← n-two f n) (le-bound 8 f 56 octets)

-- A file that was written

module _ (e : Entry) (body : List ℕ) where
  abbrev file : List ℕ
  file = raw_head e ++ body

  -- its numbers
  word-8 : flags file ≡ 0
  unfolding raw_head le le_bytes
  word-8 = refl

  word-40 : dimensions file ≡ 2
  unfolding raw_head le le_bytes
  word-40 = refl

  word-16 : raw_type e.kind < 2 ^ 64 → element_type file ≡ raw_type e.kind
  unfolding raw_head le le_bytes
  word-16 h = le-back 8 (raw_type e.kind) h

  word-24 : size_of e.kind < 2 ^ 64 → width file ≡ size_of e.kind
  unfolding raw_head le le_bytes
  word-24 h = le-back 8 (size_of e.kind) h

  word-32 : chunk_size e < 2 ^ 64 → data_length file ≡ chunk_size e
  unfolding raw_head le le_bytes
  word-32 h = le-back 8 (chunk_size e) h

  word-48 : e.m < 2 ^ 64 → le 8 file 48 ≡ e.m
  unfolding raw_head le le_bytes
  word-48 h = le-back 8 e.m h

  word-56 : e.n < 2 ^ 64 → le 8 file 56 ≡ e.n
  unfolding raw_head le le_bytes
  word-56 h = le-back 8 e.n h

  front : take 8 file ≡ raw_magic
  unfolding raw_head le_bytes
  front = refl

  behind : drop 64 file ≡ body
  unfolding raw_head le_bytes
  behind = refl

  size : length file ≡ 64 + length body
  size = length-append (raw_head e) body ∙ ap (λ n. n + length body) (head-length e)

  module _ (fits : Fits e) (sized : 0 < size_of e.kind) (short : chunk_size e < 2 ^ 64) (long : length body ≡ chunk_size e) where
    not-one : dimensions file ≡ 1 → ⊥
    not-one h = omega (arith, word-40, h)

    back-n : raw_n file ≡ e.n
    back-n = sym (n-two file not-one) ∙ word-56 fits.n

    back-m : raw_m file ≡ e.m
    back-m = sym (m-two file not-one) ∙ word-48 (omega (arith, fits.m))

    back-width : width file ≡ size_of e.kind
    back-width = word-24 (size-each (λ n. n < 2 ^ 64) (omega arith) (omega arith) (omega arith) (omega arith) e.kind sized)

    back-kind : raw_kind file ≡ plain e.kind
    back-kind =
        let back = kind-back e.kind (size-kind e.kind sized).1 in
        (λ i. kind_of (word-16 (omega (arith, back.0)) i) (back-width i)) ∙ back.1

    back-data : raw_data file ≡ body
    unfolding raw_data
    back-data =
        (λ i. part file (48 + 8 * word-40 i) (word-32 short i))
        ∙ ap (take (chunk_size e)) behind ∙ take_all (chunk_size e) body (omega (arith, long))

    typed : raw_kind file ≡ 0 → ⊥
    typed h = plain-some e.kind (size-kind e.kind sized).0 (sym back-kind ∙ h)

    dims : dimensioned file ≡ true
    dims = sym (dims-two file word-40) ∙ le-leb 64 (length file) (omega (arith, size))

    whole : filled file ≡ true
    whole =
        both_of (eqb (data_length file) (raw_n file * raw_m file * width file)) _
        (eq-eqb (data_length file) (raw_n file * raw_m file * width file) (word-32 short ∙ sym (λ i. back-n i * back-m i * back-width i)))
        (le-leb (data_start file + data_length file) (length file) (omega (arith, size, word-40, word-32 short, long)))

    pub good-file : raw_test file ≡ 0
    good-file =
        sym (gives-0 file (omega (arith, size)) (ap (λ t. same t raw_magic) front ∙ same_refl raw_magic) (eq-eqb (flags file) 0 word-8) typed dims whole (omega (arith, back-m, fits.m)))

    -- refused for nothing but the name and the slice
    pub file-number : (label : List ℕ) (room : ℕ) →
        read_test file label room ≡ (bad_name label ⇒ 78) ▹ (not (eqb room (20 + length label + chunk_size e)) ⇒ 79)
    unfolding read_test
    file-number label room =
        first_of (raw_test file) _ good-file ∙ ap (λ n. (bad_name label ⇒ 78) ▹ (not (eqb room (20 + length label + n)) ⇒ 79)) (word-32 short)

    -- and read as what it was made of
    pub file-row : (label sheet : List ℕ) → read_test file label (length sheet) ≡ 0 →
        OneRow (read_sheet file label sheet) label e.n e.m (plain e.kind) body
    file-row label sheet h = rw (back-n, back-m, back-kind, back-data) at (read-row file label sheet (rw back-n fits.n) h)

-- what an accepted request has written
pub written-returns : (img : List ℕ) → Octets img → (frame : ℕ) (name file : List ℕ) → write_test img frame name (length file) ≡ 0 →
    Returns img frame name (written_file img frame name file)
written-returns img octets frame name file h = go (lookup img frame name) refl
  where
    go : (r : Result Entry ℕ) → lookup img frame name ≡ r → Returns img frame name (written_file img frame name file)
    go (Ok e) q =
        let held = found-held img frame name e q in
        let fits = found-fits img frame name e q octets in
        let short : chunk_size e < 2 ^ 64 = omega (arith, held.within, held.short) in
        let long = chunk-length img e held in
        let is : written_file img frame name file ≡ raw_file img e =
        was-new (write_test img frame name (length file)) _ file h ∙ ap (raw_file img) (lookup-found img frame name e q).1 in
        rw is (record {
          entry = e;
          found = q;
          number = file-number e (chunk_of img e) fits held.sized short long;
          back = file-row e (chunk_of img e) fits held.sized short long;
        })
    go (Err n) q = absurd (lookup-never-0 img frame name (q ∙ ap Err ((of-refused img frame name n file q).0 ∙ h)))
