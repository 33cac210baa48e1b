-- What each call of reading answers in the paper's words: its number, test by test in their order and 0 for no refusal, and
-- the values of an answer. Contracts say both of the `Result` that a call answers, by the definitions of Answers.
use Rattle.std.specs.Prelude.{ℕ, zero, suc, ◌+◌, ◌*◌, List, [], ◌∷◌, Bool, true, false, not, ◌&&◌, ◌||◌, get_or, length, ltb, eqb}
use Rattle.gsd_format.specs.declared.Entry.{Entry}
use Rattle.gsd_format.specs.Bytes.{le}
use Rattle.gsd_format.specs.Refusals.{◌⇒◌, ◌▹◌}
use Rattle.gsd_format.specs.Types.{size_of}
use Rattle.gsd_format.specs.Header.{layout_of}
use Rattle.gsd_format.specs.Names.{name_parts, names_of, index_of}
use Rattle.gsd_format.specs.Entries.{entries_of, frames_of}
use Rattle.gsd_format.specs.Opening.{verdict}
use Rattle.gsd_format.specs.Lookup.{none, nowhere, chunk_part}
use Rattle.gsd_format.specs.Search.{probed}
use Rattle.gsd_format.specs.Elements.{element_of}
use Rattle.gsd_format.specs.Answers.{entry_values, part_values, number_values}

-- a refusal has no value
unfoldable pub unless : ℕ → List ℕ → List ℕ
unless zero values = values
unless (suc n) values = []

-- opening: 1 to 18; the counts of frames, names and entries
abbrev pub open_values : List ℕ → List ℕ
open_values img = unless (verdict img) (frames_of (entries_of img) ∷ length (names_of img) ∷ length (entries_of img) ∷ [])

-- n-th entry and n-th name: n not below that count
abbrev pub nth_entry_test : List ℕ → ℕ → ℕ
nth_entry_test img n = verdict img ▹ (not (ltb n (length (entries_of img))) ⇒ 44)

abbrev pub nth_entry_values : List ℕ → ℕ → List ℕ
nth_entry_values img n = unless (nth_entry_test img n) (entry_values (get_or (entries_of img) n none))

abbrev pub nth_name_test : List ℕ → ℕ → ℕ
nth_name_test img n = verdict img ▹ (not (ltb n (length (name_parts img))) ⇒ 44)

abbrev pub nth_name_values : List ℕ → ℕ → List ℕ
nth_name_values img n = unless (nth_name_test img n) (part_values (get_or (name_parts img) n nowhere))

-- has a listed entry this frame and id, and which is it?
abbrev pub is_entry : ℕ → ℕ → Entry → Bool
is_entry frame id e = eqb e.frame frame && eqb e.id id

unfoldable pub has_entry : ℕ → ℕ → List Entry → Bool
has_entry frame id [] = false
has_entry frame id (e ∷ es) = is_entry frame id e || has_entry frame id es

unfoldable pub entry_for : ℕ → ℕ → List Entry → Entry
entry_for frame id [] = none
entry_for frame id (e ∷ es) = elim (is_entry frame id e) [ true ↦ e | false ↦ entry_for frame id es ]

-- lookup: frame not below the number of frames; name not listed; no such chunk in the frame
unfoldable pub lookup_test : List ℕ → ℕ → List ℕ → ℕ
lookup_test img frame name =
    verdict img
    ▹ (not (ltb frame (frames_of (entries_of img))) ⇒ 40)
    ▹ (not (ltb (index_of name (names_of img)) (length (names_of img))) ⇒ 41)
    ▹ (not (has_entry frame (index_of name (names_of img)) (entries_of img)) ⇒ 42)

abbrev pub found_entry : List ℕ → ℕ → List ℕ → Entry
found_entry img frame name = entry_for frame (index_of name (names_of img)) (entries_of img)

abbrev pub lookup_values : List ℕ → ℕ → List ℕ → List ℕ
lookup_values img frame name = unless (lookup_test img frame name) (entry_values (found_entry img frame name))

-- what keeps a lookup from its search: the image's number, 40, 41
unfoldable pub search_test : List ℕ → ℕ → List ℕ → ℕ
search_test img frame name =
    verdict img
    ▹ (not (ltb frame (frames_of (entries_of img))) ⇒ 40)
    ▹ (not (ltb (index_of name (names_of img)) (length (names_of img))) ⇒ 41)

-- the numbers of the entries that a lookup's search probes; without a search none
abbrev pub probes_of : List ℕ → ℕ → List ℕ → List ℕ
probes_of img frame name =
    unless (search_test img frame name) (probed (layout_of img).version frame (index_of name (names_of img)) (entries_of img))

-- where a chunk lies
abbrev pub chunk_values : List ℕ → ℕ → List ℕ → List ℕ
chunk_values img frame name = unless (lookup_test img frame name) (part_values (chunk_part (found_entry img frame name)))

-- element: its number not below N times M; then its bits, by the entry's type
abbrev pub element_test : List ℕ → ℕ → List ℕ → ℕ → ℕ
element_test img frame name k =
    lookup_test img frame name ▹ (not (ltb k ((found_entry img frame name).n * (found_entry img frame name).m)) ⇒ 43)

abbrev pub bits_of : List ℕ → Entry → ℕ → ℕ
bits_of img e k = le (size_of e.kind) img (e.location + k * size_of e.kind)

abbrev pub nth_element_values : List ℕ → ℕ → List ℕ → ℕ → List ℕ
nth_element_values img frame name k =
    let e : Entry = found_entry img frame name in
    unless (element_test img frame name k) (number_values (element_of e.kind (bits_of img e k)))
