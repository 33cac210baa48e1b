-- The worked cases that are proved: each a list of numbers computed by the definitions, and what it must be.
use Rattle.std.specs.Prelude.{ℕ, zero, suc, ◌+◌, ◌*◌, ◌-◌, ◌^◌, List, [], ◌∷◌, ◌++◌, map, Bool, true, ◌&&◌, get_or, length, take, drop, replicate, Result}
use Rattle.gsd_format.specs.declared.Part.{Part}
use Prim.Native.String.{String}
use Rattle.gsd_format.specs.Bytes.{same, le, le_bytes, zeros, stored}
use Rattle.gsd_format.specs.Ascii.{ascii}
use Rattle.gsd_format.specs.Types.{size_of}
use Rattle.gsd_format.specs.Header.{version10, version20, version21, version_of, layout_of, header_words}
use Rattle.gsd_format.specs.Header.{index_place, namelist_place, version_place, slot_size, segment_size}
use Rattle.gsd_format.specs.Names.{names_of, flat}
use Rattle.gsd_format.specs.Entries.{n_place, location_place, entries_of}
use Rattle.gsd_format.specs.Opening.{verdict}
use Rattle.gsd_format.specs.declared.Entry.{Entry}
use Rattle.gsd_format.specs.declared.Reader.{Reader}
use Rattle.gsd_format.specs.Lookup.{lookup, none}
use Rattle.gsd_format.specs.Search.{binary_digits, probed, searched}
use Rattle.gsd_format.specs.Calls.{probes_of}
use Rattle.gsd_format.specs.Elements.{element}
use Rattle.gsd_format.specs.Readers.{reading, entry_by, name_by, id_by, find_by, lookup_by, newest_by, chunk_place_by}
use Rattle.gsd_format.specs.Create.{create_number, created}
use Rattle.gsd_format.specs.Listing.{printed}
use Rattle.gsd_format.specs.Answers.{number_of, listed_values, element_values, place_values, reading_values, ident_values}
use Rattle.gsd_stores.specs.View.{View, view_of, end_of_use}
use Rattle.gsd_stores.specs.Sheet.{Row, rows_of, sheet_test}
use Rattle.gsd_stores.specs.Plan.{Plan, plan_of}
use Rattle.gsd_stores.specs.Steps.{clear_index, clear_names, store_data, move_names, store_names, move_index, store_entries, name_block, index_block}
use Rattle.gsd_stores.specs.Steps.{index_bytes}
use Rattle.gsd_stores.specs.Append.{Answer, append_test, stores_for, step_five, append_answer, appended}
use Rattle.gsd_stores.specs.Runs.{frames}

pub record Case : Type 0 where
  pub says : String
  pub got : List ℕ
  pub expected : List ℕ

-- a row of a sheet's table
unfoldable pub table_row : ℕ → ℕ → ℕ → List ℕ → List ℕ
table_row n m kind name = le_bytes 8 n ++ le_bytes 4 m ++ kind ∷ length name ∷ 0 ∷ 0 ∷ []

-- three floats: 20.5, 21.25, 19.75
abbrev pub readings : List ℕ
readings = 0 ∷ 0 ∷ 0xa4 ∷ 0x41 ∷ 0 ∷ 0 ∷ 0xaa ∷ 0x41 ∷ 0 ∷ 0 ∷ 0x9e ∷ 0x41 ∷ []

-- one row, "probe", float, N 3, M 1
unfoldable pub sheet_a : List ℕ
sheet_a = le_bytes 4 1 ++ table_row 3 1 9 (ascii "probe") ++ ascii "probe" ++ readings

-- "probe" as before, "heater" u8 1 by 1
unfoldable pub sheet_b : List ℕ
sheet_b = le_bytes 4 2 ++ table_row 3 1 9 (ascii "probe") ++ table_row 1 1 1 (ascii "heater") ++ ascii "probe" ++ readings ++ ascii "heater" ++ 80 ∷ []

-- one row, "mode", of this type, N 2, M 1, its two bytes 0x4F and 0xFF
unfoldable pub sheet_of : ℕ → List ℕ
sheet_of kind = le_bytes 4 1 ++ table_row 2 1 kind (ascii "mode") ++ ascii "mode" ++ 0x4f ∷ 0xff ∷ []

-- so many slots and segments asked for, in a slice of so many bytes: create's number, and the slice afterwards
unfoldable pub created_in : ℕ → ℕ → ℕ → ℕ
created_in slots segments len = create_number (zeros len) [] [] slots segments

unfoldable pub made_in : ℕ → ℕ → ℕ → List ℕ
made_in slots segments len = created (zeros len) [] [] 0 slots segments

-- 2 slots, 1 segment
unfoldable pub fresh_in : ℕ → List ℕ
fresh_in len = made_in 2 1 len

-- the image with another version in its header
unfoldable pub in_version : ℕ → List ℕ → List ℕ
in_version version img = stored img version_place (le_bytes 4 version)

-- how many stores each step takes, and all of them
unfoldable pub step_counts : List ℕ → List ℕ → List ℕ
step_counts img sheet =
    let v : View = view_of img in
    let p : Plan = plan_of v (rows_of sheet) in
    length (clear_index v) ∷ length (clear_names v) ∷ length (store_data p) ∷ length (move_names v p)
    ∷ length (store_names (name_block v p) v.names p.fresh) ∷ length (move_index img v p)
    ∷ length (store_entries (index_block v p + 32 * length v.entries) p.entries) ∷ length (stores_for img sheet) ∷ []

-- verdict, frames, names, entries
unfoldable pub shown : List ℕ → List ℕ
shown img = verdict img ∷ frames img ∷ length (names_of img) ∷ length (entries_of img) ∷ []

abbrev pub end_in : List ℕ → ℕ
end_in img = end_of_use (view_of img)

-- the paper's starred table
unfoldable pub table : List Case
table =
    let x : List ℕ = fresh_in 1024 in
    let a22 : List ℕ = appended x sheet_a 22 in
    let a : List ℕ = appended x sheet_a 23 in
    let b34 : List ℕ = appended a sheet_b 34 in
    let b : List ℕ = appended a sheet_b 43 in
    let a704 : List ℕ = appended (fresh_in 704) sheet_a 23 in
    let a703 : List ℕ = appended (fresh_in 703) sheet_a 23 in
    record { says = "a fresh image: end of use 384, 0 frames"; got = end_in x ∷ shown x; expected = 384 ∷ 0 ∷ 0 ∷ 0 ∷ 0 ∷ [] }
    ∷ record { says = "383 bytes: 52"; got = created_in 2 1 383 ∷ []; expected = 52 ∷ [] }
    ∷ record { says = "384: made"; got = created_in 2 1 384 ∷ shown (fresh_in 384); expected = 0 ∷ 0 ∷ 0 ∷ 0 ∷ 0 ∷ [] }
    ∷ record {
      says = "sheet A, 37 bytes: 8 + 8 + 2 + 1 + 4 = 23 stores";
      got = length sheet_a ∷ step_counts x sheet_a;
      expected = 37 ∷ 8 ∷ 8 ∷ 2 ∷ 0 ∷ 1 ∷ 0 ∷ 4 ∷ 23 ∷ [];
    }
    ∷ record { says = "after 22: 0 frames, 1 name"; got = shown a22; expected = 0 ∷ 0 ∷ 1 ∷ 0 ∷ [] }
    ∷ record {
      says = "after 23: 1 frame, location 384, end of use 448, and what the program prints";
      got = shown a ++ (get_or (entries_of a) 0 none).location ∷ end_in a ∷ printed a;
      expected = 0 ∷ 1 ∷ 1 ∷ 1 ∷ 384 ∷ 448 ∷ ascii "frames 1 names 1 entries 1\n0 0 9 3 1 384\n";
    }
    ∷ record {
      says = "sheet B next, 60 bytes: 4 + 8 + 3 + 2 + 18 + 8 = 43 stores; the index moves to 576 with 4 slots, end of use 704";
      got = length sheet_b ∷ step_counts a sheet_b ++ shown b ++ (layout_of b).index ∷ (layout_of b).slots ∷ end_in b ∷ [];
      expected = 60 ∷ 4 ∷ 8 ∷ 3 ∷ 0 ∷ 2 ∷ 18 ∷ 8 ∷ 43 ∷ 0 ∷ 2 ∷ 2 ∷ 3 ∷ 576 ∷ 4 ∷ 704 ∷ [];
    }
    ∷ record {
      says = "after store 34 the header says 576 with 2 slots, and 1 entry is listed";
      got = (layout_of b34).index ∷ (layout_of b34).slots ∷ shown b34;
      expected = 576 ∷ 2 ∷ 0 ∷ 1 ∷ 2 ∷ 1 ∷ [];
    }
    ∷ record {
      says = "in a slice of 704 it fits";
      got = append_test a704 sheet_b ∷ shown (appended a704 sheet_b 43);
      expected = 0 ∷ 0 ∷ 2 ∷ 2 ∷ 3 ∷ [];
    }
    ∷ record { says = "in 703: 29"; got = append_test a703 sheet_b ∷ []; expected = 29 ∷ [] }
    ∷ record { says = "frame 0, heater, after B: 42"; got = number_of (lookup b 0 (ascii "heater")) ∷ []; expected = 42 ∷ [] }
    ∷ record { says = "frame 2: 40"; got = number_of (lookup b 2 (ascii "probe")) ∷ []; expected = 40 ∷ [] }
    ∷ record { says = "name fan: 41"; got = number_of (lookup b 1 (ascii "fan")) ∷ []; expected = 41 ∷ [] }
    ∷ []

-- the versions that grow: the same request on an image of 2.1, as create makes it, and on one of 2.0
unfoldable pub versions : List Case
versions =
    let new : List ℕ = fresh_in 1024 in
    let old : List ℕ = in_version version20 new in
    let said : List ℕ = appended new (sheet_of 11) 100 in
    record { says = "create makes 2.1"; got = version_of new ∷ []; expected = 0x00020001 ∷ [] }
    ∷ record {
      says = "no other version opens but 1.0 and 2.0";
      got = map (λ v. verdict (in_version v new)) (version10 ∷ version20 ∷ 0 ∷ 0x00010001 ∷ 0x00020002 ∷ 0x00030000 ∷ []);
      expected = 0 ∷ 0 ∷ 4 ∷ 4 ∷ 4 ∷ 4 ∷ [];
    }
    ∷ record {
      says = "a sheet with a character: taken by 2.1, 24 and no store on 2.0";
      got = append_test new (sheet_of 11) ∷ length (stores_for new (sheet_of 11)) ∷ append_test old (sheet_of 11) ∷ length (stores_for old (sheet_of 11)) ∷ [];
      expected = 0 ∷ 22 ∷ 24 ∷ 0 ∷ [];
    }
    ∷ record {
      says = "types 0 and 12 are known to neither";
      got = append_test new (sheet_of 0) ∷ append_test old (sheet_of 0) ∷ append_test new (sheet_of 12) ∷ append_test old (sheet_of 12) ∷ [];
      expected = 24 ∷ 24 ∷ 24 ∷ 24 ∷ [];
    }
    ∷ record {
      says = "0xFF as a character is 255, unsigned, and the version stays";
      got = element_values (element said 0 (ascii "mode") 1) ++ version_of said ∷ shown said;
      expected = 1 ∷ 255 ∷ 0x00020001 ∷ 0 ∷ 1 ∷ 1 ∷ 1 ∷ [];
    }
    ∷ record { says = "a character in an image of 2.0: 13"; got = verdict (in_version version20 said) ∷ []; expected = 13 ∷ [] }
    ∷ record {
      says = "sheets A and B on 2.0: the same stores, and the version stays";
      got = appended (appended old sheet_a 23) sheet_b 43;
      expected = in_version version20 (appended (appended new sheet_a 23) sheet_b 43);
    }
    ∷ []

-- n entries from this frame on, a frame each, with id 1: ids 0 and 2 have their places before and behind each
unfoldable pub entries_from : ℕ → ℕ → List Entry
entries_from frame zero = []
entries_from frame (suc n) = record { frame = frame; n = 1; location = 256; m = 1; id = 1; kind = 1; flags = 0 } ∷ entries_from (frame + 1) n

-- the search among n of them: its number, then the entries that it probes
unfoldable pub search : ℕ → ℕ → ℕ → List ℕ
search n frame id = number_of (searched version21 frame id (entries_from 0 n)) ∷ probed version21 frame id (entries_from 0 n)

-- which entries are probed, in their order
unfoldable pub probes : List Case
probes =
    let b : List ℕ = appended (appended (fresh_in 1024) sheet_a 23) sheet_b 43 in
    record { says = "after B: the first entry of three"; got = probes_of b 0 (ascii "probe"); expected = 1 ∷ 0 ∷ 0 ∷ [] }
    ∷ record { says = "the last"; got = probes_of b 1 (ascii "heater"); expected = 1 ∷ 2 ∷ 2 ∷ [] }
    ∷ record { says = "42: both entries next to its place"; got = probes_of b 0 (ascii "heater"); expected = 1 ∷ 0 ∷ 1 ∷ [] }
    ∷ record { says = "40: none"; got = probes_of b 2 (ascii "probe"); expected = [] }
    ∷ record { says = "41: none"; got = probes_of b 1 (ascii "fan"); expected = [] }
    ∷ record { says = "the image's number: none"; got = probes_of (in_version 0 b) 0 (ascii "probe"); expected = [] }
    ∷ record { says = "no entry"; got = search 0 0 1; expected = 42 ∷ [] }
    ∷ record { says = "one: found"; got = search 1 0 1; expected = 0 ∷ 0 ∷ 0 ∷ [] }
    ∷ record { says = "before it"; got = search 1 0 0; expected = 42 ∷ 0 ∷ 0 ∷ [] }
    ∷ record { says = "behind it"; got = search 1 0 2; expected = 42 ∷ 0 ∷ [] }
    ∷ record { says = "two: the first"; got = search 2 0 1; expected = 0 ∷ 1 ∷ 0 ∷ 0 ∷ [] }
    ∷ record { says = "the second"; got = search 2 1 1; expected = 0 ∷ 1 ∷ 0 ∷ 1 ∷ [] }
    ∷ record { says = "between"; got = search 2 0 2; expected = 42 ∷ 1 ∷ 0 ∷ 1 ∷ [] }
    ∷ record { says = "behind"; got = search 2 1 2; expected = 42 ∷ 1 ∷ [] }
    ∷ record { says = "three: the middle one"; got = search 3 1 1; expected = 0 ∷ 1 ∷ 0 ∷ 1 ∷ [] }
    ∷ record { says = "before"; got = search 3 0 0; expected = 42 ∷ 1 ∷ 0 ∷ 0 ∷ [] }
    ∷ record { says = "four: the first"; got = search 4 0 1; expected = 0 ∷ 2 ∷ 1 ∷ 0 ∷ 0 ∷ [] }
    ∷ record { says = "the last"; got = search 4 3 1; expected = 0 ∷ 2 ∷ 3 ∷ 3 ∷ [] }
    ∷ record { says = "the second"; got = search 4 1 1; expected = 0 ∷ 2 ∷ 1 ∷ 0 ∷ 1 ∷ [] }
    ∷ record { says = "behind"; got = search 4 3 2; expected = 42 ∷ 2 ∷ 3 ∷ [] }
    ∷ record { says = "five: the first"; got = search 5 0 1; expected = 0 ∷ 2 ∷ 1 ∷ 0 ∷ 0 ∷ [] }
    ∷ record { says = "the last"; got = search 5 4 1; expected = 0 ∷ 2 ∷ 4 ∷ 3 ∷ 4 ∷ [] }
    ∷ record { says = "between"; got = search 5 3 0; expected = 42 ∷ 2 ∷ 4 ∷ 3 ∷ 3 ∷ [] }
    ∷ record { says = "eight: before"; got = search 8 0 0; expected = 42 ∷ 4 ∷ 2 ∷ 1 ∷ 0 ∷ 0 ∷ [] }
    ∷ record { says = "the last"; got = search 8 7 1; expected = 0 ∷ 4 ∷ 6 ∷ 7 ∷ 7 ∷ [] }
    ∷ record { says = "behind"; got = search 8 7 2; expected = 42 ∷ 4 ∷ 6 ∷ 7 ∷ [] }
    ∷ record { says = "nine: the fifth"; got = search 9 4 1; expected = 0 ∷ 4 ∷ 2 ∷ 3 ∷ 4 ∷ [] }
    ∷ record { says = "between"; got = search 9 4 0; expected = 42 ∷ 4 ∷ 2 ∷ 3 ∷ 4 ∷ [] }
    ∷ record {
      says = "binary digits of 0, 1, 2, 3, 4, 7, 8, 40,000";
      got = map binary_digits (0 ∷ 1 ∷ 2 ∷ 3 ∷ 4 ∷ 7 ∷ 8 ∷ 40000 ∷ []);
      expected = 0 ∷ 1 ∷ 2 ∷ 2 ∷ 3 ∷ 3 ∷ 4 ∷ 16 ∷ [];
    }
    ∷ []

-- the image with other frames for its first three entries
unfoldable pub framed : ℕ → ℕ → ℕ → List ℕ → List ℕ
framed a b c img =
    let i : ℕ = (layout_of img).index in
    stored (stored (stored img i (le_bytes 8 a)) (i + slot_size) (le_bytes 8 b)) (i + 2 * slot_size) (le_bytes 8 c)

-- the image with this N for its third entry
unfoldable pub sized : ℕ → List ℕ → List ℕ
sized n img = stored img ((layout_of img).index + 2 * slot_size + n_place) (le_bytes 8 n)

abbrev pub found : List ℕ → ℕ → String → ℕ
found img frame name = number_of (lookup img frame (ascii name))

-- frames that wrote nothing: after B the entries are of probe, probe and heater
unfoldable pub gaps : List Case
gaps =
    let b : List ℕ = appended (appended (fresh_in 1024) sheet_a 23) sheet_b 43 in
    let gap : List ℕ = framed 3 7 7 b in
    let more : List ℕ = appended gap sheet_a 1000 in
    let last : List ℕ = framed 0 7 4294967294 b in
    let last_but_one : List ℕ = framed 0 7 4294967293 b in
    let full : List ℕ = appended last_but_one sheet_a 1000 in
    record { says = "frames 3 and 7 alone: 8 frames"; got = shown gap; expected = 0 ∷ 8 ∷ 2 ∷ 3 ∷ [] }
    ∷ record {
      says = "found in 3 and 7; in empty frames 42, and 41 for a name that is not listed; 40 in frame 8";
      got = found gap 3 "probe" ∷ found gap 7 "heater" ∷ found gap 0 "probe" ∷ found gap 5 "heater" ∷ found gap 5 "fan" ∷ found gap 8 "probe" ∷ [];
      expected = 0 ∷ 0 ∷ 42 ∷ 42 ∷ 41 ∷ 40 ∷ [];
    }
    ∷ record {
      says = "an append goes behind the last frame, into no gap";
      got = shown more ++ found more 8 "probe" ∷ found more 0 "probe" ∷ found more 4 "probe" ∷ [];
      expected = 0 ∷ 9 ∷ 2 ∷ 4 ∷ 0 ∷ 42 ∷ 42 ∷ [];
    }
    ∷ record {
      says = "a falling frame, and (frame, id) twice: 15";
      got = verdict (framed 3 2 7 b) ∷ verdict (framed 3 7 6 b) ∷ verdict (framed 8 7 7 b) ∷ verdict (framed 3 3 7 b) ∷ [];
      expected = 15 ∷ 15 ∷ 15 ∷ 15 ∷ [];
    }
    ∷ record {
      says = "a frame above 4,294,967,294: 18, and nothing wraps";
      got = verdict last ∷ verdict (framed 0 7 4294967295 b) ∷ verdict (framed 0 9223372036854775808 7 b) ∷ verdict (framed 18446744073709551615 7 7 b) ∷ [];
      expected = 0 ∷ 18 ∷ 18 ∷ 18 ∷ [];
    }
    ∷ record {
      says = "of one entry 15 goes before 16, and 16 before 18";
      got = verdict (sized 1025 (framed 3 7 6 b)) ∷ verdict (sized 1025 (framed 3 7 18446744073709551615 b)) ∷ [];
      expected = 15 ∷ 16 ∷ [];
    }
    ∷ record {
      says = "last frame 4,294,967,294: found there, 40 behind it";
      got = shown last ++ found last 4294967294 "heater" ∷ found last 4294967294 "probe" ∷ found last 4294967295 "heater" ∷ [];
      expected = 0 ∷ 4294967295 ∷ 2 ∷ 3 ∷ 0 ∷ 42 ∷ 40 ∷ [];
    }
    ∷ record {
      says = "an append to it: 31 and no store, of an empty sheet too";
      got = append_test last sheet_a ∷ length (stores_for last sheet_a) ∷ append_test last [] ∷ [];
      expected = 31 ∷ 0 ∷ 31 ∷ [];
    }
    ∷ record {
      says = "last frame 4,294,967,293: one append fits, the next gives 31";
      got = append_test last_but_one sheet_a ∷ shown full ++ found full 4294967294 "probe" ∷ append_test full sheet_a ∷ [];
      expected = 0 ∷ 0 ∷ 4294967295 ∷ 2 ∷ 4 ∷ 0 ∷ 31 ∷ [];
    }
    ∷ []

-- index, slots, name list, segments, then verdict, frames, names, entries
unfoldable pub blocks : List ℕ → List ℕ
blocks img = header_words img ++ shown img

-- what 0 slots and 0 segments stand for
unfoldable pub defaults : List Case
defaults =
    record {
      says = "0 slots in 4,096 and 17,663 bytes: 52; in 17,664: made";
      got = created_in 0 0 4096 ∷ created_in 0 0 17663 ∷ created_in 0 0 17664 ∷ [];
      expected = 52 ∷ 52 ∷ 0 ∷ [];
    }
    ∷ record {
      says = "512 slots, 16 segments";
      got = blocks (made_in 0 0 17664);
      expected = 256 ∷ 512 ∷ 16640 ∷ 16 ∷ 0 ∷ 0 ∷ 0 ∷ 0 ∷ [];
    }
    ∷ record { says = "0 slots and 1 segment: 16,704"; got = created_in 0 1 16703 ∷ created_in 0 1 16704 ∷ []; expected = 52 ∷ 0 ∷ [] }
    ∷ record { says = "1 slot and 0 segments: 1,344"; got = created_in 1 0 1343 ∷ created_in 1 0 1344 ∷ []; expected = 52 ∷ 0 ∷ [] }
    ∷ record {
      says = "64 slots, asked for: 3,328";
      got = created_in 64 0 3327 ∷ created_in 64 0 3328 ∷ blocks (made_in 64 0 3328);
      expected = 52 ∷ 0 ∷ 256 ∷ 64 ∷ 2304 ∷ 16 ∷ 0 ∷ 0 ∷ 0 ∷ 0 ∷ [];
    }
    ∷ []

-- elements of a type, one behind the other, by their bits
unfoldable pub packed : ℕ → List ℕ → List ℕ
packed kind [] = []
packed kind (bits ∷ rest) = le_bytes (size_of kind) bits ++ packed kind rest

-- one row of a type, with these elements, M 1
unfoldable pub sheet_with : ℕ → List ℕ → List ℕ
sheet_with kind elements = le_bytes 4 1 ++ table_row (length elements) 1 kind (ascii "probe") ++ ascii "probe" ++ packed kind elements

-- one row of floats, N by M, without a byte
unfoldable pub sheet_without : ℕ → ℕ → List ℕ
sheet_without n m = le_bytes 4 1 ++ table_row n m 9 (ascii "probe") ++ ascii "probe"

-- two rows of these names, the first a NaN, the second u8
unfoldable pub sheet_named : List ℕ → List ℕ → List ℕ
sheet_named a b = le_bytes 4 2 ++ table_row 1 1 9 a ++ table_row 1 1 1 b ++ a ++ le_bytes 4 0x7fc00000 ++ b ++ 80 ∷ []

-- the number of a sheet with one of these elements: by itself, the first of three, the last of three
unfoldable pub alone : ℕ → List ℕ → List ℕ
alone kind patterns = map (λ p. sheet_test version21 (sheet_with kind (p ∷ []))) patterns

unfoldable pub in_first : ℕ → List ℕ → List ℕ
in_first kind patterns = map (λ p. sheet_test version21 (sheet_with kind (p ∷ 0 ∷ 0 ∷ []))) patterns

unfoldable pub in_last : ℕ → List ℕ → List ℕ
in_last kind patterns = map (λ p. sheet_test version21 (sheet_with kind (0 ∷ 0 ∷ p ∷ []))) patterns

-- floats and doubles that are not numbers, and those next to them that are
unfoldable pub undefined : List Case
undefined =
    let floats : List ℕ = 0x7f800001 ∷ 0x7fc00000 ∷ 0xffc00000 ∷ 0xffffffff ∷ [] in
    let doubles : List ℕ = 0x7ff0000000000001 ∷ 0x7ff8000000000000 ∷ 0xfff8000000000000 ∷ [] in
    let a : List ℕ = appended (fresh_in 1024) sheet_a 23 in
    let held : List ℕ = stored a 384 (le_bytes 4 0x7f800001) in
    record {
      says = "a float that is not a number, alone, first and last: 30";
      got = alone 9 floats ++ in_first 9 floats ++ in_last 9 floats;
      expected = 30 ∷ 30 ∷ 30 ∷ 30 ∷ 30 ∷ 30 ∷ 30 ∷ 30 ∷ 30 ∷ 30 ∷ 30 ∷ 30 ∷ [];
    }
    ∷ record {
      says = "a double";
      got = alone 10 doubles ++ in_first 10 doubles ++ in_last 10 doubles;
      expected = 30 ∷ 30 ∷ 30 ∷ 30 ∷ 30 ∷ 30 ∷ 30 ∷ 30 ∷ 30 ∷ [];
    }
    ∷ record {
      says = "infinities, -0.0 and the least number pass";
      got = alone 9 (0x7f800000 ∷ 0xff800000 ∷ 0x80000000 ∷ 1 ∷ []) ++ alone 10 (0x7ff0000000000000 ∷ 0xfff0000000000000 ∷ 0x8000000000000000 ∷ 1 ∷ []);
      expected = 0 ∷ 0 ∷ 0 ∷ 0 ∷ 0 ∷ 0 ∷ 0 ∷ 0 ∷ [];
    }
    ∷ record {
      says = "the same bits as u32 and u64, the same bytes as characters";
      got = alone 3 floats ++ alone 4 doubles ++ sheet_test version21 (sheet_with 11 (0 ∷ 0 ∷ 0xc0 ∷ 0x7f ∷ [])) ∷ [];
      expected = 0 ∷ 0 ∷ 0 ∷ 0 ∷ 0 ∷ 0 ∷ 0 ∷ 0 ∷ [];
    }
    ∷ record {
      says = "a NaN's bytes across two floats, and a float NaN's in a double";
      got = sheet_test version21 (sheet_with 9 (0x80000100 ∷ 0x7f ∷ [])) ∷ alone 10 (0x7fc000007fc00000 ∷ 0x000000007fc00000 ∷ []);
      expected = 0 ∷ 0 ∷ 0 ∷ [];
    }
    ∷ record {
      says = "N or M 0: no element";
      got = map (sheet_test version21) (sheet_without 0 1 ∷ sheet_without 1 0 ∷ sheet_without 18446744073709551615 0 ∷ []);
      expected = 0 ∷ 0 ∷ 0 ∷ [];
    }
    ∷ record {
      says = "26 and 27 go before, 28 and 29 behind";
      got = map (sheet_test version21) (sheet_named (0 ∷ []) (ascii "b") ∷ sheet_named (ascii "b") (ascii "b") ∷ sheet_named (ascii "a") (ascii "b") ∷ [])
          ++ append_test (fresh_in 384) (sheet_with 9 (0 ∷ [])) ∷ append_test (fresh_in 384) (sheet_with 9 (0x7fc00000 ∷ [])) ∷ [];
      expected = 26 ∷ 27 ∷ 30 ∷ 29 ∷ 30 ∷ [];
    }
    ∷ record {
      says = "no store";
      got = length (stores_for a (sheet_with 9 (0x7fc00000 ∷ []))) ∷ [];
      expected = 0 ∷ [];
    }
    ∷ record {
      says = "an image that holds one is read as before, and grows";
      got = shown held ++ element_values (element held 0 (ascii "probe") 0) ++ append_test held sheet_b ∷ [];
      expected = 0 ∷ 1 ∷ 1 ∷ 1 ∷ 3 ∷ 0x7f800001 ∷ 0 ∷ [];
    }
    ∷ []

-- texts in segments of their own, each filled up with zeros
unfoldable pub in_segments : List (List ℕ) → List ℕ
in_segments [] = []
in_segments (t ∷ ts) = t ++ zeros (segment_size - length t) ++ in_segments ts

-- the image with these bytes from a place on
unfoldable pub over : List ℕ → ℕ → List ℕ → List ℕ
over img at bytes = take at img ++ bytes ++ drop (at + length bytes) img

-- an image of 1.0 with these segments and entries: 5 slots from 256 on, 4 segments from 448, data from 704
unfoldable pub image10 : List (List ℕ) → List Entry → List ℕ
image10 texts es =
    let slice : List ℕ = zeros 704 ++ 70 ∷ 71 ∷ 72 ∷ 73 ∷ zeros 4 in
    over (over (in_version version10 (created slice [] [] 0 5 4)) 448 (in_segments texts)) 256 (index_bytes es)

-- an entry of one element; its type is u8 where none is said, and its place that of its id
abbrev pub typed : ℕ → ℕ → ℕ → Entry
typed kind frame id = record { frame = frame; n = 1; location = 704 + id; m = 1; id = id; kind = kind; flags = 0 }

abbrev pub byte : ℕ → ℕ → Entry
byte frame id = typed 1 frame id

-- ids 0 to 3
abbrev pub four : List (List ℕ)
four = ascii "pos" ∷ ascii "vel" ∷ ascii "mode" ∷ ascii "temp" ∷ []

-- the number of an image with these segments, and the names it lists; of one with the four and these entries
unfoldable pub named : List (List ℕ) → List ℕ
named texts = let x : List ℕ = image10 texts [] in verdict x ∷ flat (names_of x)

unfoldable pub entered : List Entry → ℕ
entered es = verdict (image10 four es)

-- the image with its index or name block, by that place in the header, empty and at 257, off 8
unfoldable pub emptied : ℕ → List ℕ → List ℕ
emptied place img = stored img place (le_bytes 8 257 ++ le_bytes 8 0)

-- number, stores done, stores of the whole and entries copied
unfoldable pub answered : List ℕ → List ℕ → ℕ → List ℕ
answered img sheet limit = let a : Answer = append_answer img sheet limit in a.number ∷ a.done ∷ a.whole ∷ a.copied ∷ []

-- images of 1.0: names in segments, entries in the order of writing, and no append
unfoldable pub first10 : List Case
first10 =
    let full : List ℕ = ascii "0123456789abcdef0123456789abcdef0123456789abcdef0123456789abcdef" in
    let more : List ℕ = ascii "pos" ++ 0 ∷ ascii "zz" in
    let blank : List ℕ = image10 four [] in
    let x : List ℕ = image10 four (byte 0 2 ∷ byte 0 0 ∷ byte 3 2 ∷ byte 3 0 ∷ byte 3 1 ∷ []) in
    record { says = "a name in each segment"; got = named four; expected = 0 ∷ flat four }
    ∷ record {
      says = "the same bytes in 2.1: the first name alone";
      got = flat (names_of (in_version version21 blank));
      expected = flat (ascii "pos" ∷ []);
    }
    ∷ record {
      says = "bytes behind a name's zero mean nothing";
      got = named (more ∷ ascii "vel" ∷ []);
      expected = 0 ∷ flat (ascii "pos" ∷ ascii "vel" ∷ []);
    }
    ∷ record { says = "so two names can be equal: 11"; got = named (ascii "pos" ∷ more ∷ []); expected = 11 ∷ flat (ascii "pos" ∷ ascii "pos" ∷ []) }
    ∷ record {
      says = "a segment without a zero: 9, though the next has one, and before 11";
      got = map (λ texts. get_or (named texts) 0 0) ((full ∷ ascii "vel" ∷ []) ∷ (ascii "pos" ∷ ascii "pos" ∷ ascii "mode" ∷ full ∷ []) ∷ []);
      expected = 9 ∷ 9 ∷ [];
    }
    ∷ record {
      says = "63 bytes and a zero; a segment that starts with zero ends the list, whatever stands behind it";
      got = named (take 63 full ∷ (0 ∷ ascii "vel") ∷ full ∷ []);
      expected = 0 ∷ flat (take 63 full ∷ []);
    }
    ∷ record { says = "frames 0 and 3 alone: 4 frames"; got = shown x; expected = 0 ∷ 4 ∷ 4 ∷ 5 ∷ [] }
    ∷ record {
      says = "ids that fall, an id in two frames, a first frame above 0";
      got = map entered ((byte 0 2 ∷ byte 0 1 ∷ byte 0 0 ∷ []) ∷ (byte 7 2 ∷ byte 8 2 ∷ []) ∷ []);
      expected = 0 ∷ 0 ∷ [];
    }
    ∷ record {
      says = "(frame, id) twice, side by side and apart: 15";
      got = map entered ((byte 0 1 ∷ byte 0 1 ∷ []) ∷ (byte 0 2 ∷ byte 0 0 ∷ byte 0 2 ∷ [])
          ∷ (byte 0 0 ∷ byte 3 2 ∷ byte 3 0 ∷ byte 3 1 ∷ byte 3 2 ∷ []) ∷ []);
      expected = 15 ∷ 15 ∷ 15 ∷ [];
    }
    ∷ record {
      says = "a falling frame: 15";
      got = map entered ((byte 1 0 ∷ byte 0 1 ∷ []) ∷ (byte 1 0 ∷ byte 2 0 ∷ byte 1 1 ∷ []) ∷ []);
      expected = 15 ∷ 15 ∷ [];
    }
    ∷ record {
      says = "of one entry 14 goes before 15, 15 before 16, and 16 before 18";
      got = entered (byte 1 0 ∷ byte 0 4 ∷ []) ∷ map (λ es. verdict (sized 1025 (image10 four es)))
          ((byte 0 2 ∷ byte 0 0 ∷ byte 0 2 ∷ []) ∷ (byte 0 2 ∷ byte 0 0 ∷ byte 4294967295 2 ∷ []) ∷ []);
      expected = 14 ∷ 15 ∷ 16 ∷ [];
    }
    ∷ record {
      says = "a frame above 4,294,967,294: 18";
      got = map entered ((byte 4294967294 0 ∷ []) ∷ (byte 4294967295 0 ∷ []) ∷ []);
      expected = 0 ∷ 18 ∷ [];
    }
    ∷ record {
      says = "types 1 to 10, and no character: 13";
      got = map (λ kind. entered (typed kind 0 0 ∷ [])) (0 ∷ 1 ∷ 10 ∷ 11 ∷ []);
      expected = 13 ∷ 0 ∷ 0 ∷ 13 ∷ [];
    }
    ∷ record {
      says = "location 0 ends the list, whatever stands behind it";
      got = shown (stored x (256 + 2 * slot_size + location_place) (le_bytes 8 0));
      expected = 0 ∷ 1 ∷ 4 ∷ 2 ∷ [];
    }
    ∷ record {
      says = "an entry, and its element";
      got = listed_values (lookup x 3 (ascii "vel")) ++ element_values (element x 3 (ascii "vel") 0);
      expected = 3 ∷ 1 ∷ 705 ∷ 1 ∷ 1 ∷ 1 ∷ 0 ∷ 1 ∷ 71 ∷ [];
    }
    ∷ record {
      says = "42 in a frame with entries and in one without, 41, 40";
      got = found x 0 "vel" ∷ found x 3 "temp" ∷ found x 1 "pos" ∷ found x 1 "fan" ∷ found x 4 "pos" ∷ [];
      expected = 42 ∷ 42 ∷ 42 ∷ 41 ∷ 40 ∷ [];
    }
    ∷ record { says = "probes: the frame is walked from its first entry"; got = probes_of x 0 (ascii "mode"); expected = 2 ∷ 1 ∷ 0 ∷ 0 ∷ [] }
    ∷ record { says = "to the one found"; got = probes_of x 0 (ascii "pos"); expected = 2 ∷ 1 ∷ 0 ∷ 0 ∷ 1 ∷ [] }
    ∷ record { says = "in the last frame"; got = probes_of x 3 (ascii "vel"); expected = 2 ∷ 1 ∷ 2 ∷ 3 ∷ 4 ∷ [] }
    ∷ record { says = "42: to the one behind it"; got = probes_of x 0 (ascii "vel"); expected = 2 ∷ 1 ∷ 0 ∷ 0 ∷ 1 ∷ 2 ∷ [] }
    ∷ record { says = "or to the end"; got = probes_of x 3 (ascii "temp"); expected = 2 ∷ 1 ∷ 2 ∷ 3 ∷ 4 ∷ [] }
    ∷ record { says = "in an empty frame: both next to its place"; got = probes_of x 1 (ascii "pos"); expected = 2 ∷ 1 ∷ 2 ∷ [] }
    ∷ record { says = "40 and 41: none"; got = probes_of x 4 (ascii "pos") ++ probes_of x 0 (ascii "fan"); expected = [] }
    ∷ record {
      says = "an append, whatever its limit: 20, no store";
      got = answered x sheet_a 0 ++ answered x sheet_a 1000 ++ appended x sheet_a 1000;
      expected = 20 ∷ 0 ∷ 0 ∷ 0 ∷ 20 ∷ 0 ∷ 0 ∷ 0 ∷ x;
    }
    ∷ record {
      says = "20 behind the image's number, before 22 and 31";
      got = append_test (image10 (full ∷ []) []) sheet_a ∷ append_test x [] ∷ append_test (image10 four (byte 4294967294 0 ∷ [])) sheet_a ∷ [];
      expected = 9 ∷ 20 ∷ 20 ∷ [];
    }
    ∷ record {
      says = "and before 21, which the same blocks give in 2.1";
      got = map (λ place. append_test (emptied place blank) sheet_a) (index_place ∷ namelist_place ∷ [])
          ++ map (λ place. append_test (in_version version21 (emptied place blank)) sheet_a) (index_place ∷ namelist_place ∷ []);
      expected = 20 ∷ 20 ∷ 21 ∷ 21 ∷ [];
    }
    ∷ []

-- a row of bytes, M 1
abbrev pub bytes_row : String → List ℕ → Row
bytes_row name bytes = record { name = ascii name; n = length bytes; m = 1; kind = 1; body = bytes }

-- the sheet with these rows
unfoldable pub table_rows : List Row → List ℕ
table_rows [] = []
table_rows (r ∷ rs) = table_row r.n r.m r.kind r.name ++ table_rows rs

unfoldable pub bodies_of : List Row → List ℕ
bodies_of [] = []
bodies_of (r ∷ rs) = r.name ++ r.body ++ bodies_of rs

unfoldable pub sheet_from : List Row → List ℕ
sheet_from rs = le_bytes 4 (length rs) ++ table_rows rs ++ bodies_of rs

-- where the listed chunks lie
unfoldable pub locations : List ℕ → List ℕ
locations img = map (λ e. e.location) (entries_of img)

-- the number of an append of these rows, then what it leaves: where the blocks lie, how large they are, and all chunks
unfoldable pub grown_by : List Row → List ℕ → List ℕ
grown_by rs img = let x : List ℕ = appended img (sheet_from rs) 1000 in append_test img (sheet_from rs) ∷ blocks x ++ locations x

-- n bytes that are not zero
abbrev pub sevens : ℕ → List ℕ
sevens n = replicate n 7

-- an image without a slot and a segment
unfoldable pub without : ℕ → List ℕ
without len = stored (fresh_in len) index_place (le_bytes 8 256 ++ le_bytes 8 0 ++ le_bytes 8 256 ++ le_bytes 8 0)

-- an image as it was after A and B when chunks and blocks started at multiples of 8: chunks at 384, 400 and 416, the index at 424
unfoldable pub older : ℕ → List ℕ
older len =
    let probe : ℕ → ℕ → Entry = λ frame at. record { frame = frame; n = 3; location = at; m = 1; id = 0; kind = 9; flags = 0 } in
    let heater : Entry = record { frame = 1; n = 1; location = 416; m = 1; id = 1; kind = 1; flags = 0 } in
    over (over (over (stored (fresh_in len) index_place (le_bytes 8 424 ++ le_bytes 8 4)) 320 (flat (ascii "probe" ∷ ascii "heater" ∷ [])))
    384 (readings ++ zeros 4 ++ readings ++ zeros 4 ++ 80 ∷ [])) 424 (index_bytes (probe 0 384 ∷ probe 1 400 ∷ heater ∷ []))

-- chunks and blocks on multiples of 64
unfoldable pub starts : List Case
starts =
    let a : List ℕ = appended (fresh_in 1024) sheet_a 23 in
    let one : List ℕ = created (sevens 448) [] [] 0 1 1 in
    let dirty : List ℕ = created (sevens 1024) [] [] 0 2 1 in
    let empty : List Row = bytes_row "probe" [] ∷ [] in
    let byte : List Row = bytes_row "probe" (1 ∷ []) ∷ [] in
    let two : List Row = bytes_row "a" (1 ∷ []) ∷ bytes_row "b" [] ∷ [] in
    record {
      says = "sheets A and B: chunks at 384, 448 and 512";
      got = locations (appended a sheet_b 43);
      expected = 384 ∷ 448 ∷ 512 ∷ [];
    }
    ∷ record {
      says = "sheet A fits in 400 bytes, as 29 rounds to 8; in 399: 29";
      got = map (λ len. append_test (fresh_in len) sheet_a) (399 ∷ 400 ∷ []);
      expected = 29 ∷ 0 ∷ [];
    }
    ∷ record {
      says = "an empty row behind a chunk from 384 to 396: 29 in 420 and in 447 bytes, at 448 in 448";
      got = map (λ len. append_test (appended (fresh_in len) sheet_a 23) (sheet_from empty)) (420 ∷ 447 ∷ 448 ∷ [])
          ++ locations (appended (appended (fresh_in 448) sheet_a 23) (sheet_from empty) 1000);
      expected = 29 ∷ 29 ∷ 0 ∷ 384 ∷ 448 ∷ [];
    }
    ∷ record {
      says = "a row of a byte and an empty one: 29 in 400 and in 447 bytes, at 384 and 448 in 448";
      got = map (λ len. append_test (fresh_in len) (sheet_from two)) (400 ∷ 447 ∷ 448 ∷ []) ++ locations (appended (fresh_in 448) (sheet_from two) 1000);
      expected = 29 ∷ 29 ∷ 0 ∷ 384 ∷ 448 ∷ [];
    }
    ∷ record {
      says = "behind a byte at 448 two empty rows and a byte at 512; the index at 576";
      got = grown_by (bytes_row "a" (1 ∷ []) ∷ bytes_row "b" [] ∷ bytes_row "c" [] ∷ bytes_row "d" (2 ∷ []) ∷ []) a;
      expected = 0 ∷ 576 ∷ 8 ∷ 320 ∷ 1 ∷ 0 ∷ 2 ∷ 5 ∷ 5 ∷ 384 ∷ 448 ∷ 512 ∷ 512 ∷ 512 ∷ [];
    }
    ∷ record {
      says = "1 slot: 52 in 383 bytes, names at 320 in 384";
      got = created_in 1 1 383 ∷ blocks (made_in 1 1 384);
      expected = 52 ∷ 256 ∷ 1 ∷ 320 ∷ 1 ∷ 0 ∷ 0 ∷ 0 ∷ 0 ∷ [];
    }
    ∷ record {
      says = "its blocks are zero, the 32 bytes between them and those behind are kept";
      got = drop 256 one;
      expected = zeros 32 ++ sevens 32 ++ zeros 64 ++ sevens 64;
    }
    ∷ record {
      says = "no word of a gap is stored: the counts stay, and bytes of gaps";
      got = step_counts dirty sheet_a ++ drop 384 (appended (appended dirty sheet_a 23) sheet_b 43);
      expected = 8 ∷ 8 ∷ 2 ∷ 0 ∷ 1 ∷ 0 ∷ 4 ∷ 23
          ∷ readings ++ zeros 4 ++ sevens 48 ++ readings ++ zeros 4 ++ sevens 48 ++ 80 ∷ zeros 7 ++ sevens 56
          ++ drop 576 (appended (appended (fresh_in 704) sheet_a 23) sheet_b 43) ++ sevens 320;
    }
    ∷ record {
      says = "both blocks move: a byte at 256, names at 320, the index at 448; 29 in 511 bytes";
      got = grown_by byte (without 512) ++ append_test (without 511) (sheet_from byte) ∷ [];
      expected = 0 ∷ 448 ∷ 2 ∷ 320 ∷ 2 ∷ 0 ∷ 1 ∷ 1 ∷ 1 ∷ 256 ∷ 29 ∷ [];
    }
    ∷ record {
      says = "an older image reads as before, its end of use is 576";
      got = blocks (older 1024) ++ locations (older 1024) ++ end_in (older 1024) ∷ element_values (element (older 1024) 1 (ascii "heater") 0);
      expected = 424 ∷ 4 ∷ 320 ∷ 1 ∷ 0 ∷ 2 ∷ 2 ∷ 3 ∷ 384 ∷ 400 ∷ 416 ∷ 576 ∷ 1 ∷ 80 ∷ [];
    }
    ∷ record {
      says = "and grows: its blocks stay, on multiples of 8, where they have room, or move to one of 64";
      got = grown_by byte (older 1024) ++ grown_by two (older 1024);
      expected = 0 ∷ 424 ∷ 4 ∷ 320 ∷ 1 ∷ 0 ∷ 3 ∷ 2 ∷ 4 ∷ 384 ∷ 400 ∷ 416 ∷ 576
          ∷ 0 ∷ 640 ∷ 8 ∷ 320 ∷ 1 ∷ 0 ∷ 3 ∷ 4 ∷ 5 ∷ 384 ∷ 400 ∷ 416 ∷ 576 ∷ 640 ∷ [];
    }
    ∷ record {
      says = "in 583 bytes: 29, in 584 it takes a byte";
      got = map (λ len. append_test (older len) (sheet_from byte)) (583 ∷ 584 ∷ []);
      expected = 29 ∷ 0 ∷ [];
    }
    ∷ record {
      says = "21 asks for multiples of 8 as before";
      got = map (λ at. append_test (stored (fresh_in 1024) index_place (le_bytes 8 at ++ le_bytes 8 1)) sheet_a) (256 ∷ 264 ∷ 268 ∷ 288 ∷ []);
      expected = 0 ∷ 0 ∷ 21 ∷ 0 ∷ [];
    }
    ∷ []

-- the entries that each of these sheets has copied, appended one after the other; then the slots, and the entries listed
unfoldable pub copied_by : List (List ℕ) → List ℕ → List ℕ
copied_by [] img = (layout_of img).slots ∷ length (entries_of img) ∷ []
copied_by (sheet ∷ sheets) img = (append_answer img sheet 1000).copied ∷ copied_by sheets (appended img sheet 1000)

-- what moving the index copies
unfoldable pub moving : List Case
moving =
    let a : List ℕ = appended (fresh_in 1024) sheet_a 23 in
    let one : List ℕ = sheet_from (bytes_row "probe" [] ∷ []) in
    let two : List ℕ = sheet_from (bytes_row "a" [] ∷ bytes_row "b" [] ∷ []) in
    let long : List ℕ = sheet_from (bytes_row "a name that has with its zero more bytes than are left in one segment" [] ∷ []) in
    record { says = "sheet A copies no entry, B 1"; got = copied_by (sheet_a ∷ sheet_b ∷ []) (fresh_in 1024); expected = 0 ∷ 1 ∷ 4 ∷ 3 ∷ [] }
    ∷ record {
      says = "whatever the limit, 0 too";
      got = answered a sheet_b 0 ++ answered a sheet_b 16 ++ answered a sheet_b 34 ++ answered a sheet_b 1000;
      expected = 0 ∷ 0 ∷ 43 ∷ 1 ∷ 0 ∷ 16 ∷ 43 ∷ 1 ∷ 0 ∷ 34 ∷ 43 ∷ 1 ∷ 0 ∷ 43 ∷ 43 ∷ 1 ∷ [];
    }
    ∷ record {
      says = "of the 18 stores of B's step 5 the first four hold the entry, from 576 on";
      got = length (step_five a sheet_b) ∷ map (λ s. s.place) (take 4 (step_five a sheet_b)) ++ map (λ s. le 8 s.bytes 0) (take 4 (step_five a sheet_b));
      expected = 18 ∷ 576 ∷ 584 ∷ 592 ∷ 600 ∷ 0 ∷ 3 ∷ 384 ∷ (1 + 2 ^ 48 * 9) ∷ [];
    }
    ∷ record {
      says = "refused in 703 bytes: none, whatever the limit";
      got = answered (appended (fresh_in 703) sheet_a 23) sheet_b 0 ++ answered (appended (fresh_in 703) sheet_a 23) sheet_b 1000;
      expected = 29 ∷ 0 ∷ 0 ∷ 0 ∷ 29 ∷ 0 ∷ 0 ∷ 0 ∷ [];
    }
    ∷ record {
      says = "B again where it was stopped: before the new count stands it copies again, with it the index has moved";
      got = map (λ k. (append_answer (appended a sheet_b k) sheet_b 1000).copied) (33 ∷ 34 ∷ 35 ∷ 42 ∷ []);
      expected = 1 ∷ 1 ∷ 0 ∷ 0 ∷ [];
    }
    ∷ record {
      says = "an index that lists nothing moves, of 1 slot and of none: 0";
      got = copied_by (two ∷ []) (made_in 1 1 1024) ++ copied_by (two ∷ []) (without 1024);
      expected = 0 ∷ 2 ∷ 2 ∷ 0 ∷ 2 ∷ 2 ∷ [];
    }
    ∷ record {
      says = "the name block moves and the index stays: 0";
      got = copied_by (long ∷ []) a ++ blocks (appended a long 1000);
      expected = 0 ∷ 2 ∷ 2 ∷ 256 ∷ 2 ∷ 448 ∷ 2 ∷ 0 ∷ 2 ∷ 2 ∷ 2 ∷ [];
    }
    ∷ record {
      says = "1 slot and five rows, one to an append: 1 + 2 + 4 = 7 copied, 8 slots, 5 entries, 7 < 10";
      got = copied_by (one ∷ one ∷ one ∷ one ∷ one ∷ []) (made_in 1 1 1024);
      expected = 0 ∷ 1 ∷ 2 ∷ 0 ∷ 4 ∷ 8 ∷ 5 ∷ [];
    }
    ∷ []

-- what turns expect of the header
unfoldable pub turns : List Case
turns =
    let a : List ℕ = appended (fresh_in 1024) sheet_a 23 in
    let long : List ℕ = sheet_from (bytes_row "a name that has with its zero more bytes than are left in one segment" [] ∷ []) in
    let after : List ℕ → ℕ → List ℕ = λ sheet k. header_words (appended a sheet k) in
    record {
      says = "after 33, 34, 35 and 36 stores of sheet B: the index moves with store 34, its slots with 35";
      got = after sheet_b 33 ++ after sheet_b 34 ++ after sheet_b 35 ++ after sheet_b 36;
      expected = 256 ∷ 2 ∷ 320 ∷ 1 ∷ 576 ∷ 2 ∷ 320 ∷ 1 ∷ 576 ∷ 4 ∷ 320 ∷ 1 ∷ 576 ∷ 4 ∷ 320 ∷ 1 ∷ [];
    }
    ∷ record {
      says = "a name block that moves: its place with store 29, its segments with 30";
      got = after long 28 ++ after long 29 ++ after long 30;
      expected = 256 ∷ 2 ∷ 320 ∷ 1 ∷ 256 ∷ 2 ∷ 448 ∷ 1 ∷ 256 ∷ 2 ∷ 448 ∷ 2 ∷ [];
    }
    ∷ []

-- opening's number and the reader's words; the number and the values of a reader's answers
unfoldable pub reader_in : List ℕ → List ℕ
reader_in img = number_of (reading img) ∷ reading_values (reading img)

abbrev pub told_entry : Result Entry ℕ → List ℕ
told_entry a = number_of a ∷ listed_values a

abbrev pub told_place : Result Part ℕ → List ℕ
told_place a = number_of a ∷ place_values a

abbrev pub told_id : Result ℕ ℕ → List ℕ
told_id a = number_of a ∷ ident_values a

-- a reader of 2.1 with its name list at 320
abbrev pub by21 : ℕ → ℕ → ℕ → ℕ → ℕ → Reader
by21 frames names entries index size =
    record { frames = frames; names = names; entries = entries; index = index; namelist = 320; size = size; version = version21 }

-- frame 0 and the first name, asked in each way
unfoldable pub first_by : Reader → List ℕ → List ℕ
first_by r img =
    told_entry (lookup_by r img 0 (ascii "probe")) ++ told_entry (find_by r img 0 0) ++ told_entry (newest_by r img 0 0)
    ++ told_entry (entry_by r img 0) ++ told_place (chunk_place_by r img 0 (ascii "probe")) ++ told_place (name_by r img 0)
    ++ told_id (id_by r img (ascii "probe"))

-- what sheet B adds
unfoldable pub next_by : Reader → List ℕ → List ℕ
next_by r img =
    number_of (lookup_by r img 1 (ascii "probe")) ∷ number_of (lookup_by r img 0 (ascii "heater")) ∷ number_of (find_by r img 0 1)
    ∷ number_of (newest_by r img 0 1) ∷ number_of (entry_by r img 1) ∷ number_of (name_by r img 1)
    ∷ number_of (id_by r img (ascii "heater")) ∷ []

-- the newest entry's number and place
unfoldable pub newest_in : Reader → List ℕ → ℕ → ℕ → List ℕ
newest_in r img frame id = let e : Result Entry ℕ = newest_by r img frame id in number_of e ∷ take 3 (listed_values e)

-- a reader answers as of its moment, from the bytes that are there
unfoldable pub readers : List Case
readers =
    let x : List ℕ = fresh_in 704 in
    let a : List ℕ = appended x sheet_a 23 in
    let b34 : List ℕ = appended a sheet_b 34 in
    let b42 : List ℕ = appended a sheet_b 42 in
    let b : List ℕ = appended a sheet_b 43 in
    let r : Reader = by21 1 1 1 256 6 in
    let whole : Reader = by21 2 2 3 576 13 in
    let entry : List ℕ = 0 ∷ 0 ∷ 3 ∷ 384 ∷ 1 ∷ 0 ∷ 9 ∷ 0 ∷ [] in
    let first : List ℕ = entry ++ entry ++ entry ++ entry ++ 0 ∷ 384 ∷ 12 ∷ 0 ∷ 320 ∷ 5 ∷ 0 ∷ 0 ∷ [] in
    let next : List ℕ = 40 ∷ 41 ∷ 41 ∷ 41 ∷ 44 ∷ 44 ∷ 41 ∷ [] in
    let early : List Entry = byte 1 3 ∷ byte 1 0 ∷ byte 4 2 ∷ byte 4 0 ∷ byte 6 1 ∷ [] in
    let old : List ℕ = image10 four early in
    let by10 : Reader = record { frames = 7; names = 4; entries = 5; index = 256; namelist = 448; size = 256; version = version10 } in
    record {
      says = "the reader of a fresh image, of sheet A's after 22 stores, and after 23";
      got = reader_in x ++ reader_in (appended x sheet_a 22) ++ reader_in a;
      expected = 0 ∷ 0 ∷ 0 ∷ 0 ∷ 256 ∷ 320 ∷ 0 ∷ 0x00020001 ∷ 0 ∷ 0 ∷ 0 ∷ 1 ∷ 0 ∷ 256 ∷ 320 ∷ 6 ∷ 0x00020001 ∷ 0
          ∷ 0 ∷ 1 ∷ 1 ∷ 1 ∷ 256 ∷ 320 ∷ 6 ∷ 0x00020001 ∷ 0 ∷ [];
    }
    ∷ record {
      says = "of sheet B's after 34, 42 and 43: the index has moved, and the frame is there with the last store";
      got = reader_in b34 ++ reader_in b42 ++ reader_in b;
      expected = 0 ∷ 1 ∷ 2 ∷ 1 ∷ 576 ∷ 320 ∷ 13 ∷ 0x00020001 ∷ 0 ∷ 0 ∷ 1 ∷ 2 ∷ 1 ∷ 576 ∷ 320 ∷ 13 ∷ 0x00020001 ∷ 0
          ∷ 0 ∷ 2 ∷ 2 ∷ 3 ∷ 576 ∷ 320 ∷ 13 ∷ 0x00020001 ∷ 0 ∷ [];
    }
    ∷ record {
      says = "that of 23 stores of A: what it has, then, after 34 stores of B and after all";
      got = first_by r a ++ first_by r b34 ++ first_by r b;
      expected = first ++ first ++ first;
    }
    ∷ record {
      says = "and what it does not have: 40, 41, 44";
      got = next_by r a ++ next_by r b34 ++ next_by r b;
      expected = next ++ next ++ next;
    }
    ∷ record {
      says = "that of 22 stores, after B: the name and no frame";
      got = first_by (by21 0 1 0 256 6) b;
      expected = 40 ∷ 40 ∷ 40 ∷ 44 ∷ 40 ∷ 0 ∷ 320 ∷ 5 ∷ 0 ∷ 0 ∷ [];
    }
    ∷ record {
      says = "B's: the newest in its frame, in an older one where the word says that there are more, and in none";
      got = newest_in whole b 1 0 ++ newest_in whole b 0 0 ++ newest_in (by21 4 2 3 576 13) b 3 1 ++ newest_in whole b 0 1 ++ newest_in whole b 2 0;
      expected = 0 ∷ 1 ∷ 3 ∷ 448 ∷ 0 ∷ 0 ∷ 3 ∷ 384 ∷ 0 ∷ 1 ∷ 1 ∷ 512 ∷ 42 ∷ 40 ∷ [];
    }
    ∷ record {
      says = "a word one too great: 33; the greatest fit, and what stands there is shown";
      got = map (λ q. number_of (entry_by q b 13)) (by21 2 2 14 256 6 ∷ by21 2 2 15 256 6 ∷ by21 2 2 14 257 6 ∷ [])
          ++ map (λ q. number_of (name_by q b 1)) (by21 2 1024 3 576 384 ∷ by21 2 1025 3 576 384 ∷ by21 2 2 3 576 385 ∷ by21 2 2 3 576 12 ∷ []);
      expected = 0 ∷ 33 ∷ 33 ∷ 0 ∷ 33 ∷ 33 ∷ 44 ∷ [];
    }
    ∷ record {
      says = "1.0: the reader, and the newest at and between frames whose ids are in no order";
      got = reader_in old ++ newest_in by10 old 1 3 ++ newest_in by10 old 3 0 ++ newest_in by10 old 4 0 ++ newest_in by10 old 6 2 ++ newest_in by10 old 5 1;
      expected = 0 ∷ 7 ∷ 4 ∷ 5 ∷ 256 ∷ 448 ∷ 256 ∷ 0x00010000 ∷ 0
          ∷ 0 ∷ 1 ∷ 1 ∷ 707 ∷ 0 ∷ 1 ∷ 1 ∷ 704 ∷ 0 ∷ 4 ∷ 1 ∷ 704 ∷ 0 ∷ 4 ∷ 1 ∷ 706 ∷ 42 ∷ [];
    }
    ∷ []

unfoldable pub passes : List Case → Bool
passes [] = true
passes (c ∷ cs) = same c.got c.expected && passes cs
