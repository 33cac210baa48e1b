-- The header: 256 bytes of magic, places and counts of the two blocks, versions, application and schema.
use Rattle.std.specs.Prelude.{ℕ, List, [], ◌∷◌, Bool, ◌||◌, length, eqb}
use Rattle.gsd_format.specs.declared.Layout.{Layout}
use Rattle.gsd_format.specs.Bytes.{le, round_up}

-- 0x65DF65DF65DF65DF, little-endian
abbrev pub magic : List ℕ
magic = 0xdf ∷ 0x65 ∷ 0xdf ∷ 0x65 ∷ 0xdf ∷ 0x65 ∷ 0xdf ∷ 0x65 ∷ []

-- GSD file layer 1.0, 2.0 and 2.1
abbrev pub version10 : ℕ
version10 = 0x00010000

abbrev pub version20 : ℕ
version20 = 0x00020000

abbrev pub version21 : ℕ
version21 = 0x00020001

-- the versions that open
abbrev pub supported : ℕ → Bool
supported version = eqb version version10 || eqb version version20 || eqb version version21

-- is it 1.0, where a name has a segment of its own and entries stand in the order of writing?
abbrev pub v10 : ℕ → Bool
v10 version = eqb version version10

abbrev pub header_size : ℕ
header_size = 256

-- the least and the greatest length of an image's slice
abbrev pub least_length : ℕ
least_length = header_size

abbrev pub greatest_length : ℕ
greatest_length = 1073741824

-- places in the header: the four numbers of the two blocks, the schema's version and the file's, application and schema,
-- and the reserved bytes
abbrev pub index_place : ℕ
index_place = 8

abbrev pub slots_place : ℕ
slots_place = 16

abbrev pub namelist_place : ℕ
namelist_place = 24

abbrev pub segments_place : ℕ
segments_place = 32

abbrev pub schema_version_place : ℕ
schema_version_place = 40

abbrev pub version_place : ℕ
version_place = 44

abbrev pub application_place : ℕ
application_place = 48

abbrev pub schema_place : ℕ
schema_place = 112

abbrev pub reserved_place : ℕ
reserved_place = 176

abbrev pub reserved_size : ℕ
reserved_size = 80

-- the bytes of application and of schema, each with a zero
abbrev pub text_size : ℕ
text_size = 64

-- the bytes of a slot of the index block, and of a segment of the name block
abbrev pub slot_size : ℕ
slot_size = 32

abbrev pub segment_size : ℕ
segment_size = 64

-- at multiples of this start the chunks and blocks that an append or create lays out; an image may have others elsewhere
abbrev pub alignment : ℕ
alignment = 64

abbrev pub aligned : ℕ → ℕ
aligned n = round_up alignment n

abbrev pub version_of : List ℕ → ℕ
version_of img = le 4 img version_place

-- header words 8 to 32: where the index and the name list lie, and how long they are
abbrev pub header_words : List ℕ → List ℕ
header_words img = le 8 img index_place ∷ le 8 img slots_place ∷ le 8 img namelist_place ∷ le 8 img segments_place ∷ []

unfoldable pub layout_of : List ℕ → Layout
layout_of img = record {
  len = length img;
  version = version_of img;
  index = le 8 img index_place;
  slots = le 8 img slots_place;
  namelist = le 8 img namelist_place;
  segments = le 8 img segments_place;
}
