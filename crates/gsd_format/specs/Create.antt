-- A fresh image: header, an empty index block at 256, an empty name block at the next aligned place; and create's numbers.
use Rattle.std.specs.Prelude.{ℕ, zero, suc, ◌+◌, ◌*◌, ◌-◌, ◌≡◌, List, ◌++◌, Bool, ◌||◌, length, drop, ltb, Ok}
use Rattle.gsd_format.specs.Bytes.{le, le_bytes, part, zero_in, zeros}
use Rattle.gsd_format.specs.Refusals.{◌⇒◌, ◌▹◌}
use Rattle.gsd_format.specs.Header.{magic, version21, header_size, greatest_length, aligned, layout_of}
use Rattle.gsd_format.specs.Header.{schema_version_place, application_place, schema_place, text_size, reserved_place, reserved_size, slot_size, segment_size}
use Rattle.gsd_format.specs.Opening.{opening}

-- how many slots and segments 0 stands for, each by itself
abbrev pub default_slots : ℕ
default_slots = 512

abbrev pub default_segments : ℕ
default_segments = 16

-- and the most that may be asked of either
abbrev pub most_units : ℕ
most_units = 65536

unfoldable pub or_default : ℕ → ℕ → ℕ
or_default zero default = default
or_default (suc n) default = suc n

-- A fresh image with so many slots and segments. Its index block starts behind the header; where that block ends,
abbrev pub fresh_index_end : ℕ → ℕ
fresh_index_end slots = header_size + slot_size * slots

-- where its name block starts and ends,
abbrev pub fresh_namelist : ℕ → ℕ
fresh_namelist slots = aligned (fresh_index_end slots)

abbrev pub fresh_namelist_end : ℕ → ℕ → ℕ
fresh_namelist_end slots segments = fresh_namelist slots + segment_size * segments

-- how many bytes lie between the two blocks,
abbrev pub fresh_gap : ℕ → ℕ
fresh_gap slots = fresh_namelist slots - fresh_index_end slots

-- and how many bytes it needs
abbrev pub fresh_length : ℕ → ℕ → ℕ
fresh_length slots segments = aligned (fresh_namelist_end slots segments)

-- a text for the header: room for a zero is left, it holds none itself, and is filled up with zeros
abbrev pub longest_text : ℕ
longest_text = 63

abbrev pub bad_text : List ℕ → Bool
bad_text t = ltb longest_text (length t) || zero_in t 0 (length t)

abbrev pub filled : List ℕ → List ℕ
filled t = t ++ zeros (text_size - length t)

unfoldable pub create_test : ℕ → List ℕ → List ℕ → ℕ → ℕ → ℕ
create_test len application schema slots segments =
    (ltb greatest_length len ⇒ 2)
    ▹ (ltb most_units slots || ltb most_units segments ⇒ 50)
    ▹ (bad_text application || bad_text schema ⇒ 51)
    ▹ (ltb len (fresh_length slots segments) ⇒ 52)

unfoldable pub fresh_header : List ℕ → List ℕ → ℕ → ℕ → ℕ → List ℕ
fresh_header application schema schema_version slots segments =
    magic
    ++ le_bytes 8 header_size ++ le_bytes 8 slots
    ++ le_bytes 8 (fresh_namelist slots) ++ le_bytes 8 segments
    ++ le_bytes 4 schema_version ++ le_bytes 4 version21
    ++ filled application ++ filled schema
    ++ zeros reserved_size

-- the slice with a fresh image at its front; bytes between the blocks and behind them stay
unfoldable pub fresh : List ℕ → List ℕ → List ℕ → ℕ → ℕ → ℕ → List ℕ
fresh slice application schema schema_version slots segments =
    fresh_header application schema schema_version slots segments
    ++ zeros (slot_size * slots)
    ++ part slice (fresh_index_end slots) (fresh_gap slots)
    ++ zeros (segment_size * segments)
    ++ drop (fresh_namelist_end slots segments) slice

-- create's number, and the slice afterwards: a refusal changes nothing
unfoldable pub create_number : List ℕ → List ℕ → List ℕ → ℕ → ℕ → ℕ
create_number slice application schema slots segments =
    create_test (length slice) application schema (or_default slots default_slots) (or_default segments default_segments)

unfoldable pub created : List ℕ → List ℕ → List ℕ → ℕ → ℕ → ℕ → List ℕ
created slice application schema schema_version slots segments =
    elim (create_number slice application schema slots segments) [
      | zero ↦ fresh slice application schema schema_version (or_default slots default_slots) (or_default segments default_segments)
      | suc k ↦ slice
    ]

-- What a fresh image is: it opens with no frames, names and entries, its header is as asked, its blocks are empty, and between
-- and behind them the slice is as it was. Its layout says that its length is the slice's
pub record Fresh (slice application schema : List ℕ) (schema_version slots segments : ℕ) (img : List ℕ) : Type 0 where
  pub opens : opening img ≡ Ok (record { frames = 0; names = 0; entries = 0 })
  pub layout : layout_of img ≡ record {
    len = length slice;
    version = version21;
    index = header_size;
    slots = slots;
    namelist = fresh_namelist slots;
    segments = segments;
  }
  pub same_version : le 4 img schema_version_place ≡ schema_version
  pub same_application : part img application_place text_size ≡ filled application
  pub same_schema : part img schema_place text_size ≡ filled schema
  pub reserved : part img reserved_place reserved_size ≡ zeros reserved_size
  pub index : part img header_size (slot_size * slots) ≡ zeros (slot_size * slots)
  pub between : part img (fresh_index_end slots) (fresh_gap slots) ≡ part slice (fresh_index_end slots) (fresh_gap slots)
  pub namelist : part img (fresh_namelist slots) (segment_size * segments) ≡ zeros (segment_size * segments)
  pub behind : drop (fresh_namelist_end slots segments) img ≡ drop (fresh_namelist_end slots segments) slice
