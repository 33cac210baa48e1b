-- A RawArray file of a chunk, number by number, all of them eight bytes and little-endian: the head, then the chunk's bytes.
use Rattle.std.specs.Prelude.{ℕ, ◌+◌, List, [], ◌∷◌, ◌++◌, get_or}
use Rattle.gsd_format.specs.declared.Entry.{Entry}
use Rattle.gsd_format.specs.Bytes.{le_bytes}
use Rattle.gsd_format.specs.Types.{size_of, chunk_size}
use Rattle.gsd_format.specs.Lookup.{chunk_of}

-- "rawarray"
abbrev pub raw_magic : List ℕ
raw_magic = 0x72 ∷ 0x61 ∷ 0x77 ∷ 0x61 ∷ 0x72 ∷ 0x72 ∷ 0x61 ∷ 0x79 ∷ []

-- RawArray's type of the elements of ours: 2 for unsigned numbers and characters, 1 for signed ones, 3 for floats
unfoldable pub raw_type : ℕ → ℕ
raw_type kind = get_or (0 ∷ 2 ∷ 2 ∷ 2 ∷ 2 ∷ 1 ∷ 1 ∷ 1 ∷ 1 ∷ 3 ∷ 3 ∷ 2 ∷ []) kind 0

-- magic, flags, type, the bytes of an element, those of the data, 2 dimensions: M before N, for the first is the fast one
unfoldable pub raw_head : Entry → List ℕ
raw_head e =
    raw_magic
    ++ le_bytes 8 0
    ++ le_bytes 8 (raw_type e.kind)
    ++ le_bytes 8 (size_of e.kind)
    ++ le_bytes 8 (chunk_size e)
    ++ le_bytes 8 2
    ++ le_bytes 8 e.m
    ++ le_bytes 8 e.n

-- the file of an entry, and its bytes
abbrev pub raw_file : List ℕ → Entry → List ℕ
raw_file img e = raw_head e ++ chunk_of img e

abbrev pub raw_length : Entry → ℕ
raw_length e = 64 + chunk_size e
