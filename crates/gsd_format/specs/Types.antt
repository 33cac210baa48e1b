-- The types of elements, numbered as in gsd.h, and the size of a chunk.
use Rattle.std.specs.Prelude.{ℕ, ◌*◌, [], ◌∷◌, Bool, true, false, ◌&&◌, get_or, ltb, leb, eqb}
use Rattle.gsd_format.specs.declared.Entry.{Entry}
use Rattle.gsd_format.specs.Header.{version21}

-- the bytes of one element: u8, u16, u32, u64, i8, i16, i32, i64, float, double, character are types 1 to 11; 0 for any other
unfoldable pub size_of : ℕ → ℕ
size_of kind = get_or (0 ∷ 1 ∷ 2 ∷ 4 ∷ 8 ∷ 1 ∷ 2 ∷ 4 ∷ 8 ∷ 4 ∷ 8 ∷ 1 ∷ []) kind 0

-- the last type of a version: character came with 2.1
unfoldable pub last_type : ℕ → ℕ
last_type version = elim (eqb version version21) [ true ↦ 11 | false ↦ 10 ]

-- a type is known by the image's version
abbrev pub known : ℕ → ℕ → Bool
known version kind = ltb 0 kind && leb kind (last_type version)

-- a chunk has N times M times size bytes, in whole numbers without wrap; it may be empty
abbrev pub chunk_size : Entry → ℕ
chunk_size e = e.n * e.m * size_of e.kind
