-- The header up to its texts: magic, places and counts of the two blocks, versions.
use Rattle.std.specs.Prelude.{ℕ, List, ◌++◌}
use Rattle.gsd_format.specs.Bytes.{le_bytes}
use Rattle.gsd_format.specs.Header.{magic, version21, header_size}
use Rattle.gsd_format.specs.Create.{fresh_namelist}

abbrev pub numbers : ℕ → ℕ → ℕ → List ℕ
numbers schema_version slots segments =
    magic
    ++ le_bytes 8 header_size ++ le_bytes 8 slots
    ++ le_bytes 8 (fresh_namelist slots) ++ le_bytes 8 segments
    ++ le_bytes 4 schema_version ++ le_bytes 4 version21
