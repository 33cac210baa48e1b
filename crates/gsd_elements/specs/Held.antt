-- The entry of a chunk whose elements can be read.
use Rattle.std.specs.Prelude.{ℕ, ◌+◌, ◌≤◌, ◌<◌, List, length}
use Rattle.gsd_format.specs.declared.Entry.{Entry}
use Rattle.gsd_format.specs.Types.{size_of, chunk_size}
use Rattle.gsd_format.specs.Header.{greatest_length}

-- an entry whose type has a size, and whose chunk lies in the image
pub record Held (img : List ℕ) (e : Entry) : Type 0 where
  pub sized : 0 < size_of e.kind
  pub within : e.location + chunk_size e ≤ length img
  pub short : length img ≤ greatest_length
