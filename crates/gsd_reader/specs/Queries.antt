-- The queries by which a reader searches its entries.
use Rattle.std.specs.Prelude.{ℕ, ◌+◌, ◌<◌, ◌≡◌, List, true, false}
use Rattle.gsd_format.specs.declared.Reader.{Reader}
use Rattle.gsd_format.specs.Header.{v10}
use Rattle.gsd_format.specs.Readers.{fits}
use Rattle.gsd_search.specs.declared.probing.Query.{Query}

-- for the entry of a frame and an id
abbrev pub query_of : Reader → ℕ → ℕ → Query
query_of r frame id = record { index = r.index; count = r.entries; version = r.version; frame = frame; id = id }

-- the reader fits the image, and has the frame and the id
pub record Asked (r : Reader) (img : List ℕ) (frame id : ℕ) : Type 0 where
  pub fitting : fits r img ≡ true
  pub of_frame : frame < r.frames
  pub of_id : id < r.names

-- for the place behind all that could be it
unfoldable pub behind_of : Query → Query
behind_of q = elim (v10 q.version) [
  | true ↦ record { index = q.index; count = q.count; version = q.version; frame = q.frame + 1; id = 0 }
  | false ↦ record { index = q.index; count = q.count; version = q.version; frame = q.frame; id = q.id + 1 }
]
