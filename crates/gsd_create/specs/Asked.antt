-- What is kept of a request that passes its tests.
use Rattle.std.specs.Prelude.{ℕ, ◌≡◌, List}
use Rattle.gsd_fresh.specs.declared.Request.{Request}

-- r has these texts, and so many slots and segments
pub record Asked (application schema : List ℕ) (schema_version slots segments : ℕ) (r : Request) : Type 0 where
  pub same_application : r.application.now ≡ application
  pub same_schema : r.schema.now ≡ schema
  pub same_version : r.schema_version ≡ schema_version
  pub same_slots : r.slots ≡ slots
  pub same_segments : r.segments ≡ segments
