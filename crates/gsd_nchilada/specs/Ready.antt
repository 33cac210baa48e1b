-- An entry whose file can be written.
use Rattle.std.specs.Prelude.{ℕ, ◌*◌, ◌<◌, ◌≡◌, List, true, false}
use Rattle.gsd_format.specs.declared.Entry.{Entry}
use Rattle.gsd_format.specs.Elements.{any_nan}
use Rattle.gsd_elements.specs.Held.{Held}
use Rattle.gsd_body.specs.Body.{one_or_three}
use Rattle.gsd_nchilada.specs.File.{file_length}
use Rattle.gsd_nchilada.specs.Request.{floating}

-- it passed 60 to 62 and 64
pub record Ready (img : List ℕ) (e : Entry) (room : ℕ) : Type 0 where
  pub held : Held img e
  pub typed : floating e.kind ≡ true
  pub columns : one_or_three e.m ≡ true
  pub some : 0 < e.n
  pub numbers : any_nan e.kind img e.location (e.n * e.m) ≡ false
  pub long : room ≡ file_length e
