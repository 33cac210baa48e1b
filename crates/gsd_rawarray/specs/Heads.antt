-- What code reads of a file's head: its dimensions, and all that its sheet needs.
use Rattle.std.specs.Prelude.{◌≡◌, ℕ, List, true}
use Rattle.gsd_rawarray.specs.declared.words.Dimensions.{Dimensions}
use Rattle.gsd_rawarray.specs.declared.refused.Head.{Head}
use Rattle.gsd_rawarray.specs.Said.{data_length, data_start, raw_n, raw_m, raw_kind}
use Rattle.gsd_rawarray.specs.Requests.{dimensioned, raw_test}

-- the file has its dimensions, and these are they
pub record Dimensioned (f : List ℕ) (d : Dimensions) : Type 0 where
  pub all : dimensioned f ≡ true
  pub rows : d.rows ≡ raw_n f
  pub columns : d.columns ≡ raw_m f
  pub start : d.start ≡ data_start f

-- the file can be read, and this is its head
pub record Said (f : List ℕ) (h : Head) : Type 0 where
  pub readable : raw_test f ≡ 0
  pub kind : h.kind ≡ raw_kind f
  pub rows : h.rows ≡ raw_n f
  pub columns : h.columns ≡ raw_m f
  pub start : h.start ≡ data_start f
  pub size : h.size ≡ data_length f
