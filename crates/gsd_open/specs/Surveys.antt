-- What the survey finds of an image that opens: all that a lookup or an append needs.
use Rattle.std.specs.Prelude.{◌≡◌, ℕ, List, length}
use Rattle.gsd_format.specs.declared.Layout.{Layout}
use Rattle.gsd_format.specs.Header.{layout_of}
use Rattle.gsd_format.specs.Entries.{entries_of, frames_of, chunks_end}
use Rattle.gsd_format.specs.Opening.{header_test, blocks_test, verdict}
use Rattle.gsd_names.specs.NameLists.{NamesFound}
use Rattle.gsd_open.specs.declared.survey.Survey.{Survey}

-- header and blocks are good, and l says where the blocks lie
pub record Laid (img : List ℕ) (l : Layout) : Type 0 where
  pub layout : l ≡ layout_of img
  pub header : header_test img ≡ 0
  pub blocks : blocks_test l ≡ 0

-- all that is found of an image that opens; of a refused one starts is free
pub record Surveyed (img starts : List ℕ) (r : Survey) : Type 0 where
  pub opens : verdict img ≡ 0
  pub layout : r.layout ≡ layout_of img
  pub names : NamesFound img (layout_of img) starts r.names
  pub entries : r.entries ≡ length (entries_of img)
  pub frames : r.frames ≡ frames_of (entries_of img)
  pub chunks : r.chunks_end ≡ chunks_end (entries_of img)
