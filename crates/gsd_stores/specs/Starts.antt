-- Where chunks and blocks start: all that the appends of a run lay out starts at multiples of 64. A claim about any moment of any
-- run; proved in proofs/.
use Rattle.std.specs.Prelude.{ℕ, ◌%◌, ◌≤◌, ◌≡◌, ◌⊎◌, List, Ok}
use Rattle.gsd_format.specs.declared.Entry.{Entry}
use Rattle.gsd_format.specs.Header.{alignment, layout_of}
use Rattle.gsd_format.specs.Lookup.{lookup}
use Rattle.gsd_stores.specs.Runs.{frames}

-- from this frame on each chunk that is found starts at an aligned place, an empty one too
abbrev pub Aligned : List ℕ → ℕ → Type 0
Aligned img first = (frame : ℕ) (name : List ℕ) (e : Entry) → first ≤ frame → lookup img frame name ≡ Ok e → e.location % alignment ≡ 0

-- a block stays where it was, or has moved to an aligned place
abbrev pub StaysOrStarts : ℕ → ℕ → Type 0
StaysOrStarts old new = (new ≡ old) ⊎ (new % alignment ≡ 0)

-- of the image at a moment of a run from x: the chunks of the frames that the run made, and both blocks
pub record Starts (x img : List ℕ) : Type 0 where
  pub chunks : Aligned img (frames x)
  pub index : StaysOrStarts (layout_of x).index (layout_of img).index
  pub namelist : StaysOrStarts (layout_of x).namelist (layout_of img).namelist

-- where the run starts from a created image: every chunk, and both blocks
pub record AllStart (img : List ℕ) : Type 0 where
  pub chunks : Aligned img 0
  pub index : (layout_of img).index % alignment ≡ 0
  pub namelist : (layout_of img).namelist % alignment ≡ 0
