-- What stands in a file that was written, in terms of the element call: each extreme is an element of its column that none there lies
-- beyond, the first of those that equal it, and the data are the elements.
use Rattle.std.specs.Prelude.{ℕ, ◌+◌, ◌*◌, ◌<◌, ◌≡◌, Bool, true, false, List, get_or, Float, Result, Ok, Err}
use Rattle.std.specs.Float.{nan}
use Rattle.gsd_format.specs.declared.Entry.{Entry}
use Rattle.gsd_format.specs.declared.element.Number.{Number}
use Rattle.gsd_format.specs.Types.{size_of}
use Rattle.gsd_format.specs.Lookup.{lookup}
use Rattle.gsd_format.specs.Elements.{element}
use Rattle.gsd_format.specs.Answers.{element_values}
use Rattle.gsd_columns.specs.Columns.{less, more}
use Rattle.gsd_xdr.specs.Xdr.{be}

-- the bits of an element, as the element call hands them out, and the float that they are
abbrev pub bits_in : Result Number ℕ → ℕ
bits_in x = get_or (element_values x) 1 0

unfoldable pub float_in : Result Number ℕ → Float
float_in (Ok (Number.Unsigned u)) = nan
float_in (Ok (Number.Signed z)) = nan
float_in (Ok (Number.Single x bits)) = x
float_in (Ok (Number.Double x bits)) = x
float_in (Err n) = nan

-- these bits are an extreme of the n elements of a column, x being the element of each row
pub record Extreme (before : Float → Float → Bool) (x : ℕ → Result Number ℕ) (n bits : ℕ) : Type 0 where
  pub row : ℕ
  pub within : row < n
  pub there : bits_in (x row) ≡ bits
  pub none : (i : ℕ) → i < n → before (float_in (x i)) (float_in (x row)) ≡ false
  pub first : (i : ℕ) → i < row → before (float_in (x row)) (float_in (x i)) ≡ true

-- the element in row i and column c of m, of the chunk of a frame and a name
abbrev pub cell : List ℕ → ℕ → List ℕ → ℕ → ℕ → ℕ → Result Number ℕ
cell img frame name m c i = element img frame name (i * m + c)

-- the number of so many bytes that stands in a file k such numbers behind its head
abbrev pub behind_head : ℕ → List ℕ → ℕ → ℕ
behind_head size file k = be size file (28 + k * size)

-- this is the file of the chunk of a frame and a name
pub record Stands (img : List ℕ) (frame : ℕ) (name file : List ℕ) : Type 0 where
  pub entry : Entry
  pub found : lookup img frame name ≡ Ok entry
  pub smallest : (c : ℕ) → c < entry.m →
      Extreme less (cell img frame name entry.m c) entry.n (behind_head (size_of entry.kind) file c)
  pub largest : (c : ℕ) → c < entry.m →
      Extreme more (cell img frame name entry.m c) entry.n (behind_head (size_of entry.kind) file (entry.m + c))
  pub elements : (k : ℕ) → k < entry.n * entry.m →
      bits_in (element img frame name k) ≡ behind_head (size_of entry.kind) file (entry.m + entry.m + k)
