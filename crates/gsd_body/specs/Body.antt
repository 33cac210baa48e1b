-- The body of an NChilada file: the smallest values of all columns, the largest, the data, each number big-endian.
use Rattle.std.specs.Prelude.{ℕ, ◌*◌, List, ◌++◌, Bool, ◌||◌, eqb, Float}
use Rattle.std.specs.Float.Ieee.{to_bits}
use Rattle.gsd_format.specs.Types.{size_of}
use Rattle.gsd_columns.specs.Columns.{format_of, column, less, more, extreme}
use Rattle.gsd_xdr.specs.Xdr.{be_row, numbers}

-- a file has one column or three
abbrev pub one_or_three : ℕ → Bool
one_or_three m = eqb m 1 || eqb m 3

-- of the m columns of n values that stand in the image from a place on: the bits of an extreme of column c
abbrev pub extreme_bits : (Float → Float → Bool) → ℕ → List ℕ → ℕ → ℕ → ℕ → ℕ → ℕ
extreme_bits before kind img at m n c = to_bits (format_of kind) (extreme before (column kind img at m c) n)

-- the smallest values of all columns, the largest, the data
unfoldable pub body_of : ℕ → List ℕ → ℕ → ℕ → ℕ → List ℕ
body_of kind img at m n =
    be_row (size_of kind) (extreme_bits less kind img at m n) m
    ++ be_row (size_of kind) (extreme_bits more kind img at m n) m
    ++ be_row (size_of kind) (numbers (size_of kind) img at) (n * m)
