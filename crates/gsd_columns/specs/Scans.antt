-- What the parts of a scan promise each other: the extremes of some values, with those of later ones, and of rows of three.
use Rattle.std.specs.Prelude.{ℕ, ◌+◌, ◌*◌, ◌≡◌, List, not, T, Float}
use Rattle.std.specs.Float.Ieee.{of_bits, is_nan}
use Rattle.gsd_format.specs.Bytes.{le}
use Rattle.gsd_format.specs.Types.{size_of}
use Rattle.gsd_columns.specs.Columns.{format_of, less, more, kept, extreme}
use Rattle.gsd_columns.specs.declared.scan.Three.{Three}

-- a and b are the smallest and the largest of the first n values
pub record Extremes (x : ℕ → Float) (n : ℕ) (a b : Float) : Type 0 where
  pub smallest : a ≡ extreme less x n
  pub largest : b ≡ extreme more x n

-- neither is a NaN, so both have patterns of their own
pub record Patterned (a b : Float) : Type 0 where
  pub smallest : T (not (is_nan a))
  pub largest : T (not (is_nan b))

-- a' and b' are those of values with the extremes a and b and of later ones with c and d
pub record Joined (a b c d a' b' : Float) : Type 0 where
  pub smallest : a' ≡ kept less a c
  pub largest : b' ≡ kept more b d

-- the k-th of the values that stand in s from a place on
abbrev pub nth : ℕ → List ℕ → ℕ → ℕ → Float
nth kind s at k = of_bits (format_of kind) (le (size_of kind) s (at + k * size_of kind))

-- t are the extremes of the first n rows of three columns, by the values of its floats
pub record Rows {F : Type 0} (value : F → Float) (columns : ℕ → ℕ → Float) (n : ℕ) (t : Three F) : Type 0 where
  pub x : Extremes (columns 0) n (value t.x.smallest) (value t.x.largest)
  pub y : Extremes (columns 1) n (value t.y.smallest) (value t.y.largest)
  pub z : Extremes (columns 2) n (value t.z.smallest) (value t.z.largest)

-- none of these is a NaN
pub record RowsPatterned {F : Type 0} (value : F → Float) (t : Three F) : Type 0 where
  pub x : Patterned (value t.x.smallest) (value t.x.largest)
  pub y : Patterned (value t.y.smallest) (value t.y.largest)
  pub z : Patterned (value t.z.smallest) (value t.z.largest)

-- t' are those of rows with the extremes t and of later ones with u
pub record RowsJoined {F : Type 0} (value : F → Float) (t u t' : Three F) : Type 0 where
  pub x : Joined (value t.x.smallest) (value t.x.largest) (value u.x.smallest) (value u.x.largest) (value t'.x.smallest) (value t'.x.largest)
  pub y : Joined (value t.y.smallest) (value t.y.largest) (value u.y.smallest) (value u.y.largest) (value t'.y.smallest) (value t'.y.largest)
  pub z : Joined (value t.z.smallest) (value t.z.largest) (value u.z.smallest) (value u.z.largest) (value t'.z.smallest) (value t'.z.largest)
