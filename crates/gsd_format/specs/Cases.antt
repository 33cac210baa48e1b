-- Worked cases: each a list of numbers that the definitions compute, and what it must be.
use Rattle.std.specs.Prelude.{ℕ, List, [], ◌∷◌, Bool, true, ◌&&◌}
use Prim.Native.String.{String}
use Rattle.gsd_format.specs.Bytes.{same}

pub record Case : Type 0 where
  pub says : String
  pub got : List ℕ
  pub expected : List ℕ

unfoldable pub passes : List Case → Bool
passes [] = true
passes (c ∷ cs) = same c.got c.expected && passes cs
