-- The first zero byte of a stretch, and a stretch without one.
use Rattle.std.specs.Prelude.{◌≡◌, ℕ, ◌<◌, ◌≤◌, List, ◌≢◌, slice_index}

-- r is the place of the first zero among the bytes of s from `from` up to `to`, or `to` where there is none
pub record FirstZero (s : List ℕ) (from to r : ℕ) : Type 0 where
  pub above : from ≤ r
  pub within : r ≤ to
  pub before : (k : ℕ) → from ≤ k → k < r → slice_index s k ≢ 0
  pub here : r < to → slice_index s r ≡ 0

-- r lies within the stretch, and no byte of it before r is zero
pub record Clear (s : List ℕ) (from to r : ℕ) : Type 0 where
  pub above : from ≤ r
  pub within : r ≤ to
  pub before : (k : ℕ) → from ≤ k → k < r → slice_index s k ≢ 0
