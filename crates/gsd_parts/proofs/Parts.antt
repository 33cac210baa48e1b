-- Laws of parts: the bytes at a place that lies in the image, a refusal's, and where they lie in memory.
use Rattle.std.specs.Prelude.{Result, Ok, Err}
use Prim.Native.Nat.{ℕ, ◌+◌, ◌-◌, ◌≤◌}
use mathlib.Core.Path.{◌≡◌, ◌∙◌, ap}
use mathlib.Core.List.{List, []}
use native.Mathlib.Omega.{arith}
use lib.ListN.{length}
use Rattle.gsd_format.specs.declared.Part.{Part}
use Rattle.gsd_format.specs.Bytes.{part}
use Rattle.gsd_format.specs.Lookup.{bytes_at}
use Rattle.gsd_parts.specs.Parts.{Inside, LiesAt}

module _ (img : List ℕ) (place : Result Part ℕ) where
  pub inside-at : (p : Part) → place ≡ Ok p → Inside img place → p.start + p.size ≤ length img
  unfolding Inside
  inside-at p e h = rw e at h

  pub bytes-at : (p : Part) → place ≡ Ok p → bytes_at img place ≡ part img p.start (p.start + p.size - p.start)
  unfolding bytes_at
  bytes-at p e = ap (bytes_at img) e ∙ ap (part img p.start) (let q : p.size ≡ p.start + p.size - p.start = omega arith in q)

  pub bytes-none : (n : ℕ) → place ≡ Err n → bytes_at img place ≡ []
  unfolding bytes_at
  bytes-none n e = ap (bytes_at img) e

-- the pointer of a part that starts at a place
pub lies_at : (place : Result Part ℕ) (p : Part) (from to : ℕ × ℕ) → place ≡ Ok p → (to.0 ≡ from.0) × (to.1 ≡ from.1 + p.start) → LiesAt from place to
unfolding LiesAt
lies_at place p from to e h = rw e h

pub lies-anywhere : (place : Result Part ℕ) (n : ℕ) (p q : ℕ × ℕ) → place ≡ Err n → LiesAt p place q
unfolding LiesAt
lies-anywhere place n p q e = rw e tt
