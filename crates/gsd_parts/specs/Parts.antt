-- What is found lies in the image, and is handed out as that part of the image itself.
use Rattle.std.specs.Prelude.{ℕ, ◌+◌, ◌≤◌, ◌≡◌, List, length, Result, Ok, Err}
use Rattle.gsd_format.specs.declared.Part.{Part}

-- a place that is no refusal lies in the image
unfoldable pub Inside : List ℕ → Result Part ℕ → Type 0
Inside img (Ok p) = p.start + p.size ≤ length img
Inside img (Err n) = Unit

-- An image is lent at the pointer p and a part of it handed out at q: it is the part at that place itself, and not another
-- stretch with the same bytes. Where a refusal's empty part lies is free
unfoldable pub LiesAt : ℕ × ℕ → Result Part ℕ → ℕ × ℕ → Type 0
LiesAt p (Ok a) q = (q.0 ≡ p.0) × (q.1 ≡ p.1 + a.start)
LiesAt p (Err n) q = Unit
