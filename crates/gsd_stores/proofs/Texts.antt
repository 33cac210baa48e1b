-- Texts one behind the other, each at the next aligned place: what stands between two of them is not theirs.
use Prim.Native.Nat.{ℕ, ◌+◌, ◌-◌, ◌≤◌, ◌<◌}
use mathlib.Core.Path.{◌≡◌, ◌∙◌}
use mathlib.Core.List.{List, [], ◌∷◌}
use native.Mathlib.Omega.{arith}
use lib.ListN.{length, get_or}
use Rattle.gsd_format.specs.Header.{aligned}
use Rattle.gsd_format.proofs.Bytes.{Text}
use Rattle.gsd_stores.specs.Plan.{end_from}

-- they stand so from pos on
unfoldable pub Stand : List ℕ → ℕ → List (List ℕ) → Type 0
Stand x pos [] = Unit {0}
Stand x pos (b ∷ bs) = Text x (aligned pos) b × Stand x (aligned pos + length b) bs

pub stand-none : (x : List ℕ) (pos : ℕ) → Stand x pos []
unfolding Stand
stand-none x pos = tt

-- how many bytes they take there, with those between
abbrev pub size : ℕ → List (List ℕ) → ℕ
size pos bs = end_from pos bs - pos

pub end_more : (bs : List (List ℕ)) (pos : ℕ) → pos ≤ end_from pos bs
unfolding end_from
end_more [] pos = omega arith
end_more (b ∷ bs) pos = omega (arith, end_more bs (aligned pos + length b))

pub stand-same : (bs : List (List ℕ)) (pos : ℕ) (x y : List ℕ) →
    ((p : ℕ) → pos ≤ p → p < end_from pos bs → get_or y p 0 ≡ get_or x p 0) → Stand x pos bs → Stand y pos bs
unfolding Stand end_from
stand-same [] pos x y f s = tt
stand-same (b ∷ bs) pos x y f s = (
  λ k l. f (aligned pos + k) (omega arith) (omega (arith, end_more bs (aligned pos + length b))) ∙ s.0 k l,
  stand-same bs (aligned pos + length b) x y (λ p l m. f p (omega arith) m) s.1,
)
