-- A refusal leaves the out array as it was: its number is not 0. And what that number is.
use Rattle.std.specs.Prelude.{Result, Ok, Err}
use Prim.Native.Nat.{ℕ, zero, suc}
use mathlib.Core.Path.{◌≡◌, refl}
use mathlib.Core.List.{List}
use Rattle.gsd_format.specs.declared.refusal.Refusal.{Refusal}
use Rattle.gsd_format.specs.Answers.{number_of, numbered, refused}
use Rattle.gsd_out.specs.Out.{answered}

pub left : (n : ℕ) (values before : List ℕ) → (n ≡ 0 → ⊥) → before ≡ answered n values before
unfolding answered
left zero values before h = absurd (h refl)
left (suc n) values before h = refl

-- the number of an answer, whether of the code's or with the number in the refusal's place
pub told : {A : Type 0} (r : Result A Refusal) → refused r ≡ number_of (numbered r)
told (Ok x) = refl
told (Err r) = refl
