-- Extents that make a list of stores, from every image of a kind, joined one behind the other.
use Prim.Native.Nat.{ℕ}
use mathlib.Core.Path.{◌≡◌, refl, sym, ◌∙◌, ap}
use mathlib.Core.List.{List, [], ◌++◌}
use lib.ListN.{length, take}
use lib.Seq.{take-length}
use Rattle.gsd_stores.specs.Stores.{Store, after}
use Rattle.gsd_stores.proofs.Stores.{after-append}
use Rattle.gsd_extents.specs.declared.extent.Extent.{Extent}
use Rattle.gsd_extents.specs.Exec.{Task, tasks, exec, stores_of}
use Rattle.gsd_extents.proofs.Tasks.{tasks-append, stores_of-append, stores_of-length, exec-after}

pub exec-all : (sheet img : List ℕ) (ts : List Task) → exec sheet img ts ≡ after img (stores_of sheet img ts)
exec-all sheet img ts =
    let xs : List Store = stores_of sheet img ts in
    let all : take (length ts) xs ≡ xs = ap (λ n. take n xs) (sym (stores_of-length sheet img ts)) ∙ take-length xs in
    ap (exec sheet img) (sym (take-length ts)) ∙ exec-after sheet img ts (length ts) ∙ ap (after img) all

-- from every image with P the extents make these stores, and then it has Q
pub record Makes (sheet : List ℕ) (P Q : List ℕ → Type 0) (es : List Extent) (xs : List Store) : Type 0 where
  pub same : (img : List ℕ) → P img → stores_of sheet img (tasks es) ≡ xs
  pub final : (img : List ℕ) → P img → Q (after img xs)

abbrev pub AnyImage : List ℕ → Type 0
AnyImage img = Unit

-- of a phase's stores only what they lead to is wanted here
abbrev pub AnyStore : List ℕ → List ℕ → Type 0
AnyStore a b = Unit

-- from every image; and so from those with P, where it is known what the stores lead to
abbrev pub Always : List ℕ → List Extent → List Store → Type 0
Always sheet es xs = Makes sheet AnyImage AnyImage es xs

pub makes-from : {sheet : List ℕ} {P Q : List ℕ → Type 0} {es : List Extent} {xs : List Store} → Always sheet es xs →
    ((img : List ℕ) → P img → Q (after img xs)) → Makes sheet P Q es xs
makes-from f q = record { same = λ img p. f.same img tt; final = q }

infixl 20 ◌⨾◌
pub ◌⨾◌ : {sheet : List ℕ} {P Q R : List ℕ → Type 0} {a b : List Extent} {xs ys : List Store} →
    Makes sheet P Q a xs → Makes sheet Q R b ys → Makes sheet P R (a ++ b) (xs ++ ys)
◌⨾◌ {sheet} {a} {b} {xs} {ys} f g = record {
  same = λ img p.
      let first : stores_of sheet img (tasks a) ≡ xs = f.same img p in
      let left : exec sheet img (tasks a) ≡ after img xs = exec-all sheet img (tasks a) ∙ ap (after img) first in
      let second : stores_of sheet (exec sheet img (tasks a)) (tasks b) ≡ ys = rw left (g.same (after img xs) (f.final img p)) in
      ap (stores_of sheet img) (tasks-append a b) ∙ stores_of-append sheet img (tasks a) (tasks b) ∙ (λ i. first i ++ second i);
  final = λ img p. rw after-append (g.final (after img xs) (f.final img p));
}

-- no extents
pub makes_none : {sheet : List ℕ} {P : List ℕ → Type 0} → Makes sheet P P [] []
unfolding tasks stores_of after
makes_none = record { same = λ img p. refl; final = λ img p. p }
