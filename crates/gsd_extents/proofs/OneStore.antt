-- A call of `extent::next_store` by the contract that is made of that function: the one word that it changes, and its eight bytes.
-- A weaker `ensures` there is refused here.
use Prim.Native.Nat.{ℕ}
use mathlib.Core.Path.{◌≡◌, sym, ◌∙◌}
use mathlib.Core.List.{List}
use contract.Lifetimes.{Lfts}
use denote.Triple.Clauses.{AtExit}
use borrow.Fn.World.{ArgsD, ResD}
use borrow.Fn.Kinds.{ended_of}
use Rattle.gsd_extents.specs.declared.extent.Extent.{Extent}
use Rattle.gsd_extents.specs.Exec.{applied}
use Rattle.gsd_extents.specs.contracts.extent.next_store.{signature}
use Rattle.gsd_extents.proofs.extent.next_store.Kinds.{ps, r as answer}
use Rattle.gsd_extents.proofs.extent.next_store.Reads.{Learnt}

-- of word w of the extent x, on the image img; it left img'
pub record OneStore (img sheet : List ℕ) (x : Extent) (w : ℕ) (img' : List ℕ) : Type 0 where
  pub lifetimes : Lfts 2
  pub args : ArgsD signature lifetimes
  pub result : ResD signature lifetimes
  pub exit : AtExit (ended_of 2 ps answer) lifetimes
  pub on_image : args.0.now ≡ img
  pub on_sheet : args.1.0.now ≡ sheet
  pub of_extent : args.1.1.0 ≡ x
  pub at_word : args.1.1.1.0 ≡ w
  pub left : exit.0.now ≡ img'
  pub ensured : Learnt lifetimes args result exit

pub one_store : {img sheet : List ℕ} {x : Extent} {w : ℕ} {img' : List ℕ} → OneStore img sheet x w img' → img' ≡ applied sheet img x w
one_store c = sym c.left ∙ c.ensured ∙ (λ i. applied (c.on_sheet i) (c.on_image i) (c.of_extent i) (c.at_word i))
