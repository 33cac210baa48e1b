-- Laws of the elements of a chunk: their bits by the size of their type, and their places.
use Rattle.std.specs.Prelude.{Ok}
use Prim.Native.Nat.{ℕ, ◌+◌, ◌*◌, ◌^◌, ◌≤◌, ◌<◌}
use mathlib.Core.Path.{◌≡◌, sym, ◌∙◌, ap}
use mathlib.Core.List.{List}
use native.Mathlib.Nat.{mul-le-mul_right, le-mul_of_pos_right}
use native.Mathlib.Omega.{arith}
use lib.ListN.{length, get_or}
use Rattle.gsd_format.specs.declared.Entry.{Entry}
use Rattle.gsd_format.specs.Bytes.{le}
use Rattle.gsd_format.specs.Header.{greatest_length}
use Rattle.gsd_format.specs.Types.{size_of}
use Rattle.gsd_format.specs.Elements.{element_of, element_in}
use Rattle.gsd_format.proofs.Elements.{element-at}
use Rattle.gsd_elements.specs.Held.{Held}

-- a number of k bytes, where the type has k
pub bits_are : (img : List ℕ) (at kind k r : ℕ) → size_of kind ≡ k → r ≡ le k img at → r < 256 ^ k → (r ≡ le (size_of kind) img at) × (r < 256 ^ size_of kind)
bits_are img at kind k r e h b = rw e (h, b)

pub one_byte : (img : List ℕ) (at : ℕ) → get_or img at 0 ≡ le 1 img at
unfolding le
one_byte img at = omega arith

module _ (img : List ℕ) (e : Entry) (held : Held img e) where
  pub few-elements : e.n * e.m ≤ greatest_length
  few-elements = omega (arith, le-mul_of_pos_right (e.n * e.m) held.sized, held.within, held.short)

  pub element-within : (k size : ℕ) → k < e.n * e.m → size ≡ size_of e.kind → e.location + k * size + size ≤ length img
  element-within k size h q = rw q (omega (arith, mul-le-mul_right (size_of e.kind) h, held.within))

  pub element-here : (k size bits : ℕ) → k < e.n * e.m → size ≡ size_of e.kind → bits ≡ le (size_of e.kind) img (e.location + k * size) →
      Ok (element_of e.kind bits) ≡ element_in img e k
  element-here k size bits h q b =
      ap (λ v. Ok (element_of e.kind v)) (b ∙ ap (λ s. le (size_of e.kind) img (e.location + k * s)) q) ∙ sym (element-at img e k h)
