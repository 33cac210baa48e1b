-- The kind of number by the type.
use Prim.Native.Nat.{ℕ, ◌<◌}
use mathlib.Core.Path.{◌≡◌, sym, ◌∙◌, ap}
use native.Mathlib.Decide.{dec_lt}
use native.Mathlib.Omega.{arith}
use mir.Syntax.{w8, w16, w32, w64}
use mir.Facts.{to_z-of_z}
use borrow.Author.Rules.{rules}
use Rattle.gsd_format.specs.declared.element.Number.{Number}
use Rattle.gsd_format.specs.Types.{size_of}
use Rattle.gsd_format.specs.Elements.{element_of}
use Rattle.gsd_format.proofs.Elements.{element-unsigned, element-single, element-double, element-character}
use Rattle.gsd_elements.proofs.Signed.{int8-cast, int16-cast, int32-cast, int64-cast}
use Rattle.gsd_elements.proofs.element_of.Goals as goal

pub overflow_cast-bits : goal.overflow_cast-bits
unfolding size_of
overflow_cast-bits c = record { fits = rw c.in-5.is at c.requires.bits }

pub overflow_cast-bits-in-6 : goal.overflow_cast-bits-in-6
unfolding size_of
overflow_cast-bits-in-6 c = record { fits = rw c.in-6.is at c.requires.bits }

pub overflow_cast-bits-in-7 : goal.overflow_cast-bits-in-7
unfolding size_of
overflow_cast-bits-in-7 c = record { fits = rw c.in-7.is at c.requires.bits }

pub overflow_cast-pattern : goal.overflow_cast-pattern
unfolding size_of
overflow_cast-pattern c = record { fits = rw c.in-9.is at c.requires.bits }

pub returns-in-5 : goal.returns-in-5
returns-in-5 c =
    let number = to_z-of_z {w = w64} {z = c.from.result} (search rules) ∙ c.from.ensures ∙ to_z-of_z {w = w8} {z = c.cast_signed.result} (search rules) ∙ c.cast_signed.ensures in
    record { answer = ap Number.Signed number ∙ int8-cast _ _ c.in-5.is c.requires.bits }

pub returns-in-6 : goal.returns-in-6
returns-in-6 c =
    let number = to_z-of_z {w = w64} {z = c.from-in-6.result} (search rules) ∙ c.from-in-6.ensures ∙ to_z-of_z {w = w16} {z = c.cast_signed-in-6.result} (search rules) ∙ c.cast_signed-in-6.ensures in
    record { answer = ap Number.Signed number ∙ int16-cast _ _ c.in-6.is c.requires.bits }

pub returns-in-7 : goal.returns-in-7
returns-in-7 c =
    let number = to_z-of_z {w = w64} {z = c.from-in-7.result} (search rules) ∙ c.from-in-7.ensures ∙ to_z-of_z {w = w32} {z = c.cast_signed-in-7.result} (search rules) ∙ c.cast_signed-in-7.ensures in
    record { answer = ap Number.Signed number ∙ int32-cast _ _ c.in-7.is c.requires.bits }

pub returns-in-8 : goal.returns-in-8
returns-in-8 c =
    let number = to_z-of_z {w = w64} {z = c.cast_signed-in-8.result} (search rules) ∙ c.cast_signed-in-8.ensures in
    record { answer = ap Number.Signed number ∙ int64-cast _ _ c.in-8.is c.requires.bits }

pub returns-in-9 : goal.returns-in-9
returns-in-9 c =
    let bits = c.args.bits in
    record { answer = rw c.in-9.is (ap (λ v. Number.Single v bits) c.f32_from_bits_with_nan-value.ensures ∙ sym (element-single bits)) }

pub returns-in-10 : goal.returns-in-10
returns-in-10 c =
    let bits = c.args.bits in
    record { answer = rw c.in-10.is (ap (λ v. Number.Double v bits) c.f64_from_bits_with_nan-value.ensures ∙ sym (element-double bits)) }

element-plain : (kind bits : ℕ) → (4 < kind → kind ≡ 11) → Number.Unsigned bits ≡ element_of kind bits
element-plain kind bits only = go (dec_lt 4 kind)
  where
    go : Dec (4 < kind) → Number.Unsigned bits ≡ element_of kind bits
    go (yes h) = rw (only h) (sym (element-character bits))
    go (no h) = sym (element-unsigned kind bits (omega arith))

pub returns-in_default : goal.returns-in_default
returns-in_default c = record { answer = element-plain _ _ (λ l. omega arith) }
