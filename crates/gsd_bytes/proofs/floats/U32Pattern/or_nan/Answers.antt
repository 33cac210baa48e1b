-- The sum has another sign where the pattern is a NaN's, and a sign joined stays.
use Rattle.std.proofs.Common.{◌%◌, ◌^◌, ◌-◌, ◌||◌, nat_lt, sym, ap, ◌∙◌, arith}
use lib.Ieee.{binary32}
use lib.Ieee.Bits.{nan_bits_above}
use Rattle.gsd_format.specs.Elements.{nan_element}
use Rattle.gsd_bytes.proofs.Signs.{or-high, signs-differ}
use Rattle.gsd_bytes.proofs.floats.U32Pattern.or_nan.Goals as goal

pub returns : goal.returns
unfolding nan_element
returns c =
    let next = c.args.next in
    or-high 31 c.args.self _
    ∙ ap (λ t. nat_lt (2 ^ 31 - 1) c.args.self || t)
    (signs-differ 31 c.wrapping_add_u32.result next 0x7f800000 (next % 2 ^ 31) (omega arith) (omega arith) (λ l e. omega arith) (λ l. omega arith)
    ∙ sym (nan_bits_above binary32 next))
