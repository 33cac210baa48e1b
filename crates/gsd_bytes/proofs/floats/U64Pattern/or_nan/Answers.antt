-- The sum has another sign where the pattern is a NaN's, and a sign joined stays.
use Rattle.std.proofs.Common.{◌%◌, ◌^◌, ◌-◌, ◌||◌, nat_lt, sym, ap, ◌∙◌, arith}
use lib.Ieee.{binary64}
use lib.Ieee.Bits.{nan_bits_above}
use Rattle.gsd_format.specs.Elements.{nan_element}
use Rattle.gsd_bytes.proofs.Signs.{or-high, signs-differ}
use Rattle.gsd_bytes.proofs.floats.U64Pattern.or_nan.Goals as goal

pub returns : goal.returns
unfolding nan_element
returns c =
    let next = c.args.next in
    or-high 63 c.args.self _
    ∙ ap (λ t. nat_lt (2 ^ 63 - 1) c.args.self || t)
    (signs-differ 63 c.wrapping_add_u64.result next 0x7ff0000000000000 (next % 2 ^ 63) (omega arith) (omega arith) (λ l e. omega arith) (λ l. omega arith)
    ∙ sym (nan_bits_above binary64 next))
