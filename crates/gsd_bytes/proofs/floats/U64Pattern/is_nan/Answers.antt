-- But for the sign, a NaN's pattern is above infinity's.
use Rattle.std.proofs.Common.{sym}
use lib.Ieee.{binary64}
use lib.Ieee.Bits.{nan_bits_above}
use Rattle.gsd_format.specs.Elements.{nan_element}
use Rattle.gsd_bytes.proofs.floats.U64Pattern.is_nan.Goals as goal

pub returns : goal.returns
unfolding nan_element
returns c = sym (nan_bits_above binary64 c.args.self)
