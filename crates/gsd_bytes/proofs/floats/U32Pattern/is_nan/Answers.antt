-- But for the sign, a NaN's pattern is above infinity's.
use Rattle.std.proofs.Common.{sym}
use lib.Ieee.{binary32}
use lib.Ieee.Bits.{nan_bits_above}
use Rattle.gsd_format.specs.Elements.{nan_element}
use Rattle.gsd_bytes.proofs.floats.U32Pattern.is_nan.Goals as goal

pub returns : goal.returns
unfolding nan_element
returns c = sym (nan_bits_above binary32 c.args.self)
