-- `gsd_bytes::last_type` meets its contract: character for 2.1, double for any other version.
use Rattle.std.proofs.Common.{sym}
use Rattle.gsd_format.proofs.Types.{last-new, last-old}
use Rattle.gsd_bytes.proofs.last_type.Goals as goal

pub returns-then-version-eq-VERSION_2_1 : goal.returns-then-version-eq-VERSION_2_1
returns-then-version-eq-VERSION_2_1 c = sym (last-new _ c.if-version-eq-VERSION_2_1.true)

pub returns : goal.returns
returns c = sym (last-old _ c.if-version-eq-VERSION_2_1.false)
