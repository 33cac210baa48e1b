-- `gsd_listing::Page::put` meets its contract: what is stored at the end stands behind what was there.
use Prim.Native.Nat.{◌+◌}
use mathlib.Core.Path.{refl}
use native.Mathlib.Omega.{arith}
use lib.ListN.{length}
use Rattle.gsd_format.proofs.Bytes.{stored-front}
use Rattle.gsd_listing.proofs.Page.put.Goals as goal

pub returns-clause-text : goal.returns-clause-text
returns-clause-text c =
    let x = c.args in
    stored-front x.self.now.out.now x.self.now.end x.text.now c.put_text.new.s (x.self.now.end + length x.text.now) c.put_text.ensures refl (omega (arith, c.requires))
