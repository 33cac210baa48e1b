-- `gsd_text::Line::put` meets its contract: what is stored at the line's end stands behind the line.
use Prim.Native.Nat.{◌+◌}
use mathlib.Core.Path.{refl}
use native.Mathlib.Omega.{arith}
use lib.ListN.{length}
use Rattle.gsd_format.proofs.Bytes.{stored-front}
use Rattle.gsd_text.proofs.Line.put.Goals as goal

pub returns-clause-text : goal.returns-clause-text
returns-clause-text c =
    let x = c.args in
    stored-front x.self.now.bytes x.self.now.size x.text.now c.put_text.new.s (x.self.now.size + length x.text.now) c.put_text.ensures refl (omega arith)
