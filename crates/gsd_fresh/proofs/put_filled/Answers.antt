-- `gsd_fresh::put_filled` meets its contract: the text and the zeros in a row.
use native.Mathlib.Omega.{arith}
use Rattle.gsd_fresh.proofs.Fresh.{put-filled}
use Rattle.gsd_fresh.proofs.put_filled.Goals as goal

pub returns : goal.returns
returns c =
    let x = c.args in
    rw (c.fill_zero.ensures, c.put_text.ensures) (put-filled x.s.now x.at x.t.now (omega arith))
