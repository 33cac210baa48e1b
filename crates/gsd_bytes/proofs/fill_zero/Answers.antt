-- `gsd_bytes::fill_zero` meets its contract: the zeros stand between what was before and behind.
use Rattle.std.proofs.Common.{◌≡◌, ◌-◌, length, arith, sym, ◌∙◌, ap}
use lib.ListN.{length-replicate}
use Rattle.gsd_format.specs.Bytes.{part, zeros}
use Rattle.gsd_format.proofs.Bytes.{part_length}
use Rattle.gsd_bytes.proofs.Methods.{stored-mid}
use Rattle.gsd_bytes.proofs.fill_zero.Goals as goal

pub returns : goal.returns
returns c =
    let x = c.args in
    let n = x.to - x.«from» in
    let long : length (part x.s.now x.«from» n) ≡ n = part_length x.s.now x.«from» n (omega arith) in
    stored-mid _ (zeros n) _ _ _ (c.fill.ensures.after (λ y e. e) ∙ ap zeros long) (sym (length-replicate n 0)) (simp length-replicate (omega arith))
