-- `gsd_bytes::same_part` meets its contract: the parts are compared byte by byte.
use Rattle.std.proofs.Common.{◌≡◌, ◌+◌, ◌-◌, ◌∙◌, arith}
use Rattle.gsd_format.specs.Bytes.{part}
use Rattle.gsd_bytes.proofs.Methods.{same-pointwise}
use Rattle.gsd_bytes.proofs.same_part.Goals as goal

pub returns : goal.returns
returns c =
    let x = c.args in
    let first : x.ai + x.n - x.ai ≡ x.n = omega arith in
    let second : x.bi + x.n - x.bi ≡ x.n = omega arith in
    rw (first, second) at (c.eq.ensures ∙ same-pointwise (part x.a.now x.ai (x.ai + x.n - x.ai)) (part x.b.now x.bi (x.bi + x.n - x.bi)))
