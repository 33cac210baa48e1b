-- `gsd_bytes::floats::any_nan` meets its contract: a sign is set among the elements passed where one of them is a NaN.
use Rattle.std.proofs.Common.{◌+◌, ◌*◌, refl, ap, ◌∙◌}
use Rattle.gsd_format.specs.Bytes.{le}
use Rattle.gsd_format.specs.Elements.{any_nan}
use Rattle.gsd_format.proofs.Elements.{nan-more}
use Rattle.gsd_bytes.proofs.floats.any_nan.Goals as goal

pub loop-i-init : goal.loop-i-init
unfolding any_nan
loop-i-init g c = c.zero-met.ensures

pub loop-i-preserved : goal.loop-i-preserved
loop-i-preserved g c =
    let p = g.P.Pattern in
    c.or_nan-met.ensures
    ∙ nan-more p.kind p.SIZE g.met.P.Pattern.sized _ _ _ _ _ _ c.loop-i.invariant
    (c.at.ensures ∙ ap (λ size. le p.SIZE c.args.s.now (c.args.at + c.loop-i.i * size)) c.SIZE.ensures) refl
