-- Each value is one of the four, and two and two are joined.
use Rattle.std.proofs.Common.{◌+◌, ◌*◌, ap, ◌∙◌, arith}
use native.Mathlib.Nat.{mul-le-mul_right}
use Rattle.gsd_columns.specs.Scans.{nth}
use Rattle.gsd_columns.proofs.Extremes.{extremes-one, extremes-four}
use Rattle.gsd_columns.proofs.Columns.{nth-number}
use Rattle.gsd_columns.proofs.scan.Values.four.Goals as goal

pub returns : goal.returns
returns g c =
    let kind = g.F.Bits.Pattern.kind in
    let v = c.args.self.now in
    let at = nth kind v.s.now v.at in
    let step = c.args.step in
    extremes-four (λ j. at (c.args.k + j * step)) _ _ _ _ _ _ _ _ _ _ _ _ _ _
    (λ j l. nth-number kind g.met.F.Real.said v.s.now v.at v.n v.numbers (c.args.k + j * step) (omega (arith, mul-le-mul_right {m = j} {n = 3} step (omega arith))))
    (extremes-one _ _ _ _ (c.value.ensures ∙ ap at (omega arith)) c.of-a.ensures.smallest c.of-a.ensures.largest)
    (extremes-one _ _ _ _ (c.value-2.ensures ∙ ap at (omega arith)) c.of-b.ensures.smallest c.of-b.ensures.largest)
    (extremes-one _ _ _ _ (c.value-3.ensures ∙ ap at (omega arith)) c.of-c.ensures.smallest c.of-c.ensures.largest)
    (extremes-one _ _ _ _ (c.value-4.ensures ∙ ap at (omega arith)) c.of-d.ensures.smallest c.of-d.ensures.largest)
    c.joined.ensures c.joined-2.ensures c.joined-3.ensures
