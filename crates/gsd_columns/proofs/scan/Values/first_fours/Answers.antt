-- After i fours the extremes are those of as many values and of the first.
use Rattle.std.proofs.Common.{◌+◌, ◌*◌, refl, ap, arith}
use Rattle.gsd_columns.specs.Scans.{nth}
use Rattle.gsd_columns.proofs.Extremes.{extremes-one, extremes-same, extremes-join}
use Rattle.gsd_columns.proofs.Columns.{nth-number}
use Rattle.gsd_columns.proofs.scan.Values.first_fours.Goals as goal

pub loop-i-init : goal.loop-i-init
loop-i-init g c = extremes-one _ _ _ _ c.value.ensures c.of-e.ensures.smallest c.of-e.ensures.largest

pub loop-i-preserved : goal.loop-i-preserved
loop-i-preserved g c =
    let v = c.args.self.now in
    let at = nth g.F.Bits.Pattern.kind v.s.now v.at in
    let i = c.loop-i.i in
    extremes-same at at _ _ _ _ (λ j. refl) (omega arith)
    (extremes-join at (λ j. at (1 + i * 4 + j * 1)) (1 + i * 4) 4 _ _ _ _ _ _ (omega arith) (omega arith)
    (λ j l. nth-number _ g.met.F.Real.said v.s.now v.at v.n v.numbers j (omega arith)) (λ j. ap at (omega arith)) c.loop-i.invariant c.four.ensures c.joined-e.ensures)
