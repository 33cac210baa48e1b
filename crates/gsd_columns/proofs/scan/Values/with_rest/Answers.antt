-- After each value the extremes are those of the values so far.
use Rattle.std.proofs.Common.{◌+◌, refl, ap, ◌∙◌, arith}
use Rattle.gsd_columns.specs.Scans.{nth}
use Rattle.gsd_columns.proofs.Extremes.{extremes-one, extremes-join}
use Rattle.gsd_columns.proofs.Columns.{nth-number}
use Rattle.gsd_columns.proofs.scan.Values.with_rest.Goals as goal

pub loop-i-preserved : goal.loop-i-preserved
loop-i-preserved g c =
    let v = c.args.self.now in
    let at = nth g.F.Bits.Pattern.kind v.s.now v.at in
    let i = c.loop-i.i in (
      omega arith,
      extremes-join at (λ j. at (i + j)) i 1 _ _ _ _ _ _ c.loop-i.invariant.0 (omega arith)
          (λ j l. nth-number _ g.met.F.Real.said v.s.now v.at v.n v.numbers j (omega arith)) (λ j. refl) c.loop-i.invariant.1
          (extremes-one (λ j. at (i + j)) _ _ _ (c.value.ensures ∙ ap at (omega arith)) c.of.ensures.smallest c.of.ensures.largest) c.joined-e.ensures,
    )
