-- A name that is taken is the next one; one that is not is passed.
use mathlib.Core.Path.{sym}
use native.Mathlib.Omega.{arith}
use borrow.Author.Count.{below_more}
use Rattle.gsd_reader.proofs.Fitting.{fitting}
use Rattle.gsd_reader.proofs.NextNames.{passing-some, passing-here, passing-on}
use Rattle.gsd_reader.proofs.fit.Fitting.first.Goals as goal

pub test-requires : goal.test-requires
test-requires g c =
    let next = c.in_ok-part.ensures in
    c.requires _ (omega (arith, next.inside, next.high, (fitting _ _ c.args.self.now.fits).list))

pub returns-then-test : goal.returns-then-test
returns-then-test g c =
    let at = c.loop-id.invariant.0 in
    let more = c.loop-id-test.true in
    let next = c.in_ok-part.ensures in
    record {
      there = passing-some _ _ _ _ at _ _ next more;
      here = sym (passing-here _ _ _ _ at _ _ next more);
      before = c.loop-id.invariant.1;
      yes = rw c.if-test.true at c.test.ensures;
    }

pub loop-id-preserved : goal.loop-id-preserved
loop-id-preserved g c =
    let at = c.loop-id.invariant.0 in
    let more = c.loop-id-test.true in
    let next = c.in_ok-part.ensures in (
      passing-on _ _ _ _ at _ _ next more,
      below_more _ _ c.loop-id.invariant.1 (rw (passing-here _ _ _ _ at _ _ next more) (rw c.if-test.false at c.test.ensures)),
    )
