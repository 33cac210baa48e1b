-- One dimension, or two; the test of how many says what each number is.
use mathlib.Core.Path.{sym, ◌∙◌}
use native.Mathlib.Omega.{arith}
use borrow.Author.Tests.{le-leb}
use Rattle.gsd_rawarray.proofs.Said.{dims-one, dims-two, n-one, m-one, n-two, m-two}
use Rattle.gsd_rawarray.proofs.words.dimensions_in.Goals as goal

pub returns-in-1 : goal.returns-in-1
returns-in-1 c =
    let one = sym c.u64_at.ensures ∙ c.in-1.is in
    record {
      all = sym (dims-one _ one) ∙ le-leb _ _ (omega arith);
      rows = c.u64_at-in-1.ensures ∙ n-one _ one;
      columns = m-one _ one;
      start = omega (arith, one);
    }

pub returns-in-2 : goal.returns-in-2
returns-in-2 c =
    let two = sym c.u64_at.ensures ∙ c.in-2.is in
    record {
      all = sym (dims-two _ two) ∙ le-leb _ _ (omega arith);
      rows = c.u64_at-in-2.ensures ∙ n-two _ (λ e. omega (arith, two, e));
      columns = c.u64_at-in-2-2.ensures ∙ m-two _ (λ e. omega (arith, two, e));
      start = omega (arith, two);
    }
