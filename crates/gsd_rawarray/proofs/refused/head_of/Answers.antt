-- Each way out is the first test that applies.
use Prim.Native.Nat.{ℕ}
use mathlib.Core.Path.{◌≡◌, sym, ◌∙◌, ap}
use mathlib.Core.List.{List}
use native.Mathlib.Omega.{arith}
use lib.Dec.{eqb}
use borrow.Author.Tests.{ne_eqb}
use Rattle.gsd_format.specs.Bytes.{le}
use Rattle.gsd_rawarray.specs.Said.{kind_of, raw_kind}
use Rattle.gsd_rawarray.proofs.Requests.{gives-70, gives-71, gives-72, gives-73, gives-74, gives-75, gives-76, gives-0}
use Rattle.gsd_rawarray.proofs.Said.{data-told}
use Rattle.gsd_rawarray.proofs.refused.head_of.Goals as goal

-- the type by the two numbers as code keeps them
kind-kept : (f : List ℕ) (raw width : ℕ) → raw ≡ le 8 f 16 → width ≡ le 8 f 24 → kind_of raw width ≡ raw_kind f
kind-kept f raw width r w = λ i. kind_of (r i) (w i)

pub returns-then-file-lt-SHORTEST_FILE-clause-number : goal.returns-then-file-lt-SHORTEST_FILE-clause-number
returns-then-file-lt-SHORTEST_FILE-clause-number c = gives-70 _ c.if-file-lt-SHORTEST_FILE.true

pub returns-then-not-begins-clause-number : goal.returns-then-not-begins-clause-number
returns-then-not-begins-clause-number c = gives-71 _ c.if-file-lt-SHORTEST_FILE.false (sym c.same_part-begins.ensures ∙ c.if-not-begins.true)

pub returns-then-not-plain-clause-number : goal.returns-then-not-plain-clause-number
returns-then-not-plain-clause-number c =
    gives-72 _ c.if-file-lt-SHORTEST_FILE.false (sym c.same_part-begins.ensures ∙ c.if-not-begins.false) (ap (λ w. eqb w 0) (sym c.u64_at-plain.ensures) ∙ ne_eqb _ _ c.if-not-plain.true)

pub returns-in_default-clause-number : goal.returns-in_default-clause-number
returns-in_default-clause-number c =
    gives-73 _ c.if-file-lt-SHORTEST_FILE.false (sym c.same_part-begins.ensures ∙ c.if-not-begins.false) (ap (λ w. eqb w 0) (sym c.u64_at-plain.ensures ∙ c.if-not-plain.false))
    (sym (kind-kept _ _ _ c.u64_at.ensures c.u64_at-width.ensures) ∙ c.in_default.ensures)

pub returns-in_default-dimensions_in-clause-number : goal.returns-in_default-dimensions_in-clause-number
returns-in_default-dimensions_in-clause-number c =
    let kind = c.in-Some.ensures.0 ∙ kind-kept _ _ _ c.u64_at.ensures c.u64_at-width.ensures in
    gives-74 _ c.if-file-lt-SHORTEST_FILE.false (sym c.same_part-begins.ensures ∙ c.if-not-begins.false) (ap (λ w. eqb w 0) (sym c.u64_at-plain.ensures ∙ c.if-not-plain.false))
    (λ e. omega (arith, c.in-Some.ensures.1, kind, e)) c.in_default-dimensions_in.ensures

pub returns-then-not-filled-clause-number : goal.returns-then-not-filled-clause-number
returns-then-not-filled-clause-number c =
    let kind = c.in-Some.ensures.0 ∙ kind-kept _ _ _ c.u64_at.ensures c.u64_at-width.ensures in
    let d = c.in-Some-dimensions_in.ensures in
    gives-75 _ c.if-file-lt-SHORTEST_FILE.false (sym c.same_part-begins.ensures ∙ c.if-not-begins.false) (ap (λ w. eqb w 0) (sym c.u64_at-plain.ensures ∙ c.if-not-plain.false))
    (λ e. omega (arith, c.in-Some.ensures.1, kind, e)) d.all
    (sym (data-told _ d.all _ _ _ _ _ _ c.u64_at-size.ensures d.start d.rows d.columns c.u64_at-width.ensures c.is_product.ensures) ∙ c.if-not-filled.true)

pub returns-then-d-ge-TWO_TO_32-clause-number : goal.returns-then-d-ge-TWO_TO_32-clause-number
returns-then-d-ge-TWO_TO_32-clause-number c =
    let kind = c.in-Some.ensures.0 ∙ kind-kept _ _ _ c.u64_at.ensures c.u64_at-width.ensures in
    let d = c.in-Some-dimensions_in.ensures in
    gives-76 _ c.if-file-lt-SHORTEST_FILE.false (sym c.same_part-begins.ensures ∙ c.if-not-begins.false) (ap (λ w. eqb w 0) (sym c.u64_at-plain.ensures ∙ c.if-not-plain.false))
    (λ e. omega (arith, c.in-Some.ensures.1, kind, e)) d.all
    (sym (data-told _ d.all _ _ _ _ _ _ c.u64_at-size.ensures d.start d.rows d.columns c.u64_at-width.ensures c.is_product.ensures) ∙ c.if-not-filled.false)
    (omega (arith, d.columns, c.if-d-ge-TWO_TO_32.true))

pub returns : goal.returns
returns c =
    let kind = c.in-Some.ensures.0 ∙ kind-kept _ _ _ c.u64_at.ensures c.u64_at-width.ensures in
    let d = c.in-Some-dimensions_in.ensures in
    let number = gives-0 _ c.if-file-lt-SHORTEST_FILE.false (sym c.same_part-begins.ensures ∙ c.if-not-begins.false) (ap (λ w. eqb w 0) (sym c.u64_at-plain.ensures ∙ c.if-not-plain.false))
    (λ e. omega (arith, c.in-Some.ensures.1, kind, e)) d.all
    (sym (data-told _ d.all _ _ _ _ _ _ c.u64_at-size.ensures d.start d.rows d.columns c.u64_at-width.ensures c.is_product.ensures) ∙ c.if-not-filled.false)
    (omega (arith, d.columns, c.if-d-ge-TWO_TO_32.false)) in
    record {
      number = number;
      head = record { readable = sym number; kind = kind; rows = d.rows; columns = d.columns; start = d.start; size = c.u64_at-size.ensures };
    }
