-- The block's units are counted by division, so no product wraps.
use Prim.Native.Nat.{◌+◌, ◌*◌}
use native.Mathlib.Omega.{arith}
use borrow.Author.Tests.{lt-ltb, le-ltb}
use Rattle.gsd_format.specs.Header.{header_size}
use Rattle.gsd_open.proofs.Blocks.{units-fit}
use Rattle.gsd_open.proofs.header.outside.Goals as goal

pub returns-then-start-lt-HEADER_SIZE : goal.returns-then-start-lt-HEADER_SIZE
returns-then-start-lt-HEADER_SIZE c = simp (lt-ltb c.args.start header_size c.if-start-lt-HEADER_SIZE.true)

pub returns-then-end-start : goal.returns-then-end-start
returns-then-end-start c =
    let a = c.args in
    simp (le-ltb a.start header_size c.if-start-lt-HEADER_SIZE.false, lt-ltb a.len (a.start + a.unit * a.count) (omega arith))

pub returns : goal.returns
returns c =
    let a = c.args in
    simp (le-ltb a.start header_size c.if-start-lt-HEADER_SIZE.false) (units-fit a.len a.start a.unit a.count c.if-end-start.false c.requires)
