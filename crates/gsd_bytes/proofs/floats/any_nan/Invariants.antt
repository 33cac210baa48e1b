-- `gsd_bytes::floats::any_nan` meets its contract: a sign is set among the elements passed where one of them is a NaN.
use Rattle.std.proofs.Common.{◌≡◌, nat_lt}
use Rattle.gsd_format.specs.Elements.{any_nan}
use Rattle.gsd_bytes.proofs.floats.any_nan.Given as goal

abbrev pub invariant-loop-i : goal.invariant-loop-i
invariant-loop-i g l = let p = g.P.Pattern in nat_lt p.unsigned (p.bits l.met) ≡ any_nan p.kind l.s l.at l.i
