-- After so many pairs twice as many numbers are stored.
use Rattle.std.proofs.Common.{◌≡◌, ◌*◌}
use Rattle.gsd_format.specs.Bytes.{stored}
use Rattle.gsd_xdr.specs.Xdr.{be_row, numbers}
use Rattle.gsd_xdr.proofs.put_all.Given as goal

abbrev pub invariant-loop-pair : goal.invariant-loop-pair
invariant-loop-pair g l = let size = g.N.Pattern.SIZE in l.out ≡ stored l.initial.out l.to (be_row size (numbers size l.s l.from) (l.pair * 2))
