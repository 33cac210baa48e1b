-- Each type by its number.
use mathlib.Core.Path.{◌≡◌, sym, ap}
use native.Mathlib.Omega.{arith}
use Rattle.gsd_rawarray.specs.File.{raw_type}
use Rattle.gsd_rawarray.proofs.Types.{unsigned-type, signed-type, float-type, no-type}
use Rattle.gsd_rawarray.proofs.kinds.raw_type.Goals as goal

pub returns-in-1 : goal.returns-in-1
unfolding raw_type
returns-in-1 c = ap raw_type (sym c.in-1.is)

pub returns-in-1-2 : goal.returns-in-1-2
returns-in-1-2 c = sym (unsigned-type c.args.kind (omega arith) (omega arith))

pub returns-in-5 : goal.returns-in-5
returns-in-5 c = sym (signed-type c.args.kind (omega arith) (omega arith))

pub returns-in-9 : goal.returns-in-9
returns-in-9 c = sym (float-type c.args.kind (omega arith) (omega arith))

pub returns-in_default : goal.returns-in_default
unfolding raw_type
returns-in_default c = let e : 0 ≡ c.args.kind = omega arith in ap raw_type e

pub returns-in_default-2 : goal.returns-in_default-2
returns-in_default-2 c = sym (no-type c.args.kind (omega arith))
