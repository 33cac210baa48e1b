-- `gsd_create::or_default` meets its contract.
use mathlib.Core.Path.{sym}
use native.Mathlib.Omega.{arith}
use Rattle.gsd_format.proofs.Create.{default-taken, default-spared}
use Rattle.gsd_create.proofs.or_default.Goals as goal

pub returns-in-0 : goal.returns-in-0
returns-in-0 c = sym (default-taken c.args.n c.args.usual c.in-0.is)

pub returns-in_default : goal.returns-in_default
returns-in_default c = sym (default-spared c.args.n c.args.usual (λ e. omega (arith, e)))
