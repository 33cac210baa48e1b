-- `gsd_sheet::table::exceeds` meets its contract.
use mathlib.Core.Path.{sym}
use native.Mathlib.Nat.{mul-zero}
use native.Mathlib.Omega.{arith}
use Rattle.gsd_sheet.proofs.Rows.{quotient-tells, product-fits}
use borrow.Author.Tests.{le-ltb}
use Rattle.gsd_sheet.proofs.table.exceeds.Goals as goal

pub overflow_mul-result : goal.overflow_mul-result
overflow_mul-result c = record { fits = product-fits _ _ c.if-n-lt268435456.true c.requires }

pub returns-then-each-eq0 : goal.returns-then-each-eq0
returns-then-each-eq0 c = rw (c.if-each-eq0.true, mul-zero) (sym (le-ltb c.args.room 0 (omega arith)))

pub returns : goal.returns
returns c =
    let x = c.args in quotient-tells x.room x.n x.each (omega arith)
