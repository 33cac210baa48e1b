-- `gsd_sheet::table::Row::body_end` meets its contract: N times the rest is the size of the data.
use Rattle.std.proofs.Common.{◌≡◌, sym, ◌∙◌, ◌*◌, arith}
use borrow.Author.Tests.{ltb-true, ltb-false}
use Rattle.gsd_stores.specs.Sheet.{body_size, row_at}
use Rattle.gsd_sheet.proofs.Rows.{body-product}
use Rattle.gsd_sheet.proofs.table.Row.body_end.Goals as goal

pub returns-then-exceeds : goal.returns-then-exceeds
returns-then-exceeds c =
    let h = sym c.exceeds.ensures ∙ c.if-exceeds.true in
    let product : c.n-n.result * c.size-each.result ≡ body_size c.args.self.now.sheet.now (row_at c.args.self.now.i) =
    rw (c.n-n.ensures, c.size-each.ensures.answer) (body-product c.args.self.now.sheet.now (row_at c.args.self.now.i)) in
    omega (arith, ltb-true, product)

pub returns : goal.returns
returns c =
    let h = sym c.exceeds.ensures ∙ c.if-exceeds.false in
    let product : c.n-n.result * c.size-each.result ≡ body_size c.args.self.now.sheet.now (row_at c.args.self.now.i) =
    rw (c.n-n.ensures, c.size-each.ensures.answer) (body-product c.args.self.now.sheet.now (row_at c.args.self.now.i)) in
    omega (arith, ltb-false, product)
