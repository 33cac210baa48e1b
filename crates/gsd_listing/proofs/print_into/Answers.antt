-- `gsd_listing::print_into` meets its contract: what its page holds is what stands in the bytes that are lent.
use mathlib.Core.Path.{◌≡◌, sym, ◌∙◌}
use lib.ListN.{take}
use borrow.Author.Rules.{rules}
use Rattle.gsd_format.specs.Ascii.{ascii}
use Rattle.gsd_format.specs.Listing.{printed}
use Rattle.gsd_format.proofs.Listing.{printed-short, printed-long}
use Rattle.gsd_listing.proofs.print_into.Goals as goal

pub returns-then-input-gt65536-clause-text : goal.returns-then-input-gt65536-clause-text
unfolding ascii
returns-then-input-gt65536-clause-text c =
    let text : take c.put.new.self.end c.put.new.self.out.now ≡ printed c.args.input.now = c.put.ensures.text ∙ sym (printed-long _ c.if-input-gt65536.true) in
    search (rules, text)

pub returns-clause-text : goal.returns-clause-text
returns-clause-text c =
    let put = c.put_listing in
    let text : take put.new.self.end put.new.self.out.now ≡ printed c.args.input.now = put.ensures.text ∙ sym (printed-short _ c.if-input-gt65536.false) in
    search (rules, text)
