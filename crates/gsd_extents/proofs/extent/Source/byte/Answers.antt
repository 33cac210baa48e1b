-- `gsd_extents::extent::Source::byte` meets its contract.
use mathlib.Core.Path.{sym, ◌∙◌, ap}
use lib.ListN.{get_or}
use Rattle.gsd_extents.proofs.Words.{text-image, text-sheet, text-name}
use Rattle.gsd_extents.proofs.extent.Source.byte.Goals as goal

pub returns-in-Copy-clause-answer : goal.returns-in-Copy-clause-answer
returns-in-Copy-clause-answer c =
    let x = c.args.self.now in
    c.cut_byte.ensures.answer ∙ sym (ap (λ l. get_or l c.args.i 0) (text-image x.sheet.now x.image.now x.extent.now c.in-Copy.is))

pub returns-in-Data-clause-answer : goal.returns-in-Data-clause-answer
returns-in-Data-clause-answer c =
    let x = c.args.self.now in
    c.cut_byte-in-Data.ensures.answer ∙ sym (ap (λ l. get_or l c.args.i 0) (text-sheet x.sheet.now x.image.now x.extent.now c.in-Data.is))

pub returns-in-Name-clause-answer : goal.returns-in-Name-clause-answer
returns-in-Name-clause-answer c =
    let x = c.args.self.now in
    c.over_byte.ensures.answer ∙ sym (ap (λ l. get_or l c.args.i 0) (text-name x.sheet.now x.image.now x.extent.now c.in-Name.is))
