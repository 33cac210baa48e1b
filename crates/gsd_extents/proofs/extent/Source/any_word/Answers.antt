-- `gsd_extents::extent::Source::any_word` meets its contract.
use mathlib.Core.Path.{sym, ◌∙◌}
use Rattle.gsd_extents.proofs.Words.{word_number, word_read}
use Rattle.gsd_extents.proofs.extent.Source.any_word.Goals as goal

pub returns-in-Number : goal.returns-in-Number
returns-in-Number c =
    let x = c.args.self.now in sym (word_number x.sheet.now x.image.now x.extent.now c.args.w c.in-Number.is)

pub returns-in_default : goal.returns-in_default
returns-in_default c =
    let x = c.args.self.now in c.far_word.ensures ∙ sym (word_read x.sheet.now x.image.now x.extent.now c.args.w c.in_default.not-Number)
