-- `gsd_extents::extent::Source::near_word` meets its contract.
use mathlib.Core.Path.{sym, ◌∙◌}
use Rattle.gsd_extents.proofs.Words.{text-image, text-sheet, word_number, word-whole}
use Rattle.gsd_extents.proofs.extent.Source.near_word.Goals as goal

pub returns-in-Copy : goal.returns-in-Copy
returns-in-Copy c =
    let x = c.args.self.now in
    let cut = text-image x.sheet.now x.image.now x.extent.now c.in-Copy.is in
    c.u64_at.ensures ∙ sym (word-whole _ _ x.extent.now c.args.w x.image.now cut (λ e. cc) (λ e. cc) (c.requires.near.whole (λ e. cc)))

pub returns-in-Data : goal.returns-in-Data
returns-in-Data c =
    let x = c.args.self.now in
    let cut = text-sheet x.sheet.now x.image.now x.extent.now c.in-Data.is in
    c.u64_at-in-Data.ensures ∙ sym (word-whole _ _ x.extent.now c.args.w x.sheet.now cut (λ e. cc) (λ e. cc) (c.requires.near.whole (λ e. cc)))

pub returns-in-Number : goal.returns-in-Number
returns-in-Number c =
    let x = c.args.self.now in
    sym (word_number x.sheet.now x.image.now x.extent.now c.args.w c.in-Number.is)
