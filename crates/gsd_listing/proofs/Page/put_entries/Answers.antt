-- `gsd_listing::Page::put_entries` meets its contract: the text so far and the lines still to be put make the same text at each turn.
use Prim.Native.Nat.{◌<◌}
use mathlib.Core.Path.{sym, ◌∙◌, ap}
use mathlib.Core.List.{append-nil}
use native.Mathlib.Omega.{arith}
use lib.ListN.{length, take}
use Rattle.gsd_format.specs.Entries.{entries_of}
use Rattle.gsd_format.specs.Listing.{entry_line}
use Rattle.gsd_format.proofs.Listing.{lines-put, lines-last}
use Rattle.gsd_open.proofs.Surveys.{slot-within, slot-entry}
use Rattle.gsd_listing.proofs.Page.put_entries.Goals as goal

pub overflow_add-index : goal.overflow_add-index
overflow_add-index c = omega (arith, c.requires.index, slot-within _ c.requires.opens c.loop-i.i (omega (arith, c.requires.counted)))

pub entry_at-e-requires : goal.entry_at-e-requires
entry_at-e-requires c = omega (arith, c.requires.index, slot-within _ c.requires.opens c.loop-i.i (omega (arith, c.requires.counted)))

pub loop-i-preserved : goal.loop-i-preserved
loop-i-preserved c =
    let img = c.args.image.now in
    let es = entries_of img in
    let few : c.loop-i.i < length es = omega (arith, c.requires.counted) in
    let text = take c.entry_line.result.size c.entry_line.result.bytes in
    let entry = c.entry_at-e.ensures ∙ slot-entry img c.requires.opens c.loop-i.i few _ (omega (arith, c.requires.index)) in
    let line = c.entry_line.ensures ∙ ap entry_line entry in
    let put = c.put_line in (
      omega (arith, put.ensures.bound, c.loop-i.invariant.0),
      lines-put es c.loop-i.i few (take c.loop-i.self.end c.loop-i.self.out.now) text (take put.new.self.end put.new.self.out.now) line put.ensures.line ∙ c.loop-i.invariant.1,
      put.ensures.same ∙ c.loop-i.invariant.2,
    )

pub returns-clause-text : goal.returns-clause-text
returns-clause-text c =
    let none = lines-last (entries_of c.args.image.now) c.loop-i.i (omega (arith, c.requires.counted)) in
    sym (append-nil (take c.loop-i.self.end c.loop-i.self.out.now)) ∙ rw none at c.loop-i.invariant.1
