-- The survey's number is passed on, then 40, 41, and what the search for the entry answers.
use mathlib.Core.Path.{◌∙◌, ap}
use native.Mathlib.Omega.{arith}
use Rattle.gsd_format.specs.Names.{index_of}
use Rattle.gsd_format.specs.Answers.{numbered}
use Rattle.gsd_read.proofs.Answers.{not_opened, no-frame, not_listed, query-fits, look-on}
use Rattle.gsd_read.proofs.found.search.Goals as goal

pub returns-in-Err : goal.returns-in-Err
returns-in-Err c =
    let said = not_opened _ _ _ _ c.in-Err.ensures.number in
    record { answer = ap numbered c.unsought.ensures.answer ∙ said.0; probes = c.unsought.ensures.probes ∙ said.1 }

pub returns-then-s-frame : goal.returns-then-s-frame
returns-then-s-frame c =
    let said = no-frame _ _ _ c.in-Ok.ensures.found _ _ c.if-s-frame.true in
    record { answer = ap numbered c.unsought-then-s-frame.ensures.answer ∙ said.0; probes = c.unsought-then-s-frame.ensures.probes ∙ said.1 }

pub returns-in_default : goal.returns-in_default
returns-in_default c =
    let sought = c.in_default.ensures ∙ ap (index_of _) c.listed.ensures.names in
    let said = not_listed _ _ _ c.in-Ok.ensures.found _ _ _ sought c.if-s-frame.false (omega (arith, c.listed.ensures.count)) in
    record { answer = ap numbered c.unsought-in_default.ensures.answer ∙ said.0; probes = c.unsought-in_default.ensures.probes ∙ said.1 }

pub invariant_of-find_entry : goal.invariant_of-find_entry
invariant_of-find_entry c =
    let sought = c.in-Some.ensures.1 ∙ ap (index_of _) c.listed.ensures.names in
    record { fits = query-fits _ _ _ c.in-Ok.ensures.found _ _ _ sought c.if-s-frame.false (omega (arith, c.listed.ensures.count, c.in-Some.ensures.0)) }

pub returns : goal.returns
returns c =
    let sought = c.in-Some.ensures.1 ∙ ap (index_of _) c.listed.ensures.names in
    let said = look-on _ _ _ c.in-Ok.ensures.found _ _ _ sought c.if-s-frame.false (omega (arith, c.listed.ensures.count, c.in-Some.ensures.0))
    _ _ c.find_entry.ensures.answer c.find_entry.ensures.probes in
    record { answer = said.0; probes = said.1 }
