-- `gsd_extents::keeping::source_keeps` meets its contract: the test of its kind.
use mathlib.Core.Path.{sym, ◌∙◌}
use borrow.Author.Tests.{lt-leb, le-leb}
use Rattle.gsd_extents.proofs.Kept.{keeps-copy, keeps-data, keeps-number, keeps-name}
use Rattle.gsd_extents.proofs.keeping.source_keeps.Goals as goal

pub returns-in-Copy : goal.returns-in-Copy
returns-in-Copy c = sym (keeps-copy _ _ _ c.in-Copy.is)

pub returns-in-Data : goal.returns-in-Data
returns-in-Data c = sym (keeps-data _ _ _ c.in-Data.is)

pub returns-in-Number : goal.returns-in-Number
returns-in-Number c = sym (keeps-number _ _ _ c.in-Number.is)

pub returns-then-extent-m : goal.returns-then-extent-m
returns-then-extent-m c = c.within.ensures ∙ sym (keeps-name _ _ _ c.in-Name.is ∙ simp (le-leb _ _ c.if-extent-m.true))

pub returns-else-extent-m : goal.returns-else-extent-m
returns-else-extent-m c = sym (keeps-name _ _ _ c.in-Name.is ∙ simp (lt-leb _ _ c.if-extent-m.false))
