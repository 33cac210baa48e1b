-- `gsd_extents::keeping::keeps` meets its contract: the first test that fails decides.
use mathlib.Core.Path.{sym, ◌∙◌}
use borrow.Author.Tests.{eq-eqb, ne_eqb, lt-leb, le-leb}
use Rattle.gsd_extents.specs.Exec.{keeps_to}
use Rattle.gsd_extents.proofs.keeping.keeps.Goals as goal

pub returns-then-extent-ne0 : goal.returns-then-extent-ne0
unfolding keeps_to
returns-then-extent-ne0 c = simp (ne_eqb _ _ c.if-extent-ne0.true)

pub returns-then-not-words_keep : goal.returns-then-not-words_keep
unfolding keeps_to
returns-then-not-words_keep c = simp (eq-eqb _ _ c.if-extent-ne0.false, sym c.words_keep.ensures ∙ c.if-not-words_keep.true)

pub returns-then-extent : goal.returns-then-extent
unfolding keeps_to
returns-then-extent c = simp (eq-eqb _ _ c.if-extent-ne0.false, sym c.words_keep.ensures ∙ c.if-not-words_keep.false, lt-leb _ _ c.if-extent.true)

pub returns : goal.returns
unfolding keeps_to
returns c =
    c.source_keeps.ensures
    ∙ simp (eq-eqb _ _ c.if-extent-ne0.false, sym c.words_keep.ensures ∙ c.if-not-words_keep.false, le-leb _ _ c.if-extent.false)
