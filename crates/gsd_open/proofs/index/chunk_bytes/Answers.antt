-- Each factor is cut above the longest slice, so the product fits and is the chunk's size wherever that matters.
use Rattle.gsd_open.proofs.EntryTests.{capped-chunk}
use Rattle.gsd_open.proofs.index.chunk_bytes.Goals as goal

pub returns : goal.returns
returns c =
    let a = c.args in
    rw (← c.size_of.ensures.answer) (capped-chunk a.n a.m c.size_of.result _ _ c.min.ensures c.min-2.ensures)
