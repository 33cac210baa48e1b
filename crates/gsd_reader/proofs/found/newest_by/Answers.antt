-- A frame below the number of frames has one behind it, and so has an id.
use mathlib.Core.Path.{sym, ◌∙◌}
use native.Mathlib.Omega.{arith}
use Rattle.gsd_format.specs.Readers.{place_behind, last_before}
use Rattle.gsd_format.proofs.Readers.{newest-fits, counted-both}
use Rattle.gsd_search.specs.Queries.{slots_for}
use Rattle.gsd_reader.proofs.Fitting.{fitting}
use Rattle.gsd_reader.proofs.found.newest_by.Goals as goal

pub newest_entry-requires : goal.newest_entry-requires
newest_entry-requires c =
    let said = c.in_ok-search_by.ensures in
    let asked = said.2 in
    record {
      frame = rw said.0 (omega (arith, asked.of_frame));
      id = rw said.0 (omega (arith, asked.of_id, (fitting _ _ asked.fitting).names));
    }

pub returns : goal.returns
returns c =
    let said = c.in_ok-search_by.ensures in
    let asked = said.2 in
    c.newest_entry.ensures
    ∙ (λ i.
    let q = said.0 i in
    let es = slots_for (said.1 i) q in
    last_before q.id es (place_behind q.version q.frame q.id es))
    ∙ sym (newest-fits _ _ asked.fitting _ _ ∙ counted-both _ _ _ _ _ asked.of_frame asked.of_id)
