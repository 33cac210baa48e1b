-- The chunk of an entry that is found is no longer than the slice, so its size is exact.
use mathlib.Core.Path.{sym}
use Rattle.std.proofs.lemmas.Result.{err_from_is_err_and}
use Rattle.gsd_format.proofs.Calls.{place-says}
use Rattle.gsd_read.proofs.Lookups.{place_found, place-refused}
use Rattle.gsd_read.proofs.found.chunk_place.Goals as goal

pub returns-in_err-e : goal.returns-in_err-e
returns-in_err-e c =
    let p = err_from_is_err_and c.from_residual.result c.from_residual.ensures.1 in
    let said = place-says _ _ _ _ (sym (place-refused _ _ _ _ (sym c.in_err-e.ensures.value))) in
    rw (p.1, p.2) (record { value = said.0; number = said.1.0; values = said.1.1 })

pub returns : goal.returns
returns c =
    let said = place-says _ _ _ _ (sym (place_found _ _ _ _ (sym c.in_ok-e.ensures.value) _ c.chunk_bytes.ensures)) in
    record { value = said.0; number = said.1.0; values = said.1.1 }
