-- An entry was found, so the reader fits.
use mathlib.Core.Path.{sym}
use Rattle.std.proofs.lemmas.Result.{err_from_is_err_and}
use Rattle.gsd_format.proofs.Readers.{chunk-none}
use Rattle.gsd_reader.proofs.Fitting.{fitting, found-fits}
use Rattle.gsd_reader.proofs.found.chunk_place_by.Goals as goal

pub returns-in_err-lookup_by : goal.returns-in_err-lookup_by
returns-in_err-lookup_by c =
    let p = err_from_is_err_and c.from_residual.result c.from_residual.ensures.1 in
    rw (p.1, p.2) (sym (chunk-none _ _ _ _ (sym c.in_err-lookup_by.ensures)))

pub chunk_of-requires : goal.chunk_of-requires
chunk_of-requires c = (fitting _ _ (found-fits _ _ _ _ _ (sym c.in_ok-lookup_by.ensures))).short
