-- The chunk of an entry that is found lies in the image; a refusal is passed on.
use mathlib.Core.Path.{sym}
use native.Mathlib.Omega.{arith}
use Rattle.std.proofs.lemmas.Result.{err_from_is_err_and}
use Rattle.gsd_read.proofs.Lookups.{found-sound, found-held}
use Rattle.gsd_nchilada.proofs.Requests.{of-found, of-refused}
use Rattle.gsd_nchilada.proofs.nchilada.Goals as goal

pub returns-in_err-entry : goal.returns-in_err-entry
returns-in_err-entry c =
    let p = err_from_is_err_and c.from_residual.result c.from_residual.ensures.1 in
    let said = of-refused _ _ _ _ _ _ (sym c.in_err-entry.ensures.value) in
    record { number = rw (p.1, p.2) said.0; file = said.1 }

pub invariant_of-write_file : goal.invariant_of-write_file
invariant_of-write_file c = record { held = found-held _ _ _ _ (sym c.in_ok-entry.ensures.value) }

pub write_file-requires : goal.write_file-requires
write_file-requires c = omega (arith, (found-sound _ _ _ _ (sym c.in_ok-entry.ensures.value)).early)

pub returns : goal.returns
returns c =
    let said = of-found _ _ _ _ _ _ _ _ (sym c.in_ok-entry.ensures.value) c.write_file.ensures.number c.write_file.ensures.file in
    record { number = said.0; file = said.1 }
