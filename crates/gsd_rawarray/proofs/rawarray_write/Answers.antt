-- The chunk of an entry that is found lies in the image; a refusal is passed on.
use mathlib.Core.Path.{sym, ◌∙◌}
use Rattle.gsd_read.proofs.Lookups.{found-held}
use Rattle.gsd_rawarray.proofs.Files.{of-found, of-refused}
use Rattle.gsd_format.proofs.Refusals.{kept}
use Rattle.gsd_rawarray.proofs.rawarray_write.Goals as goal

pub invariant_of-write_file : goal.invariant_of-write_file
invariant_of-write_file c = record { held = found-held _ _ _ _ (sym c.in_ok-entry.ensures.value) }

pub returns : goal.returns
returns c =
    let said = of-found _ _ _ _ c.args.file.now _ _ (sym c.in_ok-entry.ensures.value) c.write_file.ensures.number c.write_file.ensures.file in
    record { number = said.0; file = said.1 }

pub returns-in_err-entry : goal.returns-in_err-entry
returns-in_err-entry c =
    let said = of-refused _ _ _ _ c.args.file.now (sym c.in_err-entry.ensures.value) in
    record { number = kept c.from_residual.result _ c.from_residual.ensures.1 ∙ said.0; file = said.1 }
