-- An entry was found, so the reader fits.
use mathlib.Core.Path.{sym}
use Rattle.gsd_format.proofs.Readers.{element-none}
use Rattle.gsd_reader.proofs.Fitting.{fitting, found-fits}
use Rattle.gsd_reader.proofs.found.element_by.Goals as goal

pub element_of-requires : goal.element_of-requires
element_of-requires c = (fitting _ _ (found-fits _ _ _ _ _ (sym c.in-Ok.ensures))).short

pub returns-in-Err : goal.returns-in-Err
returns-in-Err c = sym (element-none _ _ _ _ (sym c.in-Err.ensures) _)
