-- `gsd_feasible::numbers_fit` meets its contract.
use Rattle.gsd_feasible.proofs.numbers_fit.Goals as goal

pub returns : goal.returns
returns c =
    rw (
      c.slices_fit.ensures,
      c.names_small.ensures,
      c.index_small.ensures,
      c.names_known.ensures,
      c.entries_known.ensures,
    )
