-- The reader fits the image, so its query does.
use Rattle.gsd_reader.proofs.Queries.{query-fits}
use Rattle.gsd_reader.proofs.fit.Fitting.search.Goals as goal

pub invariant_of-result : goal.invariant_of-result
invariant_of-result c = record { fits = query-fits _ _ _ _ c.args.self.now.fits c.requires }
