-- The name goes by what is known of it in a list that ends where the reader's does.
use native.Mathlib.Omega.{arith}
use Rattle.gsd_reader.proofs.Fitting.{fitting}
use Rattle.gsd_reader.proofs.fit.Fitting.next_part.Goals as goal

pub overflow_add-stop : goal.overflow_add-stop
overflow_add-stop c =
    let f = fitting _ _ c.args.self.now.fits in omega (arith, f.list, f.short)

pub name_here-requires : goal.name_here-requires
name_here-requires c = record { ordered = c.requires; inside = (fitting _ _ c.args.self.now.fits).list }
