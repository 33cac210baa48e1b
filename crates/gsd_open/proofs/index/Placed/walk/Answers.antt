-- A table of zeros for 1.0; in 2.x none is asked for.
use Prim.Native.Nat.{ℕ}
use lib.ListN.{length-replicate, get_or-replicate}
use Rattle.gsd_format.specs.Opening.{most_names}
use Rattle.gsd_open.proofs.index.Placed.walk.Goals as goal

pub walk_by-requires : goal.walk_by-requires
walk_by-requires c =
    record {
      long = c.requires;
      unnoted = λ v.
          (length-replicate {A = ℕ} most_names 0, λ id l. get_or-replicate {A = ℕ} most_names id 0 0 l);
    }
