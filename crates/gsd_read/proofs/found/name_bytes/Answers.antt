-- The n-th name lies in the image.
use Rattle.gsd_read.proofs.Lookups.{name-inside}
use Rattle.gsd_read.proofs.found.name_bytes.Goals as goal

pub part_at-requires : goal.part_at-requires
part_at-requires c = rw c.name.ensures.value (name-inside _ _)
