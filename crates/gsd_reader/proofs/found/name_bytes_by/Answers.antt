-- The n-th name lies in the image.
use Rattle.gsd_reader.proofs.Inside.{name-inside}
use Rattle.gsd_reader.proofs.found.name_bytes_by.Goals as goal

pub part_at-requires : goal.part_at-requires
part_at-requires c = rw c.name_by.ensures (name-inside _ _ _)
