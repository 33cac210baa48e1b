-- The chunk lies in the image.
use Rattle.gsd_read.proofs.Lookups.{chunk_inside}
use Rattle.gsd_read.proofs.found.chunk.Goals as goal

pub part_at-requires : goal.part_at-requires
part_at-requires c = rw c.chunk_place-place.ensures.value (chunk_inside _ _ _)
