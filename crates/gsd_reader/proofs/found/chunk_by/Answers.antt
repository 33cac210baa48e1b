-- The chunk lies in the image.
use Rattle.gsd_reader.proofs.Inside.{chunk_inside}
use Rattle.gsd_reader.proofs.found.chunk_by.Goals as goal

pub part_at-requires : goal.part_at-requires
part_at-requires c = rw c.chunk_place_by-place.ensures (chunk_inside _ _ _ _)
