-- Its front and its shape in a row.
use Rattle.gsd_rawarray.proofs.Files.{head-stored}
use Rattle.gsd_rawarray.proofs.into.put_head.Goals as goal

pub returns : goal.returns
returns c = head-stored _ _ _ _ _ c.requires.size c.put_front.ensures c.put_shape.ensures
