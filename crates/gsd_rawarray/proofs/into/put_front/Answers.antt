-- The magic and three numbers in a row.
use Rattle.gsd_rawarray.proofs.Files.{front-stored}
use Rattle.gsd_rawarray.proofs.into.put_front.Goals as goal

pub returns : goal.returns
returns c = front-stored _ _ _ _ _ _ _ _ c.raw_type.ensures c.size_of.ensures.answer c.put_text.ensures c.put_word.ensures c.put_word-2.ensures c.put_word-3.ensures
