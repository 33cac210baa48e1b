-- `gsd_fresh::Request::put_numbers` meets its contract: its stores in a row.
use Rattle.gsd_fresh.proofs.Fresh.{put-numbers}
use Rattle.gsd_fresh.proofs.Request.put_numbers.Goals as goal

pub returns : goal.returns
returns c =
    let r = c.args.self.now in
    rw (
      c.put_half-2.ensures,
      c.put_half.ensures,
      c.put_word-4.ensures,
      c.put_word-3.ensures,
      c.namelist.ensures,
      c.put_word-2.ensures,
      c.put_word.ensures,
      c.put_magic.ensures,
    ) (put-numbers c.args.s.now r.schema_version r.slots r.segments)
