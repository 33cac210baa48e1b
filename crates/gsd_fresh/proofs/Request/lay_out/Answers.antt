-- `gsd_fresh::Request::lay_out` meets its contract: its stores in a row are a fresh image.
use Rattle.gsd_fresh.proofs.Fresh.{lay-out}
use Rattle.gsd_fresh.proofs.Request.lay_out.Goals as goal

pub returns : goal.returns
returns c =
    let r = c.args.self.now in
    rw (
      c.fill_zero-2.ensures,
      c.namelist_end.ensures,
      c.namelist.ensures,
      c.fill_zero.ensures,
      c.index_end.ensures,
      c.put_filled-2.ensures,
      c.put_filled.ensures,
      c.put_numbers.ensures,
    )
    (lay-out c.args.image.now r.application.now r.schema.now r.schema_version r.slots r.segments r.short_application r.short_schema c.requires)
