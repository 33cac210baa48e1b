-- The layout is read field by field.
use lib.ListN.{length}
use Rattle.gsd_format.specs.Header.{layout_of}
use Rattle.gsd_open.proofs.header.layout_of.Goals as goal

pub returns : goal.returns
unfolding layout_of
returns c =
    λ i. record {
      len = length c.args.image.now;
      version = c.u32_at.ensures.answer i;
      index = c.u64_at.ensures i;
      slots = c.u64_at-2.ensures i;
      namelist = c.u64_at-3.ensures i;
      segments = c.u64_at-4.ensures i;
    }
