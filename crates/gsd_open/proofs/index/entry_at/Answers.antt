-- An entry is read field by field.
use Prim.Native.Nat.{◌+◌}
use lib.ListN.{get_or}
use Rattle.gsd_format.specs.Entries.{entry_at}
use Rattle.gsd_open.proofs.index.entry_at.Goals as goal

pub returns : goal.returns
unfolding entry_at
returns c =
    λ i. record {
      frame = c.u64_at.ensures i;
      n = c.u64_at-2.ensures i;
      location = c.u64_at-3.ensures i;
      m = c.u32_at.ensures.answer i;
      id = c.u16_at.ensures.answer i;
      kind = get_or c.args.image.now (c.args.at + 30) 0;
      flags = get_or c.args.image.now (c.args.at + 31) 0;
    }
