-- `gsd_bytes::put_text` meets its contract: the bytes passed are stored.
use Rattle.std.proofs.Common.{◌≡◌, length, take}
use Rattle.gsd_format.specs.Bytes.{stored}
use Rattle.gsd_bytes.proofs.put_text.Given as goal

abbrev pub invariant-loop-i : goal.invariant-loop-i
invariant-loop-i l = (length l.s ≡ length l.initial.s) × (l.s ≡ stored l.initial.s l.at (take l.i l.t))
