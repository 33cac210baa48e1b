-- `gsd_names::search::same_name` meets its contract: names of two sizes differ, and so do those with two last bytes; else their bytes tell.
use Prim.Native.Nat.{◌-◌}
use mathlib.Core.Path.{sym, ap}
use native.Mathlib.Omega.{arith}
use lib.ListN.{length, get_or}
use lib.Seq.{ext_get_or}
use Rattle.gsd_format.proofs.Bytes.{eq-same, ne_same}
use Rattle.gsd_names.proofs.search.same_name.Goals as goal

pub returns-then-n-b : goal.returns-then-n-b
returns-then-n-b c = sym (ne_same _ _ (λ e. c.if-n-b.true (ap length e)))

pub returns-then-n-eq0 : goal.returns-then-n-eq0
returns-then-n-eq0 c = sym (eq-same _ _ (ext_get_or 0 _ _ c.if-n-b.false (λ i l. absurd (omega arith))))

pub returns-then-a-n : goal.returns-then-a-n
returns-then-a-n c =
    let x = c.args in
    sym (ne_same _ _ (λ e. c.if-a-n.true (ap (λ s. get_or s (length x.a.now - 1) 0) e)))
