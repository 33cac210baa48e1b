-- Demand 3, proved: from any image that opens, over any run of appends.
use Prim.Native.Nat.{ℕ}
use mathlib.Core.Path.{◌≡◌}
use mathlib.Core.List.{List}
use Rattle.gsd_format.specs.Opening.{verdict}
use Rattle.gsd_format.specs.Create.{create_number, created}
use Rattle.gsd_format.proofs.Fresh.{created-opens}
use Rattle.gsd_stores.specs.Sheet.{rows_of}
use Rattle.gsd_stores.specs.Append.{append_test}
use Rattle.gsd_stores.specs.Runs.{Bytes, Call}
use Rattle.gsd_stores.specs.Demand3.{Demand3}
use Rattle.gsd_stores.proofs.Valid.{Valid, valid}
use Rattle.gsd_stores.proofs.Moments.{moments}
use Rattle.gsd_stores.proofs.Runs.{Accepted, all-fields}

-- every moment of an accepted append
pub accepted : (x s : List ℕ) → Bytes s → append_test x s ≡ 0 → Accepted x s
accepted x s o h = let ok : Valid x (rows_of s) = valid x s o h in moments x s h ok

pub demand3 : (x : List ℕ) (cs : List Call) → verdict x ≡ 0 → Demand3 x cs
demand3 x cs o = all-fields accepted x cs o

-- a run can start from a created image, whatever create was asked for
pub created-run : (slice application schema : List ℕ) (schema_version slots segments : ℕ) → create_number slice application schema slots segments ≡ 0 →
    (cs : List Call) → Demand3 (created slice application schema schema_version slots segments) cs
created-run slice application schema schema_version slots segments n cs =
    demand3 _ cs (created-opens slice application schema schema_version slots segments n)
