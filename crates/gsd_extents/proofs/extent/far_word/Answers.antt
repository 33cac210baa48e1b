-- `gsd_extents::extent::far_word` meets its contract. Invariant: v is the number that the bytes from the k-th on make.
use Prim.Native.Nat.{◌-◌}
use mathlib.Core.Path.{refl}
use native.Mathlib.Omega.{arith}
use Rattle.gsd_format.specs.Bytes.{le}
use Rattle.gsd_extents.specs.Exec.{text_of}
use Rattle.gsd_extents.proofs.Words.{source-within, le-before, bytes-before, bytes_fit}
use Rattle.gsd_extents.proofs.extent.far_word.Goals as goal

pub loop-k-init : goal.loop-k-init
unfolding le
loop-k-init c = (refl, omega arith)

pub overflow_add-at : goal.overflow_add-at
overflow_add-at c = omega (arith, c.read_at-at.ensures, (source-within _ _ _ c.requires.good c.requires.copies _ c.requires.word).0)

pub byte-requires-clause-read : goal.byte-requires-clause-read
byte-requires-clause-read c = λ e. omega (arith, c.read_at-at.ensures, (source-within _ _ _ c.requires.good c.requires.copies _ c.requires.word).1 e)

pub overflow_mul-v : goal.overflow_mul-v
overflow_mul-v c =
    let l = bytes-before 8 c.byte.result c.loop-k.v c.loop-k.k (omega arith) (omega arith) c.byte.ensures.bound c.loop-k.invariant.1 in
    omega (arith, bytes_fit 8 (c.loop-k.k - 1) _ (omega arith) l)

pub overflow_add-v : goal.overflow_add-v
overflow_add-v c =
    let l = bytes-before 8 c.byte.result c.loop-k.v c.loop-k.k (omega arith) (omega arith) c.byte.ensures.bound c.loop-k.invariant.1 in
    omega (arith, bytes_fit 8 (c.loop-k.k - 1) _ (omega arith) l)

pub loop-k-preserved : goal.loop-k-preserved
loop-k-preserved c =
    let x = c.args in
    let t = text_of x.sheet.now x.image.now x.extent.now in (
      omega (arith, c.byte.ensures.answer, c.loop-k.invariant.0, le-before 8 t c.read_at-at.result c.loop-k.k (omega arith) (omega arith)),
      bytes-before 8 c.byte.result c.loop-k.v c.loop-k.k (omega arith) (omega arith) c.byte.ensures.bound c.loop-k.invariant.1,
    )
