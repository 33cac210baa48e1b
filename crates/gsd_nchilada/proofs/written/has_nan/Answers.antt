-- The chunk lies in the slice; its type says how its elements are tested.
use native.Mathlib.Omega.{arith}
use Rattle.gsd_format.specs.Types.{size_of}
use Rattle.gsd_body.proofs.Bodies.{second-of}
use Rattle.gsd_nchilada.proofs.Requests.{of_size}
use Rattle.gsd_nchilada.proofs.written.has_nan.Goals as goal

pub any_nan-requires : goal.any_nan-requires
unfolding size_of
any_nan-requires c = omega (arith, of_size _ _ c.args.chunk.now.held 9 c.if-e-eq-FLOAT.true)

pub any_nan-requires-2 : goal.any_nan-requires-2
unfolding size_of
any_nan-requires-2 c = omega (arith, of_size _ _ c.args.chunk.now.held 10 (second-of _ 9 10 c.requires c.if-e-eq-FLOAT.false))
