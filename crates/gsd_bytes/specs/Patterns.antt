-- The sizes of floats and doubles.
use Rattle.std.specs.Prelude.{◌≡◌, ◌<◌, refl}
use Rattle.std.proofs.Common.{arith}
use Rattle.gsd_format.specs.Types.{size_of}

pub single_size : size_of 9 ≡ 4
unfolding size_of
single_size = refl

pub double_size : size_of 10 ≡ 8
unfolding size_of
double_size = refl

pub single_some : 0 < 4
single_some = omega arith

pub double_some : 0 < 8
double_some = omega arith
