-- The worked cases hold: closed by computing the definitions.
use mathlib.Core.Path.{◌≡◌, refl}
use mathlib.Core.Bool.{true}
use lib.Ieee.{of_bits, to_bits, of_int, mul, round, lt, nan_bits}
use Rattle.gsd_format.specs.Bytes.{le, le_bytes, same}
use Rattle.gsd_format.specs.Refusals.{◌⇒◌, ◌▹◌}
use Rattle.gsd_format.specs.Types.{size_of}
use Rattle.gsd_format.specs.Elements.{nan_element, any_nan}
use Rattle.gsd_columns.specs.Columns.{foremost}
use Rattle.gsd_xdr.specs.Xdr.{be_bytes, be_row}
use Rattle.gsd_body.specs.Body.{body_of}
use Rattle.gsd_nchilada.specs.File.{head_of}
use Rattle.gsd_nchilada.specs.Request.{file_test}
use Rattle.gsd_nchilada.specs.Worked.{zeros_first, rows_of_three, nan_last, files, passes}

pub files-pass : passes files ≡ true
unfolding of_bits to_bits of_int mul round lt nan_bits le le_bytes same ◌⇒◌ ◌▹◌ size_of nan_element any_nan foremost be_bytes be_row body_of head_of file_test
    zeros_first rows_of_three nan_last files passes
files-pass = refl
