-- The worked cases hold: closed by computing the definitions.
use mathlib.Core.Path.{◌≡◌, refl}
use mathlib.Core.Bool.{true}
use Rattle.gsd_format.specs.Bytes.{le, le_bytes, same, zero_in}
use Rattle.gsd_format.specs.Refusals.{◌⇒◌, ◌▹◌, accepted}
use Rattle.gsd_format.specs.Types.{size_of}
use Rattle.gsd_format.specs.Ascii.{ascii}
use Rattle.gsd_format.specs.Cases.{passes}
use Rattle.gsd_rawarray.specs.File.{raw_type, raw_head}
use Rattle.gsd_rawarray.specs.Said.{raw_data, raw_n, raw_m, types_of}
use Rattle.gsd_rawarray.specs.Requests.{raw_test, raw_table, raw_sheet, read_test}
use Rattle.gsd_rawarray.specs.Worked.{front, line, table, six_numbers, written, read}

pub cases-pass : (passes written ≡ true) × (passes read ≡ true)
unfolding le le_bytes same zero_in ◌⇒◌ ◌▹◌ accepted size_of ascii passes raw_type raw_head raw_data raw_n raw_m types_of
    raw_test raw_table raw_sheet read_test front line table six_numbers written read
cases-pass = (refl, refl)
