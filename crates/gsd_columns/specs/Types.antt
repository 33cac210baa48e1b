-- What the NaNs of a type are, which are told by patterns and by values.
use Rattle.std.specs.Prelude.{ℕ, ◌≡◌}
use Rattle.std.specs.Float.Ieee.{of_bits, is_nan}
use Rattle.gsd_format.specs.Elements.{nan_element}
use Rattle.gsd_format.proofs.Elements.{nan-single, nan-double}
use Rattle.gsd_columns.specs.Columns.{format_of}

-- a NaN's patterns are those whose value is one
abbrev pub Said : ℕ → Type 0
Said kind = (bits : ℕ) → nan_element kind bits ≡ is_nan (of_bits (format_of kind) bits)

pub single_said : Said 9
single_said = nan-single

pub double_said : Said 10
double_said = nan-double
