-- Extents of each kind.
use Rattle.std.specs.Prelude.{ℕ, ◌+◌, ◌*◌, ◌-◌, ◌/◌}
use Rattle.gsd_extents.specs.declared.extent.Extent.{Extent}
use Rattle.gsd_extents.specs.declared.extent.Kind.{Kind}

-- a number, stored in n words; no words
abbrev pub number : ℕ → ℕ → ℕ → Extent
number to n v = record { kind = Kind.Number; to = to; words = n; from = 0; until = 0; value = v }

abbrev pub none : Extent
none = number 0 0 0

-- n words copied within the image, those behind `until` as zeros
abbrev pub copied : ℕ → ℕ → ℕ → ℕ → Extent
copied to n from until = record { kind = Kind.Copy; to = to; words = n; from = from; until = until; value = 0 }

-- a row's data, padded with zeros
abbrev pub row_data : ℕ → ℕ → ℕ → Extent
row_data to from until = record { kind = Kind.Data; to = to; words = (until - from + 7) / 8; from = from; until = until; value = 0 }

-- a name, from the word of its first byte to that of its last
abbrev pub name : ℕ → ℕ → ℕ → Extent
name at from until = record { kind = Kind.Name; to = at / 8 * 8; words = (at + (until - from) + 7) / 8 - at / 8; from = from; until = until; value = at }
