-- A request for an NChilada file: its number, test by test in their order, and what the lent bytes are afterwards.
use Rattle.std.specs.Prelude.{ℕ, zero, suc, ◌*◌, ◌%◌, ◌^◌, List, Bool, not, ◌&&◌, ◌||◌, length, ltb, eqb, Float, Ok, Err}
use Rattle.std.specs.Float.{binary64}
use Rattle.std.specs.Float.Ieee.{to_bits}
use Rattle.gsd_format.specs.declared.Entry.{Entry}
use Rattle.gsd_format.specs.Refusals.{◌⇒◌, ◌▹◌}
use Rattle.gsd_format.specs.Elements.{any_nan}
use Rattle.gsd_format.specs.Lookup.{lookup}
use Rattle.gsd_body.specs.Body.{one_or_three}
use Rattle.gsd_nchilada.specs.File.{time_of, file_of, file_length}

-- floats or doubles
abbrev pub floating : ℕ → Bool
floating kind = eqb kind 9 || eqb kind 10

-- neither infinite nor a NaN: but for the sign, the bits are below those of infinity
abbrev pub finite : Float → Bool
finite x = ltb (to_bits binary64 x % 2 ^ 63) 0x7ff0000000000000

-- of an entry that is found: another type or M; N 0; an element that is a NaN; a step or time not finite; other than the file's length
unfoldable pub file_test : List ℕ → Entry → Float → ℕ → ℕ
file_test img e step room =
    (not (floating e.kind && one_or_three e.m) ⇒ 60)
    ▹ (eqb e.n 0 ⇒ 61)
    ▹ (any_nan e.kind img e.location (e.n * e.m) ⇒ 62)
    ▹ (not (finite step && finite (time_of e.frame step)) ⇒ 63)
    ▹ (not (eqb room (file_length e)) ⇒ 64)

-- the new bytes where there is no refusal
unfoldable pub accepted : ℕ → List ℕ → List ℕ → List ℕ
accepted zero new old = new
accepted (suc n) new old = old

-- the image's and the lookup's numbers come first; a refusal writes nothing
unfoldable pub nchilada_number : List ℕ → ℕ → List ℕ → Float → ℕ → ℕ
nchilada_number img frame name step room = elim (lookup img frame name) [
  | Ok e ↦ file_test img e step room
  | Err n ↦ n
]

unfoldable pub nchilada_file : List ℕ → ℕ → List ℕ → Float → List ℕ → List ℕ
nchilada_file img frame name step file = elim (lookup img frame name) [
  | Ok e ↦ accepted (file_test img e step (length file)) (file_of img e step) file
  | Err n ↦ file
]
