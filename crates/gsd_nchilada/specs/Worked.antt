-- Worked cases, proved: entries whose chunks are a few bytes, the numbers of requests for their files, and the files.
use Rattle.std.specs.Prelude.{ℕ, List, [], ◌∷◌, ◌++◌, Bool, true, ◌&&◌, Float}
use Prim.Native.String.{String}
use Rattle.std.specs.Float.{binary64}
use Rattle.std.specs.Float.Ieee.{of_bits}
use Rattle.gsd_format.specs.declared.Entry.{Entry}
use Rattle.gsd_format.specs.Bytes.{same, le_bytes}
use Rattle.gsd_nchilada.specs.File.{file_of}
use Rattle.gsd_nchilada.specs.Request.{file_test}

pub record Case : Type 0 where
  pub says : String
  pub got : List ℕ
  pub expected : List ℕ

-- an entry of a frame, its chunk at the start of the bytes
abbrev entry : ℕ → ℕ → ℕ → ℕ → Entry
entry frame kind n m = record { frame = frame; n = n; location = 0; m = m; id = 0; kind = kind; flags = 0 }

-- a step by its bits: a minute, -2.5, 1.7e308, infinity, a NaN
abbrev step : ℕ → Float
step bits = of_bits binary64 bits

abbrev minute : Float
minute = step 0x404e000000000000

-- the floats 0.0, -0.0, 20.5
unfoldable pub zeros_first : List ℕ
zeros_first = le_bytes 4 0 ++ le_bytes 4 0x80000000 ++ le_bytes 4 0x41a40000

-- two rows of three doubles: 1, infinity, -2 and 0.5, -infinity, -2
unfoldable pub rows_of_three : List ℕ
rows_of_three =
    le_bytes 8 0x3ff0000000000000 ++ le_bytes 8 0x7ff0000000000000 ++ le_bytes 8 0xc000000000000000
    ++ le_bytes 8 0x3fe0000000000000 ++ le_bytes 8 0xfff0000000000000 ++ le_bytes 8 0xc000000000000000

-- 20.5 and a signalling NaN
unfoldable pub nan_last : List ℕ
nan_last = le_bytes 4 0x41a40000 ++ le_bytes 4 0x7f800001

abbrev numbered : String → List ℕ → Entry → Float → ℕ → ℕ → Case
numbered says img e s room number = record { says = says; got = file_test img e s room ∷ []; expected = number ∷ [] }

unfoldable pub files : List Case
files =
    record {
      says = "frame 2, a minute a frame: of the two zeros the first is the smallest";
      got = file_of zeros_first (entry 2 9 3 1) minute;
      expected =
          0 ∷ 0x10 ∷ 0x34 ∷ 0xa5 ∷ 0x40 ∷ 0x5e ∷ 0 ∷ 0 ∷ 0 ∷ 0 ∷ 0 ∷ 0 ∷ 0 ∷ 0 ∷ 0 ∷ 0 ∷ 0 ∷ 0 ∷ 0 ∷ 3 ∷ 0 ∷ 0 ∷ 0 ∷ 1 ∷ 0 ∷ 0 ∷ 0 ∷ 9
          ∷ 0 ∷ 0 ∷ 0 ∷ 0 ∷ 0x41 ∷ 0xa4 ∷ 0 ∷ 0 ∷ 0 ∷ 0 ∷ 0 ∷ 0 ∷ 0x80 ∷ 0 ∷ 0 ∷ 0 ∷ 0x41 ∷ 0xa4 ∷ 0 ∷ 0 ∷ [];
    }
    ∷ record {
      says = "frame 0 times -2.5 is -0.0; infinities are values; all smallest before all largest";
      got = file_of rows_of_three (entry 0 10 2 3) (step 0xc004000000000000);
      expected =
          0 ∷ 0x10 ∷ 0x34 ∷ 0xa5 ∷ 0x80 ∷ 0 ∷ 0 ∷ 0 ∷ 0 ∷ 0 ∷ 0 ∷ 0 ∷ 0 ∷ 0 ∷ 0 ∷ 0 ∷ 0 ∷ 0 ∷ 0 ∷ 2 ∷ 0 ∷ 0 ∷ 0 ∷ 3 ∷ 0 ∷ 0 ∷ 0 ∷ 10
          ∷ 0x3f ∷ 0xe0 ∷ 0 ∷ 0 ∷ 0 ∷ 0 ∷ 0 ∷ 0 ∷ 0xff ∷ 0xf0 ∷ 0 ∷ 0 ∷ 0 ∷ 0 ∷ 0 ∷ 0 ∷ 0xc0 ∷ 0 ∷ 0 ∷ 0 ∷ 0 ∷ 0 ∷ 0 ∷ 0
          ∷ 0x3f ∷ 0xf0 ∷ 0 ∷ 0 ∷ 0 ∷ 0 ∷ 0 ∷ 0 ∷ 0x7f ∷ 0xf0 ∷ 0 ∷ 0 ∷ 0 ∷ 0 ∷ 0 ∷ 0 ∷ 0xc0 ∷ 0 ∷ 0 ∷ 0 ∷ 0 ∷ 0 ∷ 0 ∷ 0
          ∷ 0x3f ∷ 0xf0 ∷ 0 ∷ 0 ∷ 0 ∷ 0 ∷ 0 ∷ 0 ∷ 0x7f ∷ 0xf0 ∷ 0 ∷ 0 ∷ 0 ∷ 0 ∷ 0 ∷ 0 ∷ 0xc0 ∷ 0 ∷ 0 ∷ 0 ∷ 0 ∷ 0 ∷ 0 ∷ 0
          ∷ 0x3f ∷ 0xe0 ∷ 0 ∷ 0 ∷ 0 ∷ 0 ∷ 0 ∷ 0 ∷ 0xff ∷ 0xf0 ∷ 0 ∷ 0 ∷ 0 ∷ 0 ∷ 0 ∷ 0 ∷ 0xc0 ∷ 0 ∷ 0 ∷ 0 ∷ 0 ∷ 0 ∷ 0 ∷ 0 ∷ [];
    }
    ∷ numbered "accepted" zeros_first (entry 2 9 3 1) minute 48 0
    ∷ numbered "M 5 and N 0: 60" [] (entry 0 10 0 5) minute 28 60
    ∷ numbered "u32: 60" zeros_first (entry 0 3 3 1) minute 48 60
    ∷ numbered "N 0: 61" [] (entry 0 9 0 3) minute 52 61
    ∷ numbered "a signalling NaN at the end, and an infinite step: 62" nan_last (entry 0 9 2 1) (step 0x7ff0000000000000) 44 62
    ∷ numbered "an infinite step in frame 0: 63" zeros_first (entry 0 9 3 1) (step 0xfff0000000000000) 48 63
    ∷ numbered "a NaN as a step in frame 0: 63" zeros_first (entry 0 9 3 1) (step 0x7ff8000000000000) 48 63
    ∷ numbered "frame 2 times 1.7e308: 63" zeros_first (entry 2 9 3 1) (step 0x7fee42d130773b76) 47 63
    ∷ numbered "frame 1 times 1.7e308" zeros_first (entry 1 9 3 1) (step 0x7fee42d130773b76) 48 0
    ∷ numbered "a byte short: 64" zeros_first (entry 2 9 3 1) minute 47 64
    ∷ numbered "a byte long: 64" zeros_first (entry 2 9 3 1) minute 49 64
    ∷ []

unfoldable pub passes : List Case → Bool
passes [] = true
passes (c ∷ cs) = same c.got c.expected && passes cs
