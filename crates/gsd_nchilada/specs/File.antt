-- An NChilada file, number by number, all of them XDR: the head of 28 bytes, then the body, which is extremes and data.
use Rattle.std.specs.Prelude.{ℕ, ◌+◌, ◌*◌, ◌/◌, ◌%◌, ◌^◌, List, ◌++◌, pos, Float}
use Rattle.std.specs.Float.{binary64}
use Rattle.std.specs.Float.Ieee.{to_bits, of_int, mul}
use Rattle.gsd_format.specs.declared.Entry.{Entry}
use Rattle.gsd_format.specs.Types.{size_of}
use Rattle.gsd_xdr.specs.Xdr.{be_bytes}
use Rattle.gsd_body.specs.Body.{body_of}

abbrev pub magic_number : ℕ
magic_number = 1062053

-- the frame's number as a double, times the step in seconds: one product, rounded once
abbrev pub time_of : ℕ → Float → Float
time_of frame step = mul binary64 (of_int binary64 (pos frame)) step

-- magic, time, N as its high and its low word, M, and the type, whose code is its number here
unfoldable pub head_of : Entry → Float → List ℕ
head_of e time =
    be_bytes 4 magic_number
    ++ be_bytes 8 (to_bits binary64 time)
    ++ be_bytes 4 (e.n / 2 ^ 32)
    ++ be_bytes 4 (e.n % 2 ^ 32)
    ++ be_bytes 4 e.m
    ++ be_bytes 4 e.kind

-- the file of an entry
abbrev pub file_of : List ℕ → Entry → Float → List ℕ
file_of img e step = head_of e (time_of e.frame step) ++ body_of e.kind img e.location e.m e.n

-- its bytes
abbrev pub file_length : Entry → ℕ
file_length e = 28 + (2 + e.n) * e.m * size_of e.kind
