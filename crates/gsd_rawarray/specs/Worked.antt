-- Worked cases, proved: files of a few bytes, what they are refused for, what they say, and the sheets made of them.
use Rattle.std.specs.Prelude.{ℕ, ◌^◌, List, [], ◌∷◌, ◌++◌, replicate}
use Prim.Native.String.{String}
use Rattle.gsd_format.specs.declared.Entry.{Entry}
use Rattle.gsd_format.specs.Bytes.{le_bytes, zeros}
use Rattle.gsd_format.specs.Ascii.{ascii}
use Rattle.gsd_format.specs.Cases.{Case}
use Rattle.gsd_rawarray.specs.File.{raw_file}
use Rattle.gsd_rawarray.specs.Requests.{raw_test, read_test, read_sheet}

-- an entry whose chunk is at the start of the bytes
abbrev entry : ℕ → ℕ → ℕ → Entry
entry kind n m = record { frame = 0; n = n; location = 0; m = m; id = 0; kind = kind; flags = 0 }

-- the front of a file that passes 71 and 72: type, width, data length and how many dimensions
unfoldable pub front : ℕ → ℕ → ℕ → ℕ → List ℕ
front type width size dims = ascii "rawarray" ++ le_bytes 8 0 ++ le_bytes 8 type ++ le_bytes 8 width ++ le_bytes 8 size ++ le_bytes 8 dims

-- with one dimension, with two
unfoldable pub line : ℕ → ℕ → ℕ → ℕ → List ℕ
line type width size n = front type width size 1 ++ le_bytes 8 n

unfoldable pub table : ℕ → ℕ → ℕ → ℕ → ℕ → List ℕ
table type width size first second = front type width size 2 ++ le_bytes 8 first ++ le_bytes 8 second

-- two rows of three signed numbers of two bytes
unfoldable pub six_numbers : List ℕ
six_numbers = 1 ∷ 0 ∷ 2 ∷ 0 ∷ 3 ∷ 0 ∷ 0xff ∷ 0xff ∷ 0xfe ∷ 0xff ∷ 0xfd ∷ 0xff ∷ []

-- a file that is refused
abbrev refused : String → List ℕ → ℕ → Case
refused says file number = record { says = says; got = raw_test file ∷ []; expected = number ∷ [] }

-- a file, a name and the length of a slice
abbrev numbered : String → List ℕ → List ℕ → ℕ → ℕ → Case
numbered says file name room number = record { says = says; got = read_test file name room ∷ []; expected = number ∷ [] }

unfoldable pub written : List Case
written =
    record {
      says = "i16, N 2, M 3: M before N";
      got = raw_file six_numbers (entry 6 2 3);
      expected =
          0x72 ∷ 0x61 ∷ 0x77 ∷ 0x61 ∷ 0x72 ∷ 0x72 ∷ 0x61 ∷ 0x79 ∷ 0 ∷ 0 ∷ 0 ∷ 0 ∷ 0 ∷ 0 ∷ 0 ∷ 0
          ∷ 1 ∷ 0 ∷ 0 ∷ 0 ∷ 0 ∷ 0 ∷ 0 ∷ 0 ∷ 2 ∷ 0 ∷ 0 ∷ 0 ∷ 0 ∷ 0 ∷ 0 ∷ 0
          ∷ 12 ∷ 0 ∷ 0 ∷ 0 ∷ 0 ∷ 0 ∷ 0 ∷ 0 ∷ 2 ∷ 0 ∷ 0 ∷ 0 ∷ 0 ∷ 0 ∷ 0 ∷ 0
          ∷ 3 ∷ 0 ∷ 0 ∷ 0 ∷ 0 ∷ 0 ∷ 0 ∷ 0 ∷ 2 ∷ 0 ∷ 0 ∷ 0 ∷ 0 ∷ 0 ∷ 0 ∷ 0
          ∷ 1 ∷ 0 ∷ 2 ∷ 0 ∷ 3 ∷ 0 ∷ 0xff ∷ 0xff ∷ 0xfe ∷ 0xff ∷ 0xfd ∷ 0xff ∷ [];
    }
    ∷ record {
      says = "two characters are unsigned";
      got = raw_file (0x6f ∷ 0x6b ∷ []) (entry 11 2 1);
      expected = table 2 1 2 1 2 ++ 0x6f ∷ 0x6b ∷ [];
    }
    ∷ record {
      says = "a double is a float of 8 bytes";
      got = raw_file (zeros 8) (entry 10 1 1);
      expected = table 3 8 8 1 1 ++ zeros 8;
    }
    ∷ record {
      says = "M 0 and the greatest N: an honest empty chunk";
      got = raw_file [] (entry 4 18446744073709551615 0);
      expected = table 2 8 0 0 18446744073709551615;
    }
    ∷ []

unfoldable pub read : List Case
read =
    refused "47 bytes: 70" (zeros 47) 70
    ∷ refused "48 zeros: 71" (zeros 48) 71
    ∷ refused "flags in a file with another magic: 71" (ascii "raw_array" ++ le_bytes 8 1 ++ zeros 32) 71
    ∷ refused "flags: 72, before the type" (ascii "rawarray" ++ le_bytes 8 (2 ^ 56) ++ zeros 32) 72
    ∷ refused "structures: 73, before the dimensions" (front 0 80 0 3) 73
    ∷ refused "complex floats: 73" (line 4 8 8 1 ++ zeros 8) 73
    ∷ refused "brain floats: 73" (line 5 4 4 1 ++ zeros 4) 73
    ∷ refused "unsigned numbers of 0 bytes: 73" (line 2 0 0 1) 73
    ∷ refused "of 3 bytes: 73" (line 2 3 3 1 ++ zeros 3) 73
    ∷ refused "signed ones of 16: 73" (line 1 16 16 1 ++ zeros 16) 73
    ∷ refused "floats of 2 bytes: 73" (line 3 2 2 1 ++ zeros 2) 73
    ∷ refused "floats of 1 byte: 73" (line 3 1 1 1 ++ zeros 1) 73
    ∷ refused "no dimension: 74" (front 2 1 0 0 ++ zeros 16) 74
    ∷ refused "three: 74" (front 2 1 0 3 ++ zeros 24) 74
    ∷ refused "48 bytes and one dimension: 74" (front 2 1 0 1) 74
    ∷ refused "55 bytes and one dimension: 74" (front 2 1 0 1 ++ zeros 7) 74
    ∷ refused "63 bytes and two: 74" (front 2 1 0 2 ++ zeros 15) 74
    ∷ refused "2^32 by 2^32 and no data: 75, for no product wraps" (table 2 1 0 4294967296 4294967296) 75
    ∷ refused "data longer than the dimensions: 75" (line 2 1 2 1 ++ zeros 2) 75
    ∷ refused "data beyond the file: 75" (line 2 1 2 2 ++ zeros 1) 75
    ∷ refused "the greatest data length: 75" (line 2 1 18446744073709551615 18446744073709551615 ++ zeros 1) 75
    ∷ refused "M 2^32 and N 0: 76" (table 2 1 0 4294967296 0) 76
    ∷ refused "the greatest M and N 0" (table 2 1 0 4294967295 0) 0
    ∷ refused "M 0 and the greatest N" (table 1 8 0 0 18446744073709551615) 0
    ∷ refused "56 bytes, one dimension, N 0" (line 3 8 0 0) 0
    ∷ refused "63 bytes, seven of u8" (line 2 1 7 7 ++ zeros 7) 0
    ∷ numbered "a bad file with a bad name: 70" [] [] 0 70
    ∷ numbered "no name: 78" (line 2 1 1 1 ++ zeros 1) [] 21 78
    ∷ numbered "a name with a zero, and another length: 78" (line 2 1 1 1 ++ zeros 1) (0x61 ∷ 0 ∷ []) 0 78
    ∷ numbered "a name of 256 bytes: 78" (line 2 1 1 1 ++ zeros 1) (replicate 256 0x61) 277 78
    ∷ numbered "a byte short: 79" (line 2 1 1 1 ++ zeros 1) (ascii "a") 21 79
    ∷ numbered "a byte long: 79" (line 2 1 1 1 ++ zeros 1) (ascii "a") 23 79
    ∷ record {
      says = "three floats behind one dimension are N 3, M 1, and what follows them is ignored";
      got = read_sheet (line 3 4 12 3 ++ six_numbers ++ ascii "made at night") (ascii "probe") (zeros 37);
      expected =
          1 ∷ 0 ∷ 0 ∷ 0 ∷ 3 ∷ 0 ∷ 0 ∷ 0 ∷ 0 ∷ 0 ∷ 0 ∷ 0 ∷ 1 ∷ 0 ∷ 0 ∷ 0 ∷ 9 ∷ 5 ∷ 0 ∷ 0 ∷ 0x70 ∷ 0x72 ∷ 0x6f ∷ 0x62 ∷ 0x65
          ∷ 1 ∷ 0 ∷ 2 ∷ 0 ∷ 3 ∷ 0 ∷ 0xff ∷ 0xff ∷ 0xfe ∷ 0xff ∷ 0xfd ∷ 0xff ∷ [];
    }
    ∷ record {
      says = "dimensions 3 and 2 are M 3, N 2";
      got = read_sheet (raw_file six_numbers (entry 6 2 3)) (ascii "f") (zeros 33);
      expected =
          1 ∷ 0 ∷ 0 ∷ 0 ∷ 2 ∷ 0 ∷ 0 ∷ 0 ∷ 0 ∷ 0 ∷ 0 ∷ 0 ∷ 3 ∷ 0 ∷ 0 ∷ 0 ∷ 6 ∷ 1 ∷ 0 ∷ 0 ∷ 0x66
          ∷ 1 ∷ 0 ∷ 2 ∷ 0 ∷ 3 ∷ 0 ∷ 0xff ∷ 0xff ∷ 0xfe ∷ 0xff ∷ 0xfd ∷ 0xff ∷ [];
    }
    ∷ record {
      says = "a refusal leaves the slice";
      got = read_sheet (line 2 1 1 1 ++ zeros 1) (ascii "a") (7 ∷ 7 ∷ []);
      expected = 7 ∷ 7 ∷ [];
    }
    ∷ []
