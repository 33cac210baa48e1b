-- What any bytes say as a RawArray file: its numbers at their places, our type, N and M, and its data.
use Rattle.std.specs.Prelude.{ℕ, ◌+◌, ◌*◌, List, [], ◌∷◌, true, false, get_or, eqb}
use Rattle.gsd_format.specs.Bytes.{le, part}

-- the numbers that every file begins with, behind its magic
abbrev pub flags : List ℕ → ℕ
flags f = le 8 f 8

abbrev pub element_type : List ℕ → ℕ
element_type f = le 8 f 16

abbrev pub width : List ℕ → ℕ
width f = le 8 f 24

abbrev pub data_length : List ℕ → ℕ
data_length f = le 8 f 32

abbrev pub dimensions : List ℕ → ℕ
dimensions f = le 8 f 40

-- behind them the dimensions, and behind these the data
abbrev pub data_start : List ℕ → ℕ
data_start f = 48 + 8 * dimensions f

unfoldable pub raw_data : List ℕ → List ℕ
raw_data f = part f (data_start f) (data_length f)

-- N and M: one dimension is N by 1, of two the first is M
unfoldable pub raw_n : List ℕ → ℕ
raw_n f = elim (eqb (dimensions f) 1) [ true ↦ le 8 f 48 | false ↦ le 8 f 56 ]

unfoldable pub raw_m : List ℕ → ℕ
raw_m f = elim (eqb (dimensions f) 1) [ true ↦ 1 | false ↦ le 8 f 48 ]

-- our types by their width, for each of RawArray's types; 0 where we have none
unfoldable pub types_of : ℕ → List ℕ
types_of type = elim (eqb type 2) [
  | true ↦ 0 ∷ 1 ∷ 2 ∷ 0 ∷ 3 ∷ 0 ∷ 0 ∷ 0 ∷ 4 ∷ []
  | false ↦ elim (eqb type 1) [
    | true ↦ 0 ∷ 5 ∷ 6 ∷ 0 ∷ 7 ∷ 0 ∷ 0 ∷ 0 ∷ 8 ∷ []
    | false ↦ elim (eqb type 3) [ true ↦ 0 ∷ 0 ∷ 0 ∷ 0 ∷ 9 ∷ 0 ∷ 0 ∷ 0 ∷ 10 ∷ [] | false ↦ [] ]
  ]
]

abbrev pub kind_of : ℕ → ℕ → ℕ
kind_of type width = get_or (types_of type) width 0

abbrev pub raw_kind : List ℕ → ℕ
raw_kind f = kind_of (element_type f) (width f)
