-- The listing as text: what the program prints for an input. Fields are parted by one space, each line ends in a newline.
use Rattle.std.specs.Prelude.{ℕ, zero, suc, ◌+◌, ◌/◌, ◌%◌, List, [], ◌∷◌, ◌++◌, true, false, length, ltb}
use Rattle.gsd_format.specs.declared.Entry.{Entry}
use Rattle.gsd_format.specs.Ascii.{ascii}
use Rattle.gsd_format.specs.Names.{names_of}
use Rattle.gsd_format.specs.Entries.{entries_of, frames_of}
use Rattle.gsd_format.specs.Opening.{verdict}

-- the decimal digits of n, with at most `most` of them
unfoldable pub digits : ℕ → ℕ → List ℕ
digits zero n = []
digits (suc most) n = elim (ltb n 10) [ true ↦ (48 + n) ∷ [] | false ↦ digits most (n / 10) ++ (48 + n % 10) ∷ [] ]

-- n in decimal: n has at most n + 1 digits
unfoldable pub decimal : ℕ → List ℕ
decimal n = digits (suc n) n

-- a line of numbers
unfoldable pub fields : List ℕ → List ℕ
fields [] = ascii "\n"
fields (n ∷ ns) = ascii " " ++ decimal n ++ fields ns

unfoldable pub entry_line : Entry → List ℕ
entry_line e = decimal e.frame ++ fields (e.id ∷ e.kind ∷ e.n ∷ e.m ∷ e.location ∷ [])

unfoldable pub entry_lines : List Entry → List ℕ
entry_lines [] = []
entry_lines (e ∷ es) = entry_line e ++ entry_lines es

unfoldable pub counts_line : ℕ → ℕ → ℕ → List ℕ
counts_line frames names entries =
    ascii "frames " ++ decimal frames ++ ascii " names " ++ decimal names ++ ascii " entries " ++ decimal entries ++ ascii "\n"

unfoldable pub listing : List ℕ → List ℕ
listing img = elim (verdict img) [
  | zero ↦ counts_line (frames_of (entries_of img)) (length (names_of img)) (length (entries_of img)) ++ entry_lines (entries_of img)
  | suc k ↦ ascii "refused" ++ fields (suc k ∷ [])
]

-- the longest input that the program lists
abbrev pub longest_input : ℕ
longest_input = 65536

unfoldable pub printed : List ℕ → List ℕ
printed input = elim (ltb longest_input (length input)) [ true ↦ ascii "too long\n" | false ↦ listing input ]
