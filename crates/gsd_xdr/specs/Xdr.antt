-- XDR: numbers in big-endian, the highest byte first.
use Rattle.std.specs.Prelude.{ℕ, zero, suc, ◌+◌, ◌*◌, ◌/◌, ◌%◌, List, [], ◌∷◌, ◌++◌, get_or}
use Rattle.gsd_format.specs.Bytes.{le}

-- the big-endian number of k bytes from place i
unfoldable pub be : ℕ → List ℕ → ℕ → ℕ
be zero s i = 0
be (suc k) s i = 256 * be k s i + get_or s (i + k) 0

-- the k bytes of a number, big-endian
unfoldable pub be_bytes : ℕ → ℕ → List ℕ
be_bytes zero w = []
be_bytes (suc k) w = be_bytes k (w / 256) ++ (w % 256 ∷ [])

-- n numbers in a row, of k bytes each
unfoldable pub be_row : ℕ → (ℕ → ℕ) → ℕ → List ℕ
be_row k w zero = []
be_row k w (suc n) = be_row k w n ++ be_bytes k (w n)

-- the i-th of the little-endian numbers of k bytes that stand in s from a place on
abbrev pub numbers : ℕ → List ℕ → ℕ → ℕ → ℕ
numbers k s at i = le k s (at + i * k)
