-- Bytes in a list: little-endian numbers, parts, comparison, and a store of some bytes in a row.
-- A byte behind the end of a list reads as 0, so every definition is total on any list.
use Rattle.std.specs.Prelude.{ℕ, zero, suc, ◌+◌, ◌*◌, ◌-◌, ◌/◌, ◌%◌, ◌≤◌, ◌<◌, max, min, List, [], ◌∷◌, Bool, true, false, get_or, set, take, drop, replicate, ltb, eqb}

-- the little-endian number of k bytes from place i
unfoldable pub le : ℕ → List ℕ → ℕ → ℕ
le zero s i = 0
le (suc k) s i = get_or s i 0 + 256 * le k s (i + 1)

-- the k bytes of a number, little-endian
unfoldable pub le_bytes : ℕ → ℕ → List ℕ
le_bytes zero w = []
le_bytes (suc k) w = w % 256 ∷ le_bytes k (w / 256)

-- the n bytes from place i
abbrev pub part : List ℕ → ℕ → ℕ → List ℕ
part s i n = take n (drop i s)

-- the same bytes?
unfoldable pub same : List ℕ → List ℕ → Bool
same [] [] = true
same [] (b ∷ t) = false
same (a ∷ s) [] = false
same (a ∷ s) (b ∷ t) = elim (eqb a b) [ true ↦ same s t | false ↦ false ]

-- is there a zero among the n bytes from place i?
unfoldable pub zero_in : List ℕ → ℕ → ℕ → Bool
zero_in s i zero = false
zero_in s i (suc n) = elim (eqb (get_or s i 0) 0) [ true ↦ true | false ↦ zero_in s (i + 1) n ]

abbrev pub zeros : ℕ → List ℕ
zeros n = replicate n 0

-- s with the bytes bs stored from place i on; what would lie behind its end is not stored
unfoldable pub stored : List ℕ → ℕ → List ℕ → List ℕ
stored s i [] = s
stored s i (b ∷ bs) = stored (set s i b) (i + 1) bs

-- n rounded up to a multiple of a
abbrev pub round_up : ℕ → ℕ → ℕ
round_up a n = (n + (a - 1)) / a * a

-- do the n bytes from a and the m bytes from b have one in common? No byte is in an empty stretch
abbrev pub meets : ℕ → ℕ → ℕ → ℕ → Bool
meets a n b m = ltb (max a b) (min (a + n) (b + m))

-- they don't: no byte lies in both
abbrev pub Apart : ℕ → ℕ → ℕ → ℕ → Type 0
Apart a n b m = (p : ℕ) → a ≤ p → p < a + n → b ≤ p → p < b + m → ⊥
