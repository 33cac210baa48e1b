-- A store writes one 8-byte word. The stores of an append come in extents: the words of one text at a list of places.
use Rattle.std.specs.Prelude.{ℕ, zero, suc, ◌+◌, ◌*◌, ◌-◌, List, [], ◌∷◌, get_or}
use Rattle.gsd_format.specs.Bytes.{stored}
use Rattle.gsd_format.specs.Header.{slot_size}
use Rattle.gsd_format.specs.Entries.{n_place, location_place, m_place}

-- the bytes of a word
abbrev pub word_size : ℕ
word_size = 8

-- what no slice's length exceeds
abbrev pub half : ℕ
half = 9223372036854775808

pub record Store : Type 0 where
  pub place : ℕ
  pub bytes : List ℕ

-- the image after the stores, made one after the other
unfoldable pub after : List ℕ → List Store → List ℕ
after img [] = img
after img (s ∷ ss) = after (stored img s.place s.bytes) ss

-- the eight bytes of a text from i, zeros behind its end
abbrev pub eight_of : List ℕ → ℕ → List ℕ
eight_of t i =
    get_or t i 0 ∷ get_or t (i + 1) 0 ∷ get_or t (i + 2) 0 ∷ get_or t (i + 3) 0
    ∷ get_or t (i + 4) 0 ∷ get_or t (i + 5) 0 ∷ get_or t (i + 6) 0 ∷ get_or t (i + 7) 0 ∷ []

-- the words of a text that starts at base, at each of the places
unfoldable pub words : List ℕ → ℕ → List ℕ → List Store
words t base [] = []
words t base (a ∷ places) = record { place = a; bytes = eight_of t (a - base) } ∷ words t base places

-- the places of n words from lo upwards; the same words downwards
unfoldable pub up : ℕ → ℕ → List ℕ
up lo zero = []
up lo (suc n) = lo ∷ up (lo + word_size) n

unfoldable pub down : ℕ → ℕ → List ℕ
down lo zero = []
down lo (suc n) = (lo + word_size * n) ∷ down lo n

-- the places of n entries' words from lo: from the last slot to the first, in each its location last
unfoldable pub slots_down : ℕ → ℕ → List ℕ
slots_down lo zero = []
slots_down lo (suc n) =
    let slot : ℕ = lo + slot_size * n in
    slot ∷ (slot + n_place) ∷ (slot + m_place) ∷ (slot + location_place) ∷ slots_down lo n
