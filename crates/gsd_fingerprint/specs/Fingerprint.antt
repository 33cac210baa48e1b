-- The fingerprint of a text: 32 bits, the same for the same bytes. That other bytes seldom share it was tried, and no proof needs it.
use Rattle.std.specs.Prelude.{ℕ, zero, suc, ◌+◌, ◌*◌, ◌-◌, ◌/◌, ◌%◌, List, true, false, leb, length, get_or}
use Rattle.std.specs.Int.Bits.{bit_xor}
use Rattle.gsd_format.specs.Bytes.{le}

-- the two halves of 64 bits, each times a prime (near 2^32 over the golden ratio, and over e). The primes' sum is below 2^32, so
-- the sum of the products is below 2^64. Were the upper half added as it is, a byte there and one four places on would undo each other
unfoldable pub stirred : ℕ → ℕ
stirred x = 2654435761 * (x % 4294967296) + 1580030131 * (x / 4294967296)

-- the state h after the word w
unfoldable pub mixed : ℕ → ℕ → ℕ
mixed h w = stirred (bit_xor h w)

-- the state h after n words, of which the first lies at `at` and each next one `far` bytes behind
unfoldable pub lane : ℕ → List ℕ → ℕ → ℕ → ℕ → ℕ
lane far s at zero h = h
lane far s at (suc n) h = lane far s (at + far) n (mixed h (le 8 s at))

-- n blocks of four words: a lane for the first words, one for the second, and so on; then the four ends as words
unfoldable pub blocks : List ℕ → ℕ → ℕ
blocks s n = mixed (mixed (mixed (mixed 0 (lane 32 s 0 n 0)) (lane 32 s 8 n 0)) (lane 32 s 16 n 0)) (lane 32 s 24 n 0)

-- the last eight bytes of a text; a shorter one's first four and last four, or its first, middle and last byte
unfoldable pub ending : List ℕ → ℕ
ending s =
    elim (leb 8 (length s)) [
      | true ↦ le 8 s (length s - 8)
      | false ↦
          elim (leb 4 (length s)) [
            | true ↦ le 4 s 0 + 4294967296 * le 4 s (length s - 4)
            | false ↦
                get_or s 0 0 + 256 * get_or s (length s / 2) 0 + 65536 * get_or s (length s - 1) 0
          ]
    ]

-- the halves of a state as one
unfoldable pub folded : ℕ → ℕ
folded x = bit_xor (x % 4294967296) (x / 4294967296)

-- whole blocks, the length, the words behind the blocks, and the ending, which covers what is left
unfoldable pub fingerprint : List ℕ → ℕ
fingerprint s =
    folded (mixed
    (lane 8 s (32 * (length s / 32)) (length s % 32 / 8) (mixed (blocks s (length s / 32)) (length s)))
    (ending s))
