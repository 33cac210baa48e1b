-- The append sheet: a u32 count, 16 bytes for each row, then each row's name and data with nothing between; numbers 22 to 27 and 30.
use Rattle.std.specs.Prelude.{ℕ, zero, suc, ◌+◌, ◌*◌, ◌≡◌, List, [], ◌∷◌, map, Bool, false, not, ◌||◌, get_or, length, ltb, eqb}
use Rattle.gsd_format.specs.Bytes.{le, part, zero_in}
use Rattle.gsd_format.specs.Refusals.{◌⇒◌, ◌▹◌, one_of}
use Rattle.gsd_format.specs.Types.{size_of, known}
use Rattle.gsd_format.specs.Opening.{twins}
use Rattle.gsd_format.specs.Elements.{any_nan}

-- a row as requested: its name, N, M, type and data
pub record Row : Type 0 where
  pub name : List ℕ
  pub n : ℕ
  pub m : ℕ
  pub kind : ℕ
  pub body : List ℕ

-- the table begins behind the count, and a row of it has so many bytes
abbrev pub table_start : ℕ
table_start = 4

abbrev pub row_size : ℕ
row_size = 16

-- A row of the table lies at a place t: N at 0, M at 8, type at 12, name length at 13, two spare bytes at 14
abbrev pub row_n : List ℕ → ℕ → ℕ
row_n s t = le 8 s t

abbrev pub row_m : List ℕ → ℕ → ℕ
row_m s t = le 4 s (t + 8)

abbrev pub row_kind : List ℕ → ℕ → ℕ
row_kind s t = get_or s (t + 12) 0

abbrev pub name_size : List ℕ → ℕ → ℕ
name_size s t = get_or s (t + 13) 0

abbrev pub row_spare : List ℕ → ℕ → ℕ
row_spare s t = le 2 s (t + 14)

unfoldable pub body_size : List ℕ → ℕ → ℕ
body_size s t = row_n s t * row_m s t * size_of (row_kind s t)

-- is the row at t bad for an image of this version?
abbrev pub bad_row : ℕ → List ℕ → ℕ → Bool
bad_row version s t = not (known version (row_kind s t)) || eqb (name_size s t) 0 || not (eqb (row_spare s t) 0)

-- is one of the n rows from t bad?
unfoldable pub bad_table : ℕ → List ℕ → ℕ → ℕ → Bool
bad_table version s t zero = false
bad_table version s t (suc n) = bad_row version s t || bad_table version s (t + row_size) n

-- where the bodies of the n rows from t end, if the first of them begins at q
unfoldable pub bodies_end : List ℕ → ℕ → ℕ → ℕ → ℕ
bodies_end s t q zero = q
bodies_end s t q (suc n) = bodies_end s (t + row_size) (q + name_size s t + body_size s t) n

unfoldable pub rows_at : List ℕ → ℕ → ℕ → ℕ → List Row
rows_at s t q zero = []
rows_at s t q (suc n) =
    record { name = part s q (name_size s t); n = row_n s t; m = row_m s t; kind = row_kind s t; body = part s (q + name_size s t) (body_size s t) }
    ∷ rows_at s (t + row_size) (q + name_size s t + body_size s t) n

abbrev pub row_count : List ℕ → ℕ
row_count s = le 4 s 0

-- the end of the table, where the first body begins
abbrev pub table_end : List ℕ → ℕ
table_end s = table_start + row_size * row_count s

unfoldable pub rows_of : List ℕ → List Row
rows_of s = rows_at s table_start (table_end s) (row_count s)

-- the i-th row of a table that begins at t
abbrev pub row_place : ℕ → ℕ → ℕ
row_place t i = t + row_size * i

-- where the i-th name begins, if the table begins at t and the first name at q
unfoldable pub start_at : List ℕ → ℕ → ℕ → ℕ → ℕ
start_at s t q zero = q
start_at s t q (suc i) = start_at s t q i + name_size s (row_place t i) + body_size s (row_place t i)

-- where the i-th row of the table, its name and its data begin
abbrev pub row_at : ℕ → ℕ
row_at i = row_place table_start i

abbrev pub name_at : List ℕ → ℕ → ℕ
name_at s i = start_at s table_start (table_end s) i

abbrev pub body_at : List ℕ → ℕ → ℕ
body_at s i = name_at s i + name_size s (row_at i)

-- the data end where the sheet ends
abbrev pub Exact : List ℕ → Type 0
Exact s = length s ≡ name_at s (row_count s)

abbrev pub row_names : List Row → List (List ℕ)
row_names rs = map (λ r. r.name) rs

-- does one of the names hold a zero byte?
abbrev pub any_zero : List (List ℕ) → Bool
any_zero ns = one_of (λ n. zero_in n 0 (length n)) ns

-- the greatest number of rows
abbrev pub most_rows : ℕ
most_rows = 64

-- does a row hold a NaN among its N times M elements?
abbrev pub nan_row : Row → Bool
nan_row r = any_nan r.kind r.body 0 (r.n * r.m)

abbrev pub any_nan_row : List Row → Bool
any_nan_row rs = one_of nan_row rs

-- 22 to 27: the sheet's form, for an image of this version
unfoldable pub form_test : ℕ → List ℕ → ℕ
form_test version s =
    (ltb (length s) table_start || eqb (row_count s) 0 || ltb most_rows (row_count s) ⇒ 22)
    ▹ (ltb (length s) (table_end s) ⇒ 23)
    ▹ (bad_table version s table_start (row_count s) ⇒ 24)
    ▹ (not (eqb (length s) (bodies_end s table_start (table_end s) (row_count s))) ⇒ 25)
    ▹ (any_zero (row_names (rows_of s)) ⇒ 26)
    ▹ (twins (row_names (rows_of s)) ⇒ 27)

-- and 30: a value that is not a number
unfoldable pub sheet_test : ℕ → List ℕ → ℕ
sheet_test version s = form_test version s ▹ (any_nan_row (rows_of s) ⇒ 30)
