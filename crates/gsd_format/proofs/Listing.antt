-- Laws of the listing's text: the equations of decimals, lines and the whole text, and how long a number's text can be.
use Prim.Native.Nat.{ℕ, zero, suc, ◌+◌, ◌*◌, ◌/◌, ◌%◌, ◌^◌, ◌≤◌, ◌<◌}
use mathlib.Core.Path.{◌≡◌, refl, sym, ◌∙◌, ap}
use mathlib.Core.List.{List, [], ◌∷◌, ◌++◌, append_assoc}
use native.Mathlib.Nat.{pow-suc}
use native.Mathlib.Numerals.{add-one}
use native.Mathlib.Decide.{dec_lt}
use native.Mathlib.Omega.{arith}
use lib.ListN.{length, get_or, set, drop, length-append, drop_of_length-le}
use lib.Seq.{drop-cons}
use borrow.Author.Tests.{lt-ltb, le-ltb}
use Rattle.gsd_format.specs.Bytes.{stored}
use Rattle.gsd_format.specs.Ascii.{ascii}
use Rattle.gsd_format.specs.declared.Entry.{Entry}
use Rattle.gsd_format.specs.Names.{names_of}
use Rattle.gsd_format.specs.Entries.{entries_of, frames_of}
use Rattle.gsd_format.specs.Opening.{verdict}
use Rattle.gsd_format.specs.Lookup.{none}
use Rattle.gsd_format.specs.Listing.{digits, decimal, fields, entry_line, entry_lines, counts_line, listing, longest_input, printed}
use Rattle.gsd_format.proofs.Lists.{Each}
use Rattle.gsd_format.proofs.Bytes.{stored-append}

digits-small : (fuel n : ℕ) → n < 10 → digits (suc fuel) n ≡ (48 + n) ∷ []
unfolding digits
digits-small fuel n h = rw (lt-ltb n 10 h, digits)

digits_more : (fuel n : ℕ) → 10 ≤ n → digits (suc fuel) n ≡ digits fuel (n / 10) ++ (48 + n % 10) ∷ []
unfolding digits
digits_more fuel n h = rw (le-ltb n 10 h, digits)

-- digits enough are enough
digits-enough : (a b n : ℕ) → n < a → n < b → digits a n ≡ digits b n
digits-enough zero b n h g = absurd (omega arith)
digits-enough (suc a) zero n h g = absurd (omega arith)
digits-enough (suc a) (suc b) n h g = go (digits-enough a b (n / 10)) (dec_lt n 10)
  where
    go : (n / 10 < a → n / 10 < b → digits a (n / 10) ≡ digits b (n / 10)) → Dec (n < 10) → digits (suc a) n ≡ digits (suc b) n
    go f (yes l) = digits-small a n l ∙ sym (digits-small b n l)
    go f (no l) = digits_more a n (omega arith) ∙ ap (λ s. s ++ (48 + n % 10) ∷ []) (f (omega arith) (omega arith)) ∙ sym (digits_more b n (omega arith))

pub decimal-small : (n : ℕ) → n < 10 → decimal n ≡ (48 + n) ∷ []
unfolding decimal
decimal-small n h = digits-small n n h

pub decimal-more : (n : ℕ) → 10 ≤ n → decimal n ≡ decimal (n / 10) ++ (48 + n % 10) ∷ []
unfolding decimal
decimal-more n h = digits_more n n h ∙ ap (λ s. s ++ (48 + n % 10) ∷ []) (digits-enough n (suc (n / 10)) (n / 10) (omega arith) (omega arith))

-- below 10 ^ k there are at most k digits
pub decimal-short : (k n : ℕ) → n < 10 ^ suc k → length (decimal n) ≤ suc k
decimal-short zero n h = rw (decimal-small n h) (omega arith)
decimal-short (suc k) n h = go (decimal-short k (n / 10)) (dec_lt n 10)
  where
    go : (n / 10 < 10 ^ suc k → length (decimal (n / 10)) ≤ suc k) → Dec (n < 10) → length (decimal n) ≤ suc (suc k)
    go f (yes l) = rw (decimal-small n l) (omega arith)
    go f (no l) =
        let g : length (decimal (n / 10)) ≤ suc k = f (omega (arith, pow-suc 10 (suc k))) in
        rw (decimal-more n (omega arith), length-append) (omega arith)

-- a number of 64 bits has at most 20 digits
pub decimal-long : (n : ℕ) → n < 2 ^ 64 → length (decimal n) ≤ 20
decimal-long n h = decimal-short 19 n (omega arith)

-- How many bytes a decimal takes, and what putting it into a buffer stores

pub small-length : (n : ℕ) → n < 10 → length (decimal n) ≡ 1
small-length n h = rw (decimal-small n h)

pub more-length : (n : ℕ) → 10 ≤ n → length (decimal n) ≡ length (decimal (n / 10)) + 1
more-length n h = rw (decimal-more n h) (length-append (decimal (n / 10)) ((48 + n % 10) ∷ []))

pub small-stored : (s : List ℕ) (i n : ℕ) → n < 10 → stored s i (decimal n) ≡ set s i (48 + n)
unfolding stored
small-stored s i n h = rw (decimal-small n h)

pub more-stored : (s : List ℕ) (i n : ℕ) → 10 ≤ n →
    stored s i (decimal n) ≡ set (stored s i (decimal (n / 10))) (i + length (decimal (n / 10))) (48 + n % 10)
unfolding stored
more-stored s i n h = rw (decimal-more n h) (stored-append s i (decimal (n / 10)) ((48 + n % 10) ∷ []))

-- A line's fields

pub fields-none : fields [] ≡ 10 ∷ []
unfolding fields ascii
fields-none = refl

pub fields-more : (n : ℕ) (ns : List ℕ) → fields (n ∷ ns) ≡ 32 ∷ (decimal n ++ fields ns)
unfolding fields ascii
fields-more n ns = refl

-- the i-th field and those behind it, put into a buffer
pub fields-stored : (s : List ℕ) (to : ℕ) (ns : List ℕ) (i : ℕ) → i < length ns →
    stored s to (fields (drop i ns))
    ≡ stored (stored (set s to 32) (to + 1) (decimal (get_or ns i 0))) (to + 1 + length (decimal (get_or ns i 0))) (fields (drop (i + 1) ns))
unfolding stored
fields-stored s to ns i h =
    rw (drop-cons ns i 0 h, fields-more, add-one i) (stored-append (set s to 32) (to + 1) (decimal (get_or ns i 0)) (fields (drop (suc i) ns)))

pub fields-length : (ns : List ℕ) (i : ℕ) → i < length ns →
    length (fields (drop i ns)) ≡ 1 + length (decimal (get_or ns i 0)) + length (fields (drop (i + 1) ns))
fields-length ns i h = rw (drop-cons ns i 0 h, fields-more, add-one i) (omega (arith, length-append (decimal (get_or ns i 0)) (fields (drop (suc i) ns))))

pub fields-last : (ns : List ℕ) (i : ℕ) → length ns ≤ i → fields (drop i ns) ≡ 10 ∷ []
fields-last ns i h = rw (drop_of_length-le ns h) fields-none

-- each number takes a space and at most 20 digits
pub fields-short : (ns : List ℕ) → Each (λ n. n < 2 ^ 64) ns → length (fields ns) ≤ 21 * length ns + 1
fields-short [] h = rw fields-none (omega arith)
fields-short (n ∷ ns) h =
    rw fields-more (omega (arith, length-append (decimal n) (fields ns), decimal-long n h.0, fields-short ns h.1))

-- The lines of the entries

pub lines_none : entry_lines [] ≡ []
unfolding entry_lines
lines_none = refl

lines_more : (e : Entry) (es : List Entry) → entry_lines (e ∷ es) ≡ entry_line e ++ entry_lines es
unfolding entry_lines
lines_more e es = refl

-- with the i-th entry's line put behind the text, the lines behind it are left
pub lines-put : (es : List Entry) (i : ℕ) → i < length es → (text line grown : List ℕ) → line ≡ entry_line (get_or es i none) → grown ≡ text ++ line →
    grown ++ entry_lines (drop (i + 1) es) ≡ text ++ entry_lines (drop i es)
lines-put es i h text line grown l g =
    let e : entry_lines (drop i es) ≡ entry_line (get_or es i none) ++ entry_lines (drop (i + 1) es) = rw (drop-cons es i none h, lines_more, add-one i) in
    rw (g, l, e) (append_assoc text (entry_line (get_or es i none)) (entry_lines (drop (i + 1) es)))

pub lines-last : (es : List Entry) (i : ℕ) → length es ≤ i → entry_lines (drop i es) ≡ []
lines-last es i h = rw (drop_of_length-le es h) lines_none

-- What is printed

pub listing-open : (img : List ℕ) → verdict img ≡ 0 →
    listing img ≡ counts_line (frames_of (entries_of img)) (length (names_of img)) (length (entries_of img)) ++ entry_lines (entries_of img)
unfolding listing
listing-open img e = rw (e, listing)

pub listing-refused : (img : List ℕ) (k : ℕ) → verdict img ≡ suc k → listing img ≡ ascii "refused" ++ fields (suc k ∷ [])
unfolding listing
listing-refused img k e = rw (e, listing)

pub printed-short : (input : List ℕ) → length input ≤ longest_input → printed input ≡ listing input
unfolding printed
printed-short input h = rw (le-ltb longest_input (length input) h, printed)

pub printed-long : (input : List ℕ) → longest_input < length input → printed input ≡ ascii "too long\n"
unfolding printed
printed-long input h = rw (lt-ltb longest_input (length input) h, printed)
