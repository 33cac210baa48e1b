-- Laws of stores and of extents of words: what stands at each place after them, and where they lie.
use Prim.Native.Nat.{ℕ, zero, suc, ◌+◌, ◌*◌, ◌-◌, ◌/◌, ◌%◌, ◌≤◌, ◌<◌}
use mathlib.Core.Path.{◌≡◌, refl, sym, ◌∙◌, ap}
use mathlib.Core.Logic.{◌⊎◌, inl, inr}
use mathlib.Core.List.Memᴰ.{cast as member-cast}
use mathlib.Core.List.Memᴰ.{head as here}
use mathlib.Core.List.Memᴰ.{tail as there}
use mathlib.Core.List.{List, [], ◌∷◌, ◌++◌, Memᴰ as Member}
use native.Mathlib.Nat.{add-zero, zero-add, suc-add}
use native.Mathlib.Decide.{dec_lt}
use native.Mathlib.Omega.{arith}
use lib.ListN.{length, get_or, take, drop, take-append-drop, get_or-append}
use lib.Seq.{take-append-le, take-append-add, get_or-append-add, take_at, drop_at, take-suc}
use Rattle.gsd_format.specs.Bytes.{stored}
use Rattle.gsd_format.proofs.Bytes.{Same, same_head, stored-length, stored-below, stored-above, stored-inside}
use Rattle.gsd_format.proofs.Lists.{Each, each-so}
use Rattle.gsd_stores.specs.Stores.{Store, after, eight_of, words, up, down, slots_down}

-- The image after stores

pub after-append : (img : List ℕ) (xs ys : List Store) → after img (xs ++ ys) ≡ after (after img xs) ys
unfolding after
after-append img [] ys = refl
after-append img (x ∷ xs) ys = after-append (stored img x.place x.bytes) xs ys

pub after-length : (img : List ℕ) (xs : List Store) → length (after img xs) ≡ length img
unfolding after
after-length img [] = refl
after-length img (x ∷ xs) = after-length (stored img x.place x.bytes) xs ∙ stored-length img x.place x.bytes

-- the first k, then the others
pub after-rest : (img : List ℕ) (k : ℕ) (xs : List Store) → after (after img (take k xs)) (drop k xs) ≡ after img xs
after-rest img k xs = sym (after-append img (take k xs) (drop k xs)) ∙ ap (after img) (take-append-drop k xs)

-- one store more
pub after_next : (img : List ℕ) (k : ℕ) (xs : List Store) (d : Store) → k < length xs →
    after img (take (suc k) xs) ≡ stored (after img (take k xs)) (get_or xs k d).place (get_or xs k d).bytes
unfolding after
after_next img k xs d h = ap (after img) (take-suc xs k d h) ∙ after-append img (take k xs) (get_or xs k d ∷ [])

-- a moment of two lists in a row lies in the first or in the second
pub after_first : (img : List ℕ) (k : ℕ) (xs ys : List Store) → k ≤ length xs → after img (take k (xs ++ ys)) ≡ after img (take k xs)
after_first img k xs ys h = ap (after img) (take-append-le k xs ys h)

pub after-second : (img : List ℕ) (k : ℕ) (xs ys : List Store) → after img (take (length xs + k) (xs ++ ys)) ≡ after (after img xs) (take k ys)
after-second img k xs ys = ap (after img) (take-append-add xs ys k) ∙ after-append img xs (take k ys)

-- Words at a list of places

pub words_append : (t : List ℕ) (base : ℕ) (l r : List ℕ) → words t base (l ++ r) ≡ words t base l ++ words t base r
unfolding words
words_append t base [] r = refl
words_append t base (a ∷ l) r = ap {B = List Store} (λ xs. record { place = a; bytes = eight_of t (a - base) } ∷ xs) (words_append t base l r)

pub words-length : (t : List ℕ) (base : ℕ) (l : List ℕ) → length (words t base l) ≡ length l
unfolding words
words-length t base [] = refl
words-length t base (a ∷ l) = ap suc (words-length t base l)

pub words_take : (k : ℕ) (t : List ℕ) (base : ℕ) (l : List ℕ) → take k (words t base l) ≡ words t base (take k l)
unfolding words
words_take zero t base l = refl
words_take (suc k) t base [] = refl
words_take (suc k) t base (a ∷ l) = ap {B = List Store} (λ xs. record { place = a; bytes = eight_of t (a - base) } ∷ xs) (words_take k t base l)

pub words-drop : (k : ℕ) (t : List ℕ) (base : ℕ) (l : List ℕ) → drop k (words t base l) ≡ words t base (drop k l)
unfolding words
words-drop zero t base l = refl
words-drop (suc k) t base [] = refl
words-drop (suc k) t base (a ∷ l) = words-drop k t base l

pub words-at : (k : ℕ) (t : List ℕ) (base : ℕ) (l : List ℕ) (d : Store) (e : ℕ) → k < length l →
    get_or (words t base l) k d ≡ record { place = get_or l k e; bytes = eight_of t (get_or l k e - base) }
unfolding words
words-at k t base [] d e h = absurd (omega arith)
words-at zero t base (a ∷ l) d e h = refl
words-at (suc k) t base (a ∷ l) d e h = words-at k t base l d e (omega arith)

pub each-words : (P : Store → Type 0) (t : List ℕ) (base : ℕ) (l : List ℕ) →
    Each (λ a. P (record { place = a; bytes = eight_of t (a - base) })) l → Each P (words t base l)
unfolding words
each-words P t base [] e = tt
each-words P t base (a ∷ l) e = (e.0, each-words P t base l e.1)

pub eight-same : (t : List ℕ) (i : ℕ) (u : List ℕ) (j : ℕ) → Same t i u j 8 → eight_of t i ≡ eight_of u j
eight-same t i u j h =
    λ x.
    same_head t i u j 7 h x ∷ h 1 (omega arith) x ∷ h 2 (omega arith) x ∷ h 3 (omega arith) x
    ∷ h 4 (omega arith) x ∷ h 5 (omega arith) x ∷ h 6 (omega arith) x ∷ h 7 (omega arith) x ∷ []

-- words depend on the bytes that they read alone
pub words_same : (t : List ℕ) (b : ℕ) (u : List ℕ) (c : ℕ) (l : List ℕ) → Each (λ a. Same t (a - b) u (a - c) 8) l → words t b l ≡ words u c l
unfolding words
words_same t b u c [] e = refl
words_same t b u c (a ∷ l) e = λ x. record { place = a; bytes = eight-same t (a - b) u (a - c) e.0 x } ∷ words_same t b u c l e.1 x

-- Places

pub up-length : (lo n : ℕ) → length (up lo n) ≡ n
unfolding up
up-length lo zero = refl
up-length lo (suc n) = ap suc (up-length (lo + 8) n)

pub down-length : (lo n : ℕ) → length (down lo n) ≡ n
unfolding down
down-length lo zero = refl
down-length lo (suc n) = ap suc (down-length lo n)

pub slots_length : (lo n : ℕ) → length (slots_down lo n) ≡ 4 * n
unfolding slots_down
slots_length lo zero = refl
slots_length lo (suc n) = omega (arith, slots_length lo n)

pub up-append : (lo n m : ℕ) → up lo (n + m) ≡ up lo n ++ up (lo + 8 * n) m
unfolding up
up-append lo zero m = let e : 0 + m ≡ m = omega arith in let f : lo ≡ lo + 8 * 0 = omega arith in λ x. up (f x) (e x)
up-append lo (suc n) m = let e : lo + 8 + 8 * n ≡ lo + 8 * suc n = omega arith in rw (suc-add, up-append (lo + 8) n m, e)

pub down-append : (lo n m : ℕ) → down lo (n + m) ≡ down (lo + 8 * m) n ++ down lo m
unfolding down
down-append lo zero m = ap (down lo) (zero-add m)
down-append lo (suc n) m = let e : lo + 8 * (n + m) ≡ lo + 8 * m + 8 * n = omega arith in rw (suc-add, down-append lo n m, e)

pub slots-append : (lo n m : ℕ) → slots_down lo (n + m) ≡ slots_down (lo + 32 * m) n ++ slots_down lo m
unfolding slots_down
slots-append lo zero m = ap (slots_down lo) (zero-add m)
slots-append lo (suc n) m = let e : lo + 32 * (n + m) ≡ lo + 32 * m + 32 * n = omega arith in rw (suc-add, slots-append lo n m, e)

-- cut after k words, after k slots
pub up-cut : (k lo n : ℕ) → k ≤ n → up lo n ≡ up lo k ++ up (lo + 8 * k) (n - k)
up-cut k lo n h = ap (up lo) (omega arith) ∙ up-append lo k (n - k)

pub down-cut : (k lo n : ℕ) → k ≤ n → down lo n ≡ down (lo + 8 * (n - k)) k ++ down lo (n - k)
down-cut k lo n h = ap (down lo) (omega arith) ∙ down-append lo k (n - k)

pub slots-cut : (k lo n : ℕ) → k ≤ n → slots_down lo n ≡ slots_down (lo + 32 * (n - k)) k ++ slots_down lo (n - k)
slots-cut k lo n h = ap (slots_down lo) (omega arith) ∙ slots-append lo k (n - k)

pub take-up : (k lo n : ℕ) → k ≤ n → take k (up lo n) ≡ up lo k
take-up k lo n h = ap (take k) (up-cut k lo n h) ∙ take_at (up lo k) (up (lo + 8 * k) (n - k)) k (up-length lo k)

pub drop-up : (k lo n : ℕ) → k ≤ n → drop k (up lo n) ≡ up (lo + 8 * k) (n - k)
drop-up k lo n h = ap (drop k) (up-cut k lo n h) ∙ drop_at (up lo k) (up (lo + 8 * k) (n - k)) k (up-length lo k)

pub take-down : (k lo n : ℕ) → k ≤ n → take k (down lo n) ≡ down (lo + 8 * (n - k)) k
take-down k lo n h = ap (take k) (down-cut k lo n h) ∙ take_at (down (lo + 8 * (n - k)) k) (down lo (n - k)) k (down-length (lo + 8 * (n - k)) k)

pub drop-down : (k lo n : ℕ) → k ≤ n → drop k (down lo n) ≡ down lo (n - k)
drop-down k lo n h = ap (drop k) (down-cut k lo n h) ∙ drop_at (down (lo + 8 * (n - k)) k) (down lo (n - k)) k (down-length (lo + 8 * (n - k)) k)

pub take-slots : (k lo n : ℕ) → k ≤ n → take (4 * k) (slots_down lo n) ≡ slots_down (lo + 32 * (n - k)) k
take-slots k lo n h =
    ap (take (4 * k)) (slots-cut k lo n h) ∙ take_at (slots_down (lo + 32 * (n - k)) k) (slots_down lo (n - k)) (4 * k) (slots_length (lo + 32 * (n - k)) k)

pub drop-slots : (k lo n : ℕ) → k ≤ n → drop (4 * k) (slots_down lo n) ≡ slots_down lo (n - k)
drop-slots k lo n h =
    ap (drop (4 * k)) (slots-cut k lo n h) ∙ drop_at (slots_down (lo + 32 * (n - k)) k) (slots_down lo (n - k)) (4 * k) (slots_length (lo + 32 * (n - k)) k)

-- a is the place of one of the n words from lo
abbrev pub Word : ℕ → ℕ → ℕ → Type 0
Word lo n a = (k : ℕ) × (k < n) × (a ≡ lo + 8 * k)

-- Where they lie: the places are those of the n words from lo, each of them once and no other, in some order
pub record Fills (lo n : ℕ) (l : List ℕ) : Type 0 where
  pub size : length l ≡ n
  pub only : Each (Word lo n) l
  pub all : (k : ℕ) → k < n → Member (lo + 8 * k) l

-- words of fewer are words of more; words from the second on are words from the first on
more-words : (lo n m : ℕ) → n ≤ m → (l : List ℕ) → Each (Word lo n) l → Each (Word lo m) l
more-words lo n m h = each-so (Word lo n) (Word lo m) (λ a w. (w.0, omega arith, w.2))

next-words : (lo n : ℕ) (l : List ℕ) → Each (Word (lo + 8) n) l → Each (Word lo (suc n)) l
next-words lo n = each-so (Word (lo + 8) n) (Word lo (suc n)) (λ a w. (suc w.0, omega arith, omega arith))

pub up-fills : (lo n : ℕ) → Fills lo n (up lo n)
unfolding up
up-fills lo zero = record { size = refl; only = tt; all = λ k h. absurd (omega arith) }
up-fills lo (suc n) = go (up-fills (lo + 8) n)
  where
    go : Fills (lo + 8) n (up (lo + 8) n) → Fills lo (suc n) (lo ∷ up (lo + 8) n)
    go f = record {
      size = ap suc f.size;
      only = ((0, omega arith, omega arith), next-words lo n (up (lo + 8) n) f.only);
      all = elim [ zero ↦ λ h. here {x = lo} (omega arith) | suc k ↦ λ h. there (member-cast (omega arith) (f.all k (omega arith))) ];
    }

pub down-fills : (lo n : ℕ) → Fills lo n (down lo n)
unfolding down
down-fills lo zero = record { size = refl; only = tt; all = λ k h. absurd (omega arith) }
down-fills lo (suc n) = go (down-fills lo n)
  where
    go : Fills lo n (down lo n) → Fills lo (suc n) ((lo + 8 * n) ∷ down lo n)
    go f = record {
      size = ap suc f.size;
      only = ((n, omega arith, omega arith), more-words lo n (suc n) (omega arith) (down lo n) f.only);
      all = λ k h. elim (dec_lt k n) [ yes l ↦ there (f.all k l) | no l ↦ here {x = lo + 8 * n} (omega arith) ];
    }

pub slots-fills : (lo n : ℕ) → Fills lo (4 * n) (slots_down lo n)
unfolding slots_down
slots-fills lo zero = record { size = refl; only = tt; all = λ k h. absurd (omega arith) }
slots-fills lo (suc n) = go (slots-fills lo n)
  where
    slot : ℕ
    slot = lo + 32 * n

    places : List ℕ
    places = slot ∷ (slot + 8) ∷ (slot + 24) ∷ (slot + 16) ∷ slots_down lo n

    last : (j : ℕ) → j < 4 → Member (slot + 8 * j) places
    last zero h = here {x = slot} (omega arith)
    last (suc zero) h = there (here {x = slot + 8} (omega arith))
    last (suc (suc zero)) h = there (there (there (here {x = slot + 16} (omega arith))))
    last (suc (suc (suc zero))) h = there (there (here {x = slot + 24} (omega arith)))
    last (suc (suc (suc (suc j)))) h = absurd (omega arith)

    go : Fills lo (4 * n) (slots_down lo n) → Fills lo (4 * suc n) places
    go f = record {
      size = omega arith;
      only =
          let rest : Each (Word lo (4 * suc n)) ((slot + 16) ∷ slots_down lo n)
          = ((4 * n + 2, omega arith, omega arith), more-words lo (4 * n) (4 * suc n) (omega arith) (slots_down lo n) f.only) in
          ((4 * n, omega arith, omega arith), ((4 * n + 1, omega arith, omega arith), ((4 * n + 3, omega arith, omega arith), rest)));
      all = λ k h. elim (dec_lt k (4 * n)) [
        | yes l ↦ there (there (there (there (f.all k l))))
        | no l ↦ member-cast (omega arith) (last (k - 4 * n) (omega arith))
      ];
    }

-- so what holds at those words holds of all places, and of all stores there
pub fills-each : (P : ℕ → Type 0) {lo n : ℕ} {l : List ℕ} → Fills lo n l → ((k : ℕ) → k < n → P (lo + 8 * k)) → Each P l
fills-each P {lo} {n} {l} f h = each-so (Word lo n) P (λ a w. rw w.2 (h w.0 w.1)) l f.only

pub fills-stores : (P : Store → Type 0) {lo n : ℕ} {l : List ℕ} → Fills lo n l → (t : List ℕ) (base : ℕ) →
    ((k : ℕ) → k < n → P (record { place = lo + 8 * k; bytes = eight_of t (lo + 8 * k - base) })) → Each P (words t base l)
fills-stores P {l} f t base h = each-words P t base l (fills-each (λ a. P (record { place = a; bytes = eight_of t (a - base) })) f h)

pub fills-aligned : {lo n : ℕ} {l : List ℕ} → Fills lo n l → (t : List ℕ) (base : ℕ) → Each (λ s. s.place % 8 ≡ lo % 8) (words t base l)
fills-aligned {lo} f t base = fills-stores (λ s. s.place % 8 ≡ lo % 8) f t base (λ k h. omega arith)

-- What stands at each place afterwards: x is img, but from lo up to hi it is the text that starts at base
pub record Over (img t : List ℕ) (base lo hi : ℕ) (x : List ℕ) : Type 0 where
  pub long : length x ≡ length img
  pub inside : (p : ℕ) → lo ≤ p → p < hi → get_or x p 0 ≡ get_or t (p - base) 0
  pub below : (p : ℕ) → p < lo → get_or x p 0 ≡ get_or img p 0
  pub above : (p : ℕ) → hi ≤ p → get_or x p 0 ≡ get_or img p 0

-- p lies from lo up to hi, or it does not
pub between : (lo hi p : ℕ) → ((lo ≤ p) × (p < hi)) ⊎ (lo ≤ p → p < hi → ⊥)
between lo hi p = go (dec_lt p lo) (dec_lt p hi)
  where
    go : Dec (p < lo) → Dec (p < hi) → ((lo ≤ p) × (p < hi)) ⊎ (lo ≤ p → p < hi → ⊥)
    go (yes a) b = inr (λ c d. omega arith)
    go (no a) (yes b) = inl (omega arith, b)
    go (no a) (no b) = inr (λ c d. omega arith)

-- an extent changes nothing outside
pub over-off : {img t : List ℕ} {base lo hi : ℕ} {x : List ℕ} → Over img t base lo hi x → (p : ℕ) → (lo ≤ p → p < hi → ⊥) → get_or x p 0 ≡ get_or img p 0
over-off {lo} {hi} o p h = elim (dec_lt p lo) [
  | yes a ↦ o.below p a
  | no a ↦ o.above p (elim (dec_lt p hi) [ yes b ↦ absurd (h (omega arith) b) | no b ↦ omega arith ])
]

pub eight-at : (t : List ℕ) (i k : ℕ) → k < 8 → get_or (eight_of t i) k 0 ≡ get_or t (i + k) 0
eight-at t i zero h = ap (λ j. get_or t j 0) (sym (add-zero i))
eight-at t i (suc zero) h = refl
eight-at t i (suc (suc zero)) h = refl
eight-at t i (suc (suc (suc zero))) h = refl
eight-at t i (suc (suc (suc (suc zero)))) h = refl
eight-at t i (suc (suc (suc (suc (suc zero))))) h = refl
eight-at t i (suc (suc (suc (suc (suc (suc zero)))))) h = refl
eight-at t i (suc (suc (suc (suc (suc (suc (suc zero))))))) h = refl
eight-at t i (suc (suc (suc (suc (suc (suc (suc (suc k)))))))) h = absurd (omega arith)

pub word_over : (img t : List ℕ) (base a : ℕ) → base ≤ a → a + 8 ≤ length img → Over img t base a (a + 8) (stored img a (eight_of t (a - base)))
word_over img t base a b h = record {
  long = stored-length img a (eight_of t (a - base));
  inside = λ p l m.
      ap (λ i. get_or (stored img a (eight_of t (a - base))) i 0) (let e : p ≡ a + (p - a) = omega arith in e)
      ∙ stored-inside img a (eight_of t (a - base)) (p - a) h (omega arith)
      ∙ eight-at t (a - base) (p - a) (omega arith)
      ∙ ap (λ i. get_or t i 0) (let e : a - base + (p - a) ≡ p - base = omega arith in e);
  below = λ p l. stored-below img a (eight_of t (a - base)) p l;
  above = λ p l. stored-above img a (eight_of t (a - base)) p l;
}

-- the word at a does not hold p; no word of the places does
abbrev pub Misses : ℕ → ℕ → Type 0
Misses p a = a ≤ p → p < a + 8 → ⊥

abbrev pub Off : ℕ → List ℕ → Type 0
Off p l = Each (Misses p) l

-- all words lie behind base, in the first n bytes
abbrev pub Within : ℕ → ℕ → List ℕ → Type 0
Within base n l = Each (λ a. (base ≤ a) × (a + 8 ≤ n)) l

-- a store of a word that does not hold p
abbrev pub Missed : ℕ → Store → Type 0
Missed p s = (length s.bytes ≡ 8) × Misses p s.place

-- such stores leave it alone
pub after-off : (img : List ℕ) (p : ℕ) (xs : List Store) → Each (Missed p) xs → get_or (after img xs) p 0 ≡ get_or img p 0
unfolding after
after-off img p [] e = refl
after-off img p (s ∷ ss) e = after-off (stored img s.place s.bytes) p ss e.1 ∙ outside (dec_lt p s.place) (dec_lt p (s.place + 8))
  where
    outside : Dec (p < s.place) → Dec (p < s.place + 8) → get_or (stored img s.place s.bytes) p 0 ≡ get_or img p 0
    outside (yes b) c = stored-below img s.place s.bytes p b
    outside (no b) (yes c) = absurd (e.0.1 (omega arith) c)
    outside (no b) (no c) = stored-above img s.place s.bytes p (omega (arith, e.0.0))

pub words-missed : (t : List ℕ) (base p : ℕ) (l : List ℕ) → Off p l → Each (Missed p) (words t base l)
words-missed t base p l e = each-words (Missed p) t base l (each-so _ _ (λ a m. (refl, m)) l e)

pub words-off : (img t : List ℕ) (base p : ℕ) (l : List ℕ) → Off p l → get_or (after img (words t base l)) p 0 ≡ get_or img p 0
words-off img t base p l e = after-off img p (words t base l) (words-missed t base p l e)

-- a place that has the text's byte keeps it
pub words-keep : (img t : List ℕ) (base n p : ℕ) (l : List ℕ) → n ≤ length img → Within base n l → get_or img p 0 ≡ get_or t (p - base) 0 →
    get_or (after img (words t base l)) p 0 ≡ get_or t (p - base) 0
unfolding after words
words-keep img t base n p [] m e g = g
words-keep img t base n p (a ∷ l) m e g = words-keep x t base n p l (omega (arith, over.long)) e.1 (step (dec_lt p a) (dec_lt p (a + 8)))
  where
    x : List ℕ
    x = stored img a (eight_of t (a - base))

    over : Over img t base a (a + 8) x
    over = word_over img t base a e.0.0 (omega (arith, e.0.1))

    step : Dec (p < a) → Dec (p < a + 8) → get_or x p 0 ≡ get_or t (p - base) 0
    step (yes b) c = over.below p b ∙ g
    step (no b) (yes c) = over.inside p (omega arith) c
    step (no b) (no c) = over.above p (omega arith) ∙ g

-- a place in one of the words has it afterwards
pub words-on : (img t : List ℕ) (base n p : ℕ) (l : List ℕ) → n ≤ length img → Within base n l → {a : ℕ} → Member a l → a ≤ p → p < a + 8 →
    get_or (after img (words t base l)) p 0 ≡ get_or t (p - base) 0
unfolding after words
words-on img t base n p [] m e {a = a} x6 x y = elim x6 [ ]
words-on img t base n p (b ∷ l) m e (here q) x y =
    words-keep (stored img b (eight_of t (b - base))) t base n p l (omega (arith, stored-length img b (eight_of t (b - base)))) e.1
    ((word_over img t base b e.0.0 (omega (arith, e.0.1))).inside p (omega arith) (omega arith))
words-on img t base n p (b ∷ l) m e (there o) x y =
    words-on (stored img b (eight_of t (b - base))) t base n p l (omega (arith, stored-length img b (eight_of t (b - base)))) e.1 o x y

-- Extents: a whole stretch of words, in any order
module _ {lo n : ℕ} {l : List ℕ} (f : Fills lo n l) where
  pub fills-within : (base len : ℕ) → base ≤ lo → lo + 8 * n ≤ len → Within base len l
  fills-within base len b h = fills-each (λ a. (base ≤ a) × (a + 8 ≤ len)) f (λ k m. (omega arith, omega arith))

  pub fills-off : (p : ℕ) → (lo ≤ p → p < lo + 8 * n → ⊥) → Off p l
  fills-off p h = fills-each (Misses p) f (λ k m x y. h (omega arith) (omega arith))

  pub fills-over : (img t : List ℕ) (base : ℕ) → base ≤ lo → lo + 8 * n ≤ length img → Over img t base lo (lo + 8 * n) (after img (words t base l))
  fills-over img t base b h = record {
    long = after-length img (words t base l);
    inside = λ p x y.
        words-on img t base (length img) p l (omega arith) (fills-within base (length img) b h)
        (f.all ((p - lo) / 8) (omega arith)) (omega arith) (omega arith);
    below = λ p x. words-off img t base p l (fills-off p (λ c d. omega arith));
    above = λ p x. words-off img t base p l (fills-off p (λ c d. omega arith));
  }

  -- the words depend on the text's bytes there alone
  pub fills_same : (t : List ℕ) (b : ℕ) (u : List ℕ) (c : ℕ) → b ≤ lo → c ≤ lo →
      ((p : ℕ) → lo ≤ p → p < lo + 8 * n → get_or t (p - b) 0 ≡ get_or u (p - c) 0) → words t b l ≡ words u c l
  fills_same t b u c x y h =
      words_same t b u c l (fills-each (λ a. Same t (a - b) u (a - c) 8) f (λ k m j i.
      ap (λ q. get_or t q 0) (let e : lo + 8 * k - b + j ≡ lo + 8 * k + j - b = omega arith in e)
      ∙ h (lo + 8 * k + j) (omega arith) (omega arith)
      ∙ ap (λ q. get_or u q 0) (let e : lo + 8 * k + j - c ≡ lo + 8 * k - c + j = omega arith in e)))

pub up-over : (n : ℕ) (img t : List ℕ) (base lo : ℕ) → base ≤ lo → lo + 8 * n ≤ length img →
    Over img t base lo (lo + 8 * n) (after img (words t base (up lo n)))
up-over n img t base lo b h = fills-over (up-fills lo n) img t base b h

pub down-over : (n : ℕ) (img t : List ℕ) (base lo : ℕ) → base ≤ lo → lo + 8 * n ≤ length img →
    Over img t base lo (lo + 8 * n) (after img (words t base (down lo n)))
down-over n img t base lo b h = fills-over (down-fills lo n) img t base b h

pub slots-over : (n : ℕ) (img t : List ℕ) (base lo : ℕ) → base ≤ lo → lo + 32 * n ≤ length img →
    Over img t base lo (lo + 32 * n) (after img (words t base (slots_down lo n)))
slots-over n img t base lo b h =
    let e : lo + 8 * (4 * n) ≡ lo + 32 * n = omega arith in
    rw e at (fills-over (slots-fills lo n) img t base b (omega arith))

-- the words of two texts in a row are those of the first, then those of the second
pub words-split : (n m : ℕ) (d r : List ℕ) (pos : ℕ) → length d ≡ 8 * n →
    words (d ++ r) pos (up pos (n + m)) ≡ words d pos (up pos n) ++ words r (pos + length d) (up (pos + length d) m)
words-split n m d r pos h =
    ap (words (d ++ r) pos) (up-append pos n m)
    ∙ words_append (d ++ r) pos (up pos n) (up (pos + 8 * n) m)
    ∙ (λ x. first x ++ second x)
  where
    first : words (d ++ r) pos (up pos n) ≡ words d pos (up pos n)
    first = fills_same (up-fills pos n) (d ++ r) pos d pos (omega arith) (omega arith) (λ p a b. get_or-append d r 0 (p - pos) (omega arith))

    second : words (d ++ r) pos (up (pos + 8 * n) m) ≡ words r (pos + length d) (up (pos + length d) m)
    second =
        ap (λ a. words (d ++ r) pos (up a m)) (omega arith)
        ∙ fills_same (up-fills (pos + length d) m) (d ++ r) pos r (pos + length d) (omega arith) (omega arith) (λ p a b.
        ap (λ i. get_or (d ++ r) i 0) (let e : p - pos ≡ length d + (p - (pos + length d)) = omega arith in e)
        ∙ get_or-append-add d r (p - (pos + length d)) 0)

slot-front : (n lo p : ℕ) → lo + 16 ≤ p → p < lo + 24 → Off p ((lo + 32 * n) ∷ (lo + 32 * n + 8) ∷ (lo + 32 * n + 24) ∷ [])
slot-front n lo p a b = (λ x y. omega arith, (λ x y. omega arith, (λ x y. omega arith, tt)))

-- Until the last store of all, slots from the last to the first leave the first slot's location as it was
pub slots-gap : (n lo p k : ℕ) → lo + 16 ≤ p → p < lo + 24 → k < 4 * n → Off p (take k (slots_down lo n))
unfolding slots_down
slots-gap zero lo p k a b h = absurd (omega arith)
slots-gap (suc n) lo p zero a b h = tt
slots-gap (suc n) lo p (suc zero) a b h = ((slot-front n lo p a b).0, tt)
slots-gap (suc n) lo p (suc (suc zero)) a b h = ((slot-front n lo p a b).0, ((slot-front n lo p a b).1.0, tt))
slots-gap (suc n) lo p (suc (suc (suc zero))) a b h = slot-front n lo p a b
slots-gap (suc n) lo p (suc (suc (suc (suc k)))) a b h =
    let (x, (y, (z, u))) = slot-front n lo p a b in (x, (y, (z, (λ i j. omega arith, slots-gap n lo p k a b (omega arith)))))
