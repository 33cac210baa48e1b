-- The stores that one extent makes are the words of a text at the extent's places.
use Prim.Native.Nat.{ℕ, zero, suc, ◌+◌, ◌*◌, ◌-◌, ◌/◌, ◌≤◌, ◌<◌}
use mathlib.Core.Path.{◌≡◌, refl, sym, ◌∙◌, ap}
use mathlib.Core.Logic.{◌⊎◌, inl, inr}
use mathlib.Core.List.{List, [], ◌∷◌, append-nil}
use native.Mathlib.Nat.{add-zero}
use native.Mathlib.Decide.{ℕ_discrete, dec_lt}
use native.Mathlib.Omega.{arith}
use lib.ListN.{length, get_or, set, take, length-set}
use lib.Seq.{ext_get_or, get_or-set_same, get_or-set_other, set_out}
use Rattle.gsd_format.specs.Bytes.{le, le_bytes, part, stored}
use Rattle.gsd_format.proofs.Bytes.{Octets, le_same, le_bytes-length, stored-length, stored-below}
use Rattle.gsd_stores.specs.Stores.{eight_of, words, up, down}
use Rattle.gsd_stores.proofs.Stores.{eight-at}
use Rattle.gsd_extents.specs.declared.extent.Extent.{Extent}
use Rattle.gsd_extents.specs.Exec.{place_of, over, word_of, applied, tasks_from, tasks, stores_of}
use Rattle.gsd_extents.specs.declared.extent.Kind.{Kind}
use Rattle.gsd_extents.specs.Extents.{number, row_data, name, copied}
use Rattle.gsd_extents.proofs.Words.{cut-before, cut-behind, place-name, place_other, source_name, source-other}
use Rattle.gsd_extents.proofs.Words.{text-image, text-sheet, text-name, word_number, word_read}

-- A number's eight bytes are those that it was read from

bytes_back : (n : ℕ) (t : List ℕ) (i k : ℕ) → Octets t → k < n → get_or (le_bytes n (le n t i)) k 0 ≡ get_or t (i + k) 0
unfolding le le_bytes
bytes_back zero t i k o l = absurd (omega arith)
bytes_back (suc n) t i zero o l = rw add-zero (omega (arith, o i))
bytes_back (suc n) t i (suc k) o l =
    let rest : (get_or t i 0 + 256 * le n t (i + 1)) / 256 ≡ le n t (i + 1) = omega (arith, o i) in
    ap (λ w. get_or (le_bytes n w) k 0) rest ∙ bytes_back n t (i + 1) k o (omega arith) ∙ ap (λ j. get_or t j 0) (let e : i + 1 + k ≡ i + suc k = omega arith in e)

pub eight-back : (t : List ℕ) (i : ℕ) → Octets t → le_bytes 8 (le 8 t i) ≡ eight_of t i
eight-back t i o =
    ext_get_or 0 (le_bytes 8 (le 8 t i)) (eight_of t i) (le_bytes-length 8 (le 8 t i))
    (λ k l. let m : k < 8 = omega (arith, le_bytes-length 8 (le 8 t i)) in bytes_back 8 t i k o m ∙ sym (eight-at t i k m))

-- The places of an extent, from word w on

unfoldable places_from : Extent → ℕ → ℕ → List ℕ
places_from x w zero = []
places_from x w (suc n) = place_of x w ∷ places_from x (suc w) n

places-up : (x : Extent) (n w : ℕ) → (x.kind ≡ Kind.Name → ⊥) → places_from x w n ≡ up (x.to + 8 * w) n
unfolding places_from up
places-up x zero w h = refl
places-up x (suc n) w h =
    let e : place_of x w ≡ x.to + 8 * w = place_other x w h in
    let f : places_from x (suc w) n ≡ up (x.to + 8 * w + 8) n = places-up x n (suc w) h ∙ ap (λ a. up a n) (omega arith) in
    λ i. e i ∷ f i

places-down : (x : Extent) (n w : ℕ) → x.kind ≡ Kind.Name → w + n ≡ x.words → places_from x w n ≡ down x.to n
unfolding places_from down
places-down x zero w h l = refl
places-down x (suc n) w h l =
    let e : place_of x w ≡ x.to + 8 * n = place-name x w h ∙ omega arith in
    let f : places_from x (suc w) n ≡ down x.to n = places-down x n (suc w) h (omega arith) in
    λ i. e i ∷ f i

-- An extent whose own stores change no word that it has yet to read, and whose words, read before the first store, are a text's

module _ (sheet : List ℕ) (x : Extent) (t : List ℕ) (base : ℕ) (o : Octets t)
    (own : (img : List ℕ) (w k : ℕ) → w < k → k < x.words → word_of sheet (applied sheet img x w) x k ≡ word_of sheet img x k) where
  stores-from : (n w : ℕ) (img : List ℕ) → w + n ≡ x.words →
      ((k : ℕ) → w ≤ k → k < x.words → word_of sheet img x k ≡ le 8 t (place_of x k - base)) →
      stores_of sheet img (tasks_from x w n) ≡ words t base (places_from x w n)
  unfolding stores_of tasks_from words places_from
  stores-from zero w img l reads = refl
  stores-from (suc n) w img l reads =
      let e : le_bytes 8 (word_of sheet img x w) ≡ eight_of t (place_of x w - base)
      = ap (le_bytes 8) (reads w (omega arith) (omega arith)) ∙ eight-back t (place_of x w - base) o in
      let f : stores_of sheet (applied sheet img x w) (tasks_from x (suc w) n) ≡ words t base (places_from x (suc w) n)
      = stores-from n (suc w) (applied sheet img x w) (omega arith) (λ k a b. own img w k (omega arith) b ∙ reads k (omega arith) b) in
      λ i. record { place = place_of x w; bytes = e i } ∷ f i

  extent-stores : (img : List ℕ) → ((k : ℕ) → k < x.words → word_of sheet img x k ≡ le 8 t (place_of x k - base)) →
      stores_of sheet img (tasks (x ∷ [])) ≡ words t base (places_from x 0 x.words)
  unfolding tasks
  extent-stores img reads = ap (stores_of sheet img) (append-nil (tasks_from x 0 x.words)) ∙ stores-from x.words 0 img (omega arith) (λ k a b. reads k b)

  -- with its words upwards
  extent-up : (img : List ℕ) → (x.kind ≡ Kind.Name → ⊥) → ((k : ℕ) → k < x.words → word_of sheet img x k ≡ le 8 t (x.to + 8 * k - base)) →
      stores_of sheet img (tasks (x ∷ [])) ≡ words t base (up x.to x.words)
  extent-up img h reads =
      extent-stores img (λ k l. reads k l ∙ ap (λ a. le 8 t (a - base)) (sym (place_other x k h)))
      ∙ ap (words t base) (places-up x x.words 0 h ∙ ap (λ a. up a x.words) (omega arith))

-- What a store leaves as it was

-- a text that is cut off before it
cut-kept : (s : List ℕ) (a : ℕ) (bs : List ℕ) (until p : ℕ) → until ≤ a → get_or (take until (stored s a bs)) p 0 ≡ get_or (take until s) p 0
cut-kept s a bs until p h = go (dec_lt p until)
  where
    go : Dec (p < until) → get_or (take until (stored s a bs)) p 0 ≡ get_or (take until s) p 0
    go (yes l) = cut-before (stored s a bs) until p l ∙ stored-below s a bs p (omega arith) ∙ sym (cut-before s until p l)
    go (no l) = cut-behind (stored s a bs) until p (omega arith) ∙ sym (cut-behind s until p (omega arith))

-- a byte before it, also with a part of the sheet laid over the image: it depends on the image's length and on its own byte there
set_same : (y s : List ℕ) (i b p : ℕ) → length y ≡ length s → get_or y p 0 ≡ get_or s p 0 → get_or (set y i b) p 0 ≡ get_or (set s i b) p 0
set_same y s i b p l h = go (ℕ_discrete p i) (dec_lt i (length s))
  where
    go : Dec (p ≡ i) → Dec (i < length s) → get_or (set y i b) p 0 ≡ get_or (set s i b) p 0
    go (yes e) (yes m) = rw e (get_or-set_same y i b 0 (omega arith) ∙ sym (get_or-set_same s i b 0 m))
    go (yes e) (no m) = rw (set_out y i b (omega arith), set_out s i b (omega arith)) h
    go (no n) m = get_or-set_other y i p b 0 n ∙ h ∙ sym (get_or-set_other s i p b 0 n)

stored_same : (bs y s : List ℕ) (i p : ℕ) → length y ≡ length s → get_or y p 0 ≡ get_or s p 0 → get_or (stored y i bs) p 0 ≡ get_or (stored s i bs) p 0
unfolding stored
stored_same [] y s i p l h = h
stored_same (b ∷ bs) y s i p l h = stored_same bs (set y i b) (set s i b) (i + 1) p (simp length-set l) (set_same y s i b p l h)

over-kept : (s : List ℕ) (a : ℕ) (bs : List ℕ) (at : ℕ) (ds : List ℕ) (p : ℕ) → p < a → get_or (stored (stored s a bs) at ds) p 0 ≡ get_or (stored s at ds) p 0
over-kept s a bs at ds p h = stored_same ds (stored s a bs) s at p (stored-length s a bs) (stored-below s a bs p h)

-- Kind by kind

module _ (sheet : List ℕ) (t : List ℕ) (base : ℕ) (o : Octets t) where
  pub number-stores : (to n v : ℕ) (img : List ℕ) → ((k : ℕ) → k < n → v ≡ le 8 t (to + 8 * k - base)) →
      stores_of sheet img (tasks (number to n v ∷ [])) ≡ words t base (up to n)
  number-stores to n v img h =
      let x : Extent = number to n v in
      extent-up sheet x t base o (λ y w k a b. word_number sheet (applied sheet y x w) x k refl ∙ sym (word_number sheet y x k refl))
      img (λ e. cc) (λ k l. word_number sheet img x k refl ∙ h k l)

  -- a text that is cut off stands at the extent's places
  abbrev pub Cut : List ℕ → ℕ → ℕ → ℕ → ℕ → Type 0
  Cut s until from to n = (k : ℕ) → k < 8 * n → get_or (take until s) (from + k) 0 ≡ get_or t (to + k - base) 0

  cut_word : (s : List ℕ) (until from to n k : ℕ) → base ≤ to → Cut s until from to n → k < n → le 8 (take until s) (from + 8 * k) ≡ le 8 t (to + 8 * k - base)
  cut_word s until from to n k b h l =
      le_same 8 (take until s) (from + 8 * k) t (to + 8 * k - base) (λ j m.
      ap (λ p. get_or (take until s) p 0) (let e : from + 8 * k + j ≡ from + (8 * k + j) = omega arith in e)
      ∙ h (8 * k + j) (omega arith)
      ∙ ap (λ p. get_or t p 0) (let e : to + (8 * k + j) - base ≡ to + 8 * k - base + j = omega arith in e))

  pub data-stores : (to from until : ℕ) (img : List ℕ) → base ≤ to → Cut sheet until from to ((until - from + 7) / 8) →
      stores_of sheet img (tasks (row_data to from until ∷ [])) ≡ words t base (up to ((until - from + 7) / 8))
  data-stores to from until img b h =
      let x : Extent = row_data to from until in
      let reads : ((y : List ℕ) (k : ℕ) → word_of sheet y x k ≡ le 8 (take until sheet) (from + 8 * k)) = λ y k.
      word_read sheet y x k (λ e. cc) ∙ (λ i. le 8 (text-sheet sheet y x refl i) (source-other x k (λ e. cc) i)) in
      extent-up sheet x t base o (λ y w k a c. reads (applied sheet y x w) k ∙ sym (reads y k))
      img (λ e. cc) (λ k l. reads img k ∙ cut_word sheet until from to _ k b h l)

  -- the source ends before the place where the extent begins, or there is one word
  pub copied-stores : (to n from until : ℕ) (img : List ℕ) → base ≤ to → (until ≤ to) ⊎ (n ≤ 1) → Cut img until from to n →
      stores_of sheet img (tasks (copied to n from until ∷ [])) ≡ words t base (up to n)
  copied-stores to n from until img b off h =
      extent-up sheet x t base o (λ y w k a c. own y w k a c off) img (λ e. cc) (λ k l. reads img k ∙ cut_word img until from to n k b h l)
    where
      x : Extent
      x = copied to n from until

      reads : (y : List ℕ) (k : ℕ) → word_of sheet y x k ≡ le 8 (take until y) (from + 8 * k)
      reads y k = word_read sheet y x k (λ e. cc) ∙ (λ i. le 8 (text-image sheet y x refl i) (source-other x k (λ e. cc) i))

      own : (y : List ℕ) (w k : ℕ) → w < k → k < n → (until ≤ to) ⊎ (n ≤ 1) → word_of sheet (applied sheet y x w) x k ≡ word_of sheet y x k
      own y w k a c (inl e) =
          reads (applied sheet y x w) k
          ∙ le_same 8 _ (from + 8 * k) _ (from + 8 * k) (λ j m. cut-kept y (place_of x w) (le_bytes 8 (word_of sheet y x w)) until (from + 8 * k + j)
          (omega (arith, place_other x w (λ i. cc))))
          ∙ sym (reads y k)
      own y w k a c (inr e) = absurd (omega arith)

  -- base lies at or before the name's first word
  pub name-stores : (at from until : ℕ) (img : List ℕ) → base ≤ at / 8 * 8 →
      ((p : ℕ) → at / 8 * 8 ≤ p → p < at / 8 * 8 + 8 * ((at + (until - from) + 7) / 8 - at / 8) →
      get_or (over img sheet at from until) p 0 ≡ get_or t (p - base) 0) →
      stores_of sheet img (tasks (name at from until ∷ [])) ≡ words t base (down (at / 8 * 8) ((at + (until - from) + 7) / 8 - at / 8))
  name-stores at from until img b h =
      extent-stores sheet x t base o own img (λ k l. reads img k ∙ le_same 8 _ (place_of x k) t (place_of x k - base) (λ j m.
      h (place_of x k + j) (omega (arith, place-name x k refl)) (omega (arith, place-name x k refl))
      ∙ ap (λ p. get_or t p 0) (let e : place_of x k + j - base ≡ place_of x k - base + j = omega (arith, place-name x k refl) in e)))
      ∙ ap (words t base) (places-down x x.words 0 refl (omega arith))
    where
      x : Extent
      x = name at from until

      reads : (y : List ℕ) (k : ℕ) → word_of sheet y x k ≡ le 8 (over y sheet at from until) (place_of x k)
      reads y k = word_read sheet y x k (λ e. cc) ∙ (λ i. le 8 (text-name sheet y x refl i) (source_name x k refl i))

      own : (y : List ℕ) (w k : ℕ) → w < k → k < x.words → word_of sheet (applied sheet y x w) x k ≡ word_of sheet y x k
      own y w k a c =
          reads (applied sheet y x w) k
          ∙ le_same 8 _ (place_of x k) _ (place_of x k) (λ j m. over-kept y (place_of x w) (le_bytes 8 (word_of sheet y x w)) at (part sheet from (until - from))
          (place_of x k + j) (omega (arith, place-name x w refl, place-name x k refl)))
          ∙ sym (reads y k)
