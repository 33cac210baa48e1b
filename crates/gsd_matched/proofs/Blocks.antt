-- Steps 1, 3 and 5 of an append, extent by extent: both blocks are cleared behind their lists, and a block that does not suffice moves.
use Prim.Native.Nat.{ℕ, ◌+◌, ◌*◌, ◌-◌, ◌/◌, ◌%◌, ◌≤◌, ◌<◌, min}
use mathlib.Core.Path.{◌≡◌, refl, sym, ◌∙◌, ap}
use mathlib.Core.Bool.{Bool, true, false, cond}
use mathlib.Core.Logic.{inl, inr}
use mathlib.Core.List.{List, [], ◌∷◌, ◌++◌}
use native.Mathlib.Decide.{dec_lt}
use native.Mathlib.Omega.{arith}
use lib.ListN.{length, get_or, take, get_or-eq_default}
use borrow.Author.Tests.{ne_eqb}
use Rattle.gsd_format.specs.Bytes.{le, le_bytes}
use Rattle.gsd_format.specs.Names.{flat}
use Rattle.gsd_format.proofs.Bytes.{Octets, Text, zero-le}
use Rattle.gsd_stores.specs.Stores.{Store, after, eight_of, words, up}
use Rattle.gsd_stores.specs.View.{View, entries_end, names_end, namelist_end}
use Rattle.gsd_stores.specs.Plan.{Plan}
use Rattle.gsd_stores.specs.Steps.{clear_index, clear_names, moved}
use Rattle.gsd_stores.proofs.Stores.{words_append, up-cut}
use Rattle.gsd_stores.proofs.View.{Base, IndexClear, Stage}
use Rattle.gsd_stores.proofs.Clear.{clear-index, clear-names}
use Rattle.gsd_extents.specs.declared.extent.Extent.{Extent}
use Rattle.gsd_extents.specs.Exec.{place_of, word_of, tasks_from, tasks, stores_of}
use Rattle.gsd_extents.specs.Extents.{number, none, copied}
use Rattle.gsd_extents.proofs.Words.{cut-before, cut-behind, place_other, word_number}
use Rattle.gsd_matched.specs.Matches.{NumbersMatch}
use Rattle.gsd_steps.specs.declared.Move.{Move}
use Rattle.gsd_steps.specs.Steps.{clear_extent, move_extent, tab}
use Rattle.gsd_matched.proofs.Octets.{no-octets}
use Rattle.gsd_matched.proofs.ExtentWords.{number-stores, copied-stores}
use Rattle.gsd_matched.proofs.Makes.{Makes, AnyImage, AnyStore, Always, ◌⨾◌}

-- A text in an image, cut off at its end; the zeros behind it

pub text-cut : (x : List ℕ) (at : ℕ) (t : List ℕ) (until p : ℕ) → Text x at t → until ≡ at + length t → at ≤ p →
    get_or (take until x) p 0 ≡ get_or t (p - at) 0
text-cut x at t until p h e l = go (dec_lt p until)
  where
    go : Dec (p < until) → get_or (take until x) p 0 ≡ get_or t (p - at) 0
    go (yes a) = cut-before x until p a ∙ ap (λ i. get_or x i 0) (let q : p ≡ at + (p - at) = omega arith in q) ∙ h (p - at) (omega arith)
    go (no a) = cut-behind x until p (omega arith) ∙ sym (get_or-eq_default t 0 (omega arith))

zero-behind : (t : List ℕ) (i : ℕ) → length t ≤ i → 0 ≡ le 8 t i
zero-behind t i h = sym (zero-le 8 t i (λ k l. get_or-eq_default t 0 (omega arith)))

-- zeros in words behind a text
zero-stores : (sheet t : List ℕ) (base to n : ℕ) → Octets t → (0 < n → base + length t ≤ to) → Always sheet (number to n 0 ∷ []) (words t base (up to n))
zero-stores sheet t base to n o h = record {
  same = λ img u. number-stores sheet t base o to n 0 img (λ k l. zero-behind t (to + 8 * k - base) (omega (arith, h (omega arith))));
  final = λ img u. tt;
}

-- a number in one word
number-store : (sheet : List ℕ) (at w : ℕ) → Always sheet (number at 1 w ∷ []) (words (le_bytes 8 w) at (up at 1))
unfolding tasks tasks_from stores_of words up le_bytes
number-store sheet at w = record {
  same = λ img u.
      let x : Extent = number at 1 w in
      let place : place_of x 0 ≡ at = place_other x 0 (λ e. cc) ∙ omega arith in
      let bytes : le_bytes 8 (word_of sheet img x 0) ≡ eight_of (le_bytes 8 w) (at - at)
      = ap (le_bytes 8) (word_number sheet img x 0 refl) ∙ ap (eight_of (le_bytes 8 w)) (let e : 0 ≡ at - at = omega arith in e) in
      λ i. record { place = place i; bytes = bytes i } ∷ [];
  final = λ img u. tt;
}

-- Step 1

-- the words behind the entry list; the word that holds the name list's end, the words of the block from there on, and 1 if there is one
abbrev pub free_words : View → ℕ
free_words v = 4 * (v.layout.slots - length v.entries)

abbrev pub end_word : View → ℕ
end_word v = names_end v / 8 * 8

abbrev pub words_behind : View → ℕ
words_behind v = (namelist_end v.layout - end_word v) / 8

abbrev pub one : View → ℕ
one v = min 1 (words_behind v)

-- the extents of step 1
abbrev pub slots_clear : View → Extent
slots_clear v = number (entries_end v) (free_words v) 0

abbrev pub end_keep : View → Extent
end_keep v = copied (end_word v) (one v) (end_word v) (names_end v)

abbrev pub names_clear : View → Extent
names_clear v = number (end_word v + 8 * one v) (words_behind v - 1) 0

pub clears : {v : View} {sheet : List ℕ} {d : Plan} {p : List ℕ} → NumbersMatch v sheet d p →
    tab (clear_extent p) 0 3 ≡ slots_clear v ∷ end_keep v ∷ names_clear v ∷ []
unfolding tab clear_extent
clears {v} m =
    let free : (v.layout.index + 32 * v.layout.slots - entries_end v) / 8 ≡ free_words v = omega arith in
    rw (m.entries_ends, m.index_ends, m.names_ends, m.namelist_ends, free)

module _ {x₀ : List ℕ} {v : View} (sheet : List ℕ) where
  index-cleared : Makes sheet (Base x₀ v) (λ x. Base x₀ v x × IndexClear v x) (slots_clear v ∷ []) (clear_index v)
  unfolding clear_index
  index-cleared = record {
    same = λ img b. (zero-stores sheet [] 0 (entries_end v) (free_words v) no-octets (λ l. omega arith)).same img tt;
    final = (clear-index {x₀ = x₀} {W = AnyStore} {v = v} (λ a b p q. tt)).final;
  }

  -- the word that holds the names' end keeps their bytes; all words behind it are zeros
  names-cleared : (start : ℕ) → Octets (flat v.names) → v.layout.namelist % 8 ≡ 0 →
      Makes sheet (λ x. Base x₀ v x × IndexClear v x) (Stage x₀ v start []) (end_keep v ∷ names_clear v ∷ []) (clear_names v)
  unfolding clear_names
  names-cleared start o even = record {
    same = λ img b. (keep ⨾ clear).same img b ∙ sym two;
    final = (clear-names {x₀ = x₀} {W = AnyStore} {v = v} (λ a b p q. tt) start even).final;
  }
    where
      names : List ℕ
      names = flat v.names

      at : ℕ
      at = v.layout.namelist

      first : List Store
      first = words names at (up (end_word v) (one v))

      others : List Store
      others = words names at (up (end_word v + 8 * one v) (words_behind v - 1))

      keep : Makes sheet (λ x. Base x₀ v x × IndexClear v x) AnyImage (end_keep v ∷ []) first
      keep = record {
        same = λ img b. copied-stores sheet names at o (end_word v) (one v) (end_word v) (names_end v) img (omega arith) (inr (omega arith)) (λ k l.
            text-cut img at names (names_end v) (end_word v + k) b.0.is.names.each refl (omega arith));
        final = λ img b. tt;
      }

      clear : Always sheet (names_clear v ∷ []) others
      clear = zero-stores sheet names at (end_word v + 8 * one v) (words_behind v - 1) o (λ l. omega arith)

      two : words names at (up (end_word v) (words_behind v)) ≡ first ++ others
      two =
          ap (words names at)
          (up-cut (one v) (end_word v) (words_behind v) (omega arith) ∙ ap (λ n. up (end_word v) (one v) ++ up (end_word v + 8 * one v) n) (omega arith))
          ∙ words_append names at (up (end_word v) (one v)) (up (end_word v + 8 * one v) (words_behind v - 1))

  pub lists-cleared : {d : Plan} {p : List ℕ} → NumbersMatch v sheet d p → (start : ℕ) → Octets (flat v.names) → v.layout.namelist % 8 ≡ 0 →
      Makes sheet (Base x₀ v) (Stage x₀ v start []) (tab (clear_extent p) 0 3) (clear_index v ++ clear_names v)
  lists-cleared m start o even = rw (clears m) (index-cleared ⨾ names-cleared start o even)

-- Steps 3 and 5

-- The block b moves from `old` to `new` where the flag says so: its list, which is the text t, and zeros behind it in n words;
-- `total` is its new count. Where the flag says no, its words and its count are 0
pub record Moving (b : Move) (flag : Bool) (old : ℕ) (t : List ℕ) (new n total : ℕ) : Type 0 where
  pub from : b.from ≡ old
  pub until : b.until ≡ old + length t
  pub to : b.to ≡ new
  pub words : b.words ≡ cond flag n 0
  pub count : b.count ≡ cond flag total 0
  pub some : 0 < total
  pub before : old + length t ≤ new
  pub fits : length t ≤ 8 * n

-- the words that hold a text
abbrev pub holding : List ℕ → ℕ
holding t = (length t + 7) / 8

module _ (b : Move) where
  stays : b.count ≡ 0 → tab (move_extent b) 0 4 ≡ none ∷ none ∷ none ∷ none ∷ []
  unfolding tab move_extent
  stays e = rw e

  moves : {old new n total : ℕ} {t : List ℕ} → Moving b true old t new n total → tab (move_extent b) 0 4 ≡
      copied new (holding t) old (old + length t)
      ∷ number (new + 8 * holding t) (n - holding t) 0
      ∷ number b.header 1 new
      ∷ number (b.header + 8) 1 total
      ∷ []
  unfolding tab move_extent
  moves {old} {t = t} m =
      let list : old + length t - old ≡ length t = omega arith in
      rw (ne_eqb b.count 0 (λ e. omega (arith, m.count, m.some)), m.from, m.until, m.to, m.count, m.words, list)

  -- so many words of its list are copied
  pub copied-words : {old new n total : ℕ} {t : List ℕ} {flag : Bool} → Moving b flag old t new n total → (move_extent b 0).words ≡ cond flag (holding t) 0
  unfolding tab
  copied-words {flag = true} m = ap (λ l. (get_or l 0 none).words) (moves m)
  copied-words {flag = false} m = ap (λ l. (get_or l 0 none).words) (stays m.count)

pub block-moved : {P Q : List ℕ → Type 0} {old new n total : ℕ} (sheet : List ℕ) (b : Move) (flag : Bool) (t : List ℕ) → Moving b flag old t new n total →
    Octets t → ((img : List ℕ) → P img → Text img old t) → ((img : List ℕ) → P img → Q (after img (moved flag new n t b.header total))) →
    Makes sheet P Q (tab (move_extent b) 0 4) (moved flag new n t b.header total)
unfolding moved tasks tasks_from stores_of
block-moved sheet b false t m o text final = record { same = λ img u. rw (stays b m.count); final = final }
block-moved {P} {old = old} {new = new} {n = n} {total = total} sheet b true t m o text final = record {
  same = λ img u. rw (moves b m) ((copy ⨾ clear ⨾ number-store sheet h new ⨾ number-store sheet (h + 8) total).same img u
      ∙ (λ i. two i ++ words (le_bytes 8 new) h (up h 1) ++ words (le_bytes 8 total) (h + 8) (up (h + 8) 1)));
  final = final;
}
  where
    h : ℕ
    h = b.header

    k : ℕ
    k = holding t

    copy : Makes sheet P AnyImage (copied new k old (old + length t) ∷ []) (words t new (up new k))
    copy = record {
      same = λ img u. copied-stores sheet t new o new k old (old + length t) img (omega arith) (inl m.before) (λ j l.
          text-cut img old t (old + length t) (old + j) (text img u) refl (omega arith)
          ∙ ap (λ i. get_or t i 0) (let e : old + j - old ≡ new + j - new = omega arith in e));
      final = λ img u. tt;
    }

    clear : Always sheet (number (new + 8 * k) (n - k) 0 ∷ []) (words t new (up (new + 8 * k) (n - k)))
    clear = zero-stores sheet t new (new + 8 * k) (n - k) o (λ l. omega arith)

    two : words t new (up new k) ++ words t new (up (new + 8 * k) (n - k)) ≡ words t new (up new n)
    two = sym (ap (words t new) (up-cut k new n (omega (arith, m.fits))) ∙ words_append t new (up new k) (up (new + 8 * k) (n - k)))
