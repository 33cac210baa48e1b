-- Step 6 of an append, extent by extent: the four words of each new entry, from the last slot to the first.
use Prim.Native.Nat.{ℕ, zero, suc, ◌+◌, ◌*◌, ◌-◌, ◌/◌, ◌%◌, ◌^◌, ◌≤◌, ◌<◌}
use mathlib.Core.Path.{◌≡◌, sym, ◌∙◌, ap}
use mathlib.Core.List.{List, [], ◌∷◌}
use native.Mathlib.Nat.{zero-add}
use native.Mathlib.Omega.{arith}
use lib.ListN.{length, get_or}
use Rattle.gsd_format.specs.declared.Entry.{Entry}
use Rattle.gsd_format.specs.Bytes.{le}
use Rattle.gsd_format.specs.Entries.{entry_at}
use Rattle.gsd_format.specs.Lookup.{none}
use Rattle.gsd_format.proofs.Bytes.{Octets, le-two, le_four, le-eight}
use Rattle.gsd_format.proofs.Entries.{Fits}
use Rattle.gsd_stores.specs.Stores.{words, up, slots_down}
use Rattle.gsd_stores.specs.Steps.{index_bytes, store_entries}
use Rattle.gsd_stores.proofs.NewEntries.{index-entry}
use Rattle.gsd_extents.specs.declared.extent.Extent.{Extent}
use Rattle.gsd_extents.specs.Exec.{tasks, stores_of}
use Rattle.gsd_extents.specs.Extents.{number}
use Rattle.gsd_steps.specs.Numbers.{rows_in, frame_in, slot_in}
use Rattle.gsd_matched.specs.Matches.{EntryMatch}
use Rattle.gsd_steps.specs.Steps.{of_four, entry_place, entry_word, entry_extent, tab}
use Rattle.gsd_matched.proofs.Octets.{index-octets}
use Rattle.gsd_matched.proofs.ExtentWords.{number-stores}
use Rattle.gsd_matched.proofs.Makes.{Always, ◌⨾◌, makes_none}

-- one word of a text, in an extent of its own
word-stored : (sheet t : List ℕ) (base to v : ℕ) → Octets t → v ≡ le 8 t (to - base) → Always sheet (number to 1 v ∷ []) (words t base (to ∷ []))
unfolding words up
word-stored sheet t base to v o h = record {
  same = λ img u. number-stores sheet t base o to 1 v img (λ k l. h ∙ ap (λ a. le 8 t (a - base)) (let e : to ≡ to + 8 * k = omega arith in e));
  final = λ img u. tt;
}

-- the fourth word of an entry: M, id, type and flags
last_word : (t : List ℕ) (a : ℕ) →
    le 8 t (a + 24) ≡ le 4 t (a + 24) + 2 ^ 32 * le 2 t (a + 28) + 2 ^ 48 * (get_or t (a + 30) 0 + 256 * get_or t (a + 31) 0)
last_word t a =
    let x : le 4 t (a + 24 + 4) ≡ le 4 t (a + 28) = ap (le 4 t) (omega arith) in
    let y : le 2 t (a + 28 + 2) ≡ le 2 t (a + 30) = ap (le 2 t) (omega arith) in
    let z : get_or t (a + 30 + 1) 0 ≡ get_or t (a + 31) 0 = ap (λ i. get_or t i 0) (omega arith) in
    omega (arith, le-eight t (a + 24), le_four t (a + 28), le-two t (a + 30))

-- the entries es are those that the plan p says, slot by slot
pub record Entered (sheet p : List ℕ) (es : List Entry) : Type 0 where
  pub long : length es ≡ rows_in p
  pub fits : (s : ℕ) → s < length es → Fits (get_or es s none)
  pub frame : (s : ℕ) → s < length es → frame_in p ≡ (get_or es s none).frame
  pub flags : (s : ℕ) → s < length es → (get_or es s none).flags ≡ 0
  pub each : (s : ℕ) → s < length es → EntryMatch sheet p s (get_or es s none)

module _ (sheet p : List ℕ) (es : List Entry) (m : Entered sheet p es) where
  abbrev text : List ℕ
  text = index_bytes es

  abbrev slot : ℕ
  slot = slot_in p

  -- the four words of a slot's entry
  entry-word : (s i : ℕ) → s < length es → i < 4 → entry_word sheet p s i ≡ le 8 text (32 * s + of_four 0 8 24 16 i)
  unfolding entry_at of_four
  entry-word s i l k = go i k
    where
      at : ℕ
      at = 32 * s

      e : entry_at text at ≡ get_or es s none
      e = rw zero-add at (index-entry text 0 es s l (m.fits s l) (λ j n. ap (λ q. get_or text q 0) (zero-add j)))

      go : (i : ℕ) → i < 4 → entry_word sheet p s i ≡ le 8 text (at + of_four 0 8 24 16 i)
      go zero h = m.frame s l ∙ sym (ap (λ q. q.frame) e) ∙ ap (le 8 text) (let z : at ≡ at + 0 = omega arith in z)
      go (suc zero) h = (m.each s l).n ∙ sym (ap (λ q. q.n) e)
      go (suc (suc zero)) h =
          omega (
            arith,
            (m.each s l).meta,
            last_word text at,
            ap (λ q. q.m) e,
            ap (λ q. q.id) e,
            ap (λ q. q.kind) e,
            ap (λ q. q.flags) e,
            m.flags s l,
          )
      go (suc (suc (suc zero))) h = (m.each s l).location ∙ sym (ap (λ q. q.location) e)
      go (suc (suc (suc (suc i)))) h = absurd (omega arith)

  -- the extent of the i-th word of the q-th slot from the end
  entry-extent : (q i : ℕ) → i < 4 → entry_extent sheet p (4 * q + i) ≡
      let s : ℕ = rows_in p - 1 - q in
      number (entry_place p s i) 1 (entry_word sheet p s i)
  unfolding entry_extent
  entry-extent q i k =
      let d : (4 * q + i) / 4 ≡ q = omega arith in
      let e : (4 * q + i) % 4 ≡ i = omega arith in
      rw (d, e)

  word_of : (n i : ℕ) → n < rows_in p → i < 4 →
      Always sheet (entry_extent sheet p (4 * (rows_in p - suc n) + i) ∷ []) (words text slot (entry_place p n i ∷ []))
  word_of n i l k =
      let s : rows_in p - 1 - (rows_in p - suc n) ≡ n = omega arith in
      let place : 32 * n + of_four 0 8 24 16 i ≡ entry_place p n i - slot = omega arith in
      rw (entry-extent (rows_in p - suc n) i k, s)
      (word-stored sheet text slot (entry_place p n i) _ (index-octets es m.fits)
      (entry-word n i (omega (arith, m.long)) k ∙ ap (le 8 text) place))

  -- from the last slot to the first
  slots-stored : (n : ℕ) → n ≤ rows_in p → Always sheet (tab (entry_extent sheet p) (4 * (rows_in p - n)) (4 * n)) (words text slot (slots_down slot n))
  unfolding tab words slots_down of_four
  slots-stored zero h = makes_none
  slots-stored (suc n) h = record {
    same = λ img u.
        ap (λ es. stores_of sheet img (tasks es)) four
        ∙ (word 0 (omega arith) ⨾ word 1 (omega arith) ⨾ word 2 (omega arith) ⨾ word 3 (omega arith) ⨾ slots-stored n (omega arith)).same img u
        ∙ ap (λ a. words text slot (a ∷ (here + 8) ∷ (here + 24) ∷ (here + 16) ∷ slots_down slot n)) (let e : here + 0 ≡ here = omega arith in e);
    final = λ img u. tt;
  }
    where
      here : ℕ
      here = slot + 32 * n

      q : ℕ
      q = 4 * (rows_in p - suc n)

      f : ℕ → Extent
      f = entry_extent sheet p

      word : (i : ℕ) → i < 4 → Always sheet (f (q + i) ∷ []) (words text slot (entry_place p n i ∷ []))
      word i k = word_of n i h k

      four : tab f q (4 * suc n) ≡ f (q + 0) ∷ f (q + 1) ∷ f (q + 2) ∷ f (q + 3) ∷ tab f (4 * (rows_in p - n)) (4 * n)
      four =
          let e : 4 * suc n ≡ suc (suc (suc (suc (4 * n)))) = omega arith in
          let e0 : q ≡ q + 0 = omega arith in
          let e1 : suc q ≡ q + 1 = omega arith in
          let e2 : suc (suc q) ≡ q + 2 = omega arith in
          let e3 : suc (suc (suc q)) ≡ q + 3 = omega arith in
          let e4 : suc (suc (suc (suc q))) ≡ 4 * (rows_in p - n) = omega arith in
          ap (tab f q) e ∙ (λ i. f (e0 i) ∷ f (e1 i) ∷ f (e2 i) ∷ f (e3 i) ∷ tab f (e4 i) (4 * n))

  pub entries-stored : Always sheet (tab (entry_extent sheet p) 0 (4 * rows_in p)) (store_entries slot es)
  unfolding store_entries
  entries-stored =
      let first : 4 * (rows_in p - rows_in p) ≡ 0 = omega arith in
      rw m.long (rw first at (slots-stored (rows_in p) (omega arith)))
