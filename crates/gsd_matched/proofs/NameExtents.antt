-- Step 4 of an append, extent by extent: the new names, each over the words that hold its bytes.
use Prim.Native.Nat.{ℕ, suc, ◌+◌, ◌*◌, ◌-◌, ◌/◌, ◌%◌, ◌≤◌, ◌<◌}
use mathlib.Core.Path.{◌≡◌, sym, ◌∙◌, ap}
use mathlib.Core.List.{List, [], ◌∷◌, ◌++◌, append_assoc, append-nil}
use native.Mathlib.Nat.{add-zero}
use native.Mathlib.Omega.{arith}
use native.Mathlib.Decide.{dec_lt}
use lib.ListN.{length, get_or, take, length-append, get_or-append, get_or-eq_default}
use lib.Seq.{get_or-append-add}
use Rattle.gsd_format.specs.declared.Layout.{Layout}
use Rattle.gsd_format.specs.Bytes.{Apart}
use Rattle.gsd_format.specs.Header.{header_size}
use Rattle.gsd_format.specs.Names.{flat}
use Rattle.gsd_format.proofs.Bytes.{Octets, Text}
use Rattle.gsd_format.proofs.Lists.{Each}
use Rattle.gsd_format.proofs.Names.{Named, flat-size, flat-more}
use Rattle.gsd_stores.specs.Stores.{words, down}
use Rattle.gsd_stores.specs.View.{View, names_end, namelist_end}
use Rattle.gsd_stores.specs.Steps.{store_name, store_names}
use Rattle.gsd_stores.proofs.Texts.{size}
use Rattle.gsd_stores.proofs.View.{with_names, is-long, Stage}
use Rattle.gsd_stores.proofs.NewNames.{one_name}
use Rattle.gsd_extents.specs.Exec.{over}
use Rattle.gsd_extents.specs.Extents.{name}
use Rattle.gsd_extents.proofs.Words.{over_below, over-inside, over-above}
use Rattle.gsd_sheet.specs.Columns.{name_from, data_from, new_row, name_to}
use Rattle.gsd_steps.specs.Steps.{name_extent, tab}
use Rattle.gsd_matched.proofs.Octets.{text-octets, octets-append, flat-octets}
use Rattle.gsd_matched.proofs.ExtentWords.{name-stores}
use Rattle.gsd_matched.proofs.Makes.{Makes, AnyStore, ◌⨾◌, makes_none}

-- a name in the sheet
pub record Written (sheet : List ℕ) (from until : ℕ) (b : List ℕ) : Type 0 where
  pub text : Text sheet from b
  pub long : until ≡ from + length b
  pub inside : until ≤ length sheet

-- the name block lies at a multiple of 8, outside the data t that stand from `start` on
pub record Beside (start : ℕ) (t : List (List ℕ)) (l : Layout) : Type 0 where
  pub low : header_size ≤ start
  pub off : Apart start (size start t) l.namelist (64 * l.segments)
  pub even : l.namelist % 8 ≡ 0

module _ {x₀ : List ℕ} {u : View} {start : ℕ} {t : List (List ℕ)} (sheet : List ℕ) (o : Octets sheet) (from until : ℕ) (b : List ℕ)
    (w : Written sheet from until b) (block : Beside start t u.layout) (names : Octets (flat u.names)) (good : Named b)
    (fits : length (flat u.names) + length b + 1 ≤ 64 * u.layout.segments) where
  -- the words of a name hold the names before it and zeros behind it
  name-over : (img : List ℕ) → Stage x₀ u start t img → (p : ℕ) → u.layout.namelist ≤ p → p < namelist_end u.layout →
      get_or (over img sheet (names_end u) from until) p 0 ≡ get_or (flat u.names ++ b) (p - u.layout.namelist) 0
  name-over img s p x y = go (dec_lt p (names_end u)) (dec_lt p (names_end u + length b))
    where
      at : ℕ
      at = u.layout.namelist

      before : List ℕ
      before = flat u.names

      order : from ≤ until
      order = omega (arith, w.long)

      go : Dec (p < names_end u) → Dec (p < names_end u + length b) → get_or (over img sheet (names_end u) from until) p 0 ≡ get_or (before ++ b) (p - at) 0
      go (yes a) c =
          over_below img sheet (names_end u) from until w.inside order p a
          ∙ ap (λ i. get_or img i 0) (let e : p ≡ at + (p - at) = omega arith in e)
          ∙ s.base.is.names.each (p - at) (omega arith)
          ∙ sym (get_or-append before b 0 (p - at) (omega arith))
      go (no a) (yes c) =
          over-inside img sheet (names_end u) from until w.inside order p (omega (arith, is-long s.base.is)) (omega arith) (omega arith)
          ∙ w.text (p - names_end u) (omega arith)
          ∙ sym (get_or-append-add before b (p - names_end u) 0)
          ∙ ap (λ i. get_or (before ++ b) i 0) (let e : length before + (p - names_end u) ≡ p - at = omega arith in e)
      go (no a) (no c) =
          over-above img sheet (names_end u) from until w.inside order p (omega arith)
          ∙ s.names p (omega arith) y
          ∙ sym (get_or-eq_default (before ++ b) 0 (omega (arith, length-append before b)))

  name-stored : Makes sheet (Stage x₀ u start t) (Stage x₀ (with_names u (u.names ++ b ∷ [])) start t) (name (names_end u) from until ∷ [])
      (store_name u.layout.namelist (flat u.names) b)
  unfolding store_name
  name-stored =
      let at : ℕ = names_end u in
      let count : ℕ = (at + length b - 1) / 8 - at / 8 + 1 in
      let n : (at + (until - from) + 7) / 8 - at / 8 ≡ count = omega (arith, good.some) in
      let end : at / 8 * 8 + 8 * count ≤ namelist_end u.layout = omega (arith, good.some, block.even) in
      record {
        same = λ img s.
            name-stores sheet (flat u.names ++ b) u.layout.namelist (octets-append (flat u.names) b names (text-octets sheet from b o w.text))
            at from until img (omega (arith, block.even)) (λ p x y. name-over img s p (omega (arith, block.even)) (omega arith))
            ∙ ap (λ k. words (flat u.names ++ b) u.layout.namelist (down (at / 8 * 8) k)) n;
        final = (one_name {x₀ = x₀} {v = u} {d = start} {t = t} b block.low block.off block.even good fits {W = AnyStore}
            (λ y z p q. tt) (λ y z p q. tt)).final;
      }

-- the j-th new name of the plan p is b, and goes to this place
pub record NameAt (sheet p : List ℕ) (j at : ℕ) (b : List ℕ) : Type 0 where
  pub place : name_to p j ≡ at
  pub written : Written sheet (name_from p (new_row p j)) (data_from p (new_row p j)) b

pub names-stored : {x₀ : List ℕ} {start : ℕ} {t : List (List ℕ)} (sheet : List ℕ) → Octets sheet → (p : List ℕ) (bs : List (List ℕ)) (u : View) (j : ℕ) →
    Beside start t u.layout → Octets (flat u.names) → Each Named bs → length (flat u.names) + length (flat bs) ≤ 64 * u.layout.segments →
    ((k : ℕ) → k < length bs → NameAt sheet p (j + k) (u.layout.namelist + length (flat (u.names ++ take k bs))) (get_or bs k [])) →
    Makes sheet (Stage x₀ u start t) (Stage x₀ (with_names u (u.names ++ bs)) start t) (tab (name_extent p) j (length bs))
    (store_names u.layout.namelist u.names bs)
unfolding tab store_names name_extent
names-stored sheet o p [] u j block names good fits spot = rw append-nil makes_none
names-stored {x₀} {start} {t} sheet o p (b ∷ bs) u j block names good fits spot =
    rw append_assoc at (first ⨾ names-stored {x₀ = x₀} {start = start} {t = t} sheet o p bs (with_names u more) (suc j) block
    (flat-octets u.names b names (text-octets sheet _ b o here.written.text)) good.1
    (omega (arith, flat-size b bs, flat-more u.names b)) (λ k l.
    let e : suc j + k ≡ j + suc k = omega arith in rw (e, append_assoc) (spot (suc k) (omega arith))))
  where
    more : List (List ℕ)
    more = u.names ++ b ∷ []

    here : NameAt sheet p j (names_end u) b
    here = rw (append-nil, add-zero) at (spot 0 (omega arith))

    first : Makes sheet (Stage x₀ u start t) (Stage x₀ (with_names u more) start t) (name_extent p j ∷ []) (store_name u.layout.namelist (flat u.names) b)
    first =
        rw here.place
        (name-stored {x₀ = x₀} {u = u} {start = start} {t = t} sheet o (name_from p (new_row p j)) (data_from p (new_row p j)) b here.written
        block names good.0 (omega (arith, flat-size b bs)))
