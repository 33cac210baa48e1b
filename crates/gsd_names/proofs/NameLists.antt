-- Laws of the name list as code keeps it: its names from a place on, searched; what is found, by name and by place, and the
-- numbers 9 to 11.
use Prim.Native.Nat.{ℕ, zero, suc, ◌+◌, ◌-◌, ◌≤◌, ◌<◌}
use mathlib.Core.Path.{◌≡◌, refl, sym, ◌∙◌, ap}
use mathlib.Core.Bool.{Bool, true, false, true≢false}
use mathlib.Core.List.{List, [], ◌∷◌, map}
use native.Mathlib.Nat.{add-zero, zero-add, sub-zero}
use native.Mathlib.Omega.{arith}
use lib.ListN.{length, get_or, length-map}
use borrow.Author.Tests.{lt-ltb, le-ltb}
use Rattle.gsd_format.specs.declared.Layout.{Layout}
use Rattle.gsd_format.specs.declared.Part.{Part}
use Rattle.gsd_format.specs.Bytes.{same}
use Rattle.gsd_format.specs.Header.{v10}
use Rattle.gsd_format.specs.Names.{block_parts, bytes_of, index_of, block_names, Has, Lacks}
use Rattle.gsd_format.specs.Refusals.{◌⇒◌}
use Rattle.gsd_format.specs.Opening.{most_names, twins, names_test}
use Rattle.gsd_format.specs.Lookup.{nowhere}
use Rattle.gsd_format.proofs.Bytes.{eq-same, same-eq, ne_same}
use Rattle.gsd_format.proofs.Ids.{index-here, index_on, index-none}
use Rattle.gsd_format.proofs.Names.{names-open, names-many, names-twins}
use Rattle.gsd_names.specs.declared.list.NameList.{NameList}
use Rattle.gsd_names.specs.NameLists.{part_at, parts_from, names_in, NamesFound}

-- Parts by their places

from-here : (v : Bool) (starts : List ℕ) (i count : ℕ) → i < count →
    parts_from v starts i (count - i) ≡ part_at v starts i ∷ parts_from v starts (i + 1) (count - (i + 1))
unfolding parts_from
from-here v starts i count h = ap (parts_from v starts i) (let e : count - i ≡ suc (count - (i + 1)) = omega arith in e)

from-none : (v : Bool) (starts : List ℕ) (i count : ℕ) → count ≤ i → parts_from v starts i (count - i) ≡ []
unfolding parts_from
from-none v starts i count h = ap (parts_from v starts i) (let e : count - i ≡ 0 = omega arith in e)

from_at : (n : ℕ) (v : Bool) (starts : List ℕ) (i k : ℕ) → k < n → get_or (parts_from v starts i n) k nowhere ≡ part_at v starts (i + k)
unfolding parts_from
from_at zero v starts i k h = absurd (omega arith)
from_at (suc n) v starts i zero h = ap (part_at v starts) (sym (add-zero i))
from_at (suc n) v starts i (suc k) h =
    from_at n v starts (i + 1) k (omega arith) ∙ ap (part_at v starts) (let e : i + 1 + k ≡ i + suc k = omega arith in e)

pub from-length : (n : ℕ) (v : Bool) (starts : List ℕ) (i : ℕ) → length (parts_from v starts i n) ≡ n
unfolding parts_from
from-length zero v starts i = refl
from-length (suc n) v starts i = ap suc (from-length n v starts (i + 1))

-- the i-th of the parts ps, which are the first count
pub listed-part : (v : Bool) (starts : List ℕ) (count : ℕ) (ps : List Part) → parts_from v starts 0 count ≡ ps → (i : ℕ) → i < count →
    get_or ps i nowhere ≡ part_at v starts i
listed-part v starts count ps e i h = ap (λ qs. get_or qs i nowhere) (sym e) ∙ from_at count v starts 0 i h ∙ ap (part_at v starts) (zero-add i)

-- A name that comes again behind the first, or not

twins-has : (n : List ℕ) (ns : List (List ℕ)) → Has n ns → twins (n ∷ ns) ≡ true
unfolding twins
twins-has n ns h = rw (lt-ltb _ _ h)

twins-lacks : (n : List ℕ) (ns : List (List ℕ)) → Lacks n ns → twins (n ∷ ns) ≡ twins ns
unfolding twins
twins-lacks n ns h = rw (le-ltb _ _ h)

-- The names from the i-th on

module _ (v : Bool) (img starts : List ℕ) (count : ℕ) where
  abbrev pub names : ℕ → List (List ℕ)
  names i = map (bytes_of img) (parts_from v starts i (count - i))

  pub names-here : (i : ℕ) → i < count → names i ≡ bytes_of img (part_at v starts i) ∷ names (i + 1)
  names-here i h = ap (map (bytes_of img)) (from-here v starts i count h)

  pub names-none : (i : ℕ) → count ≤ i → names i ≡ []
  names-none i h = ap (map (bytes_of img)) (from-none v starts i count h)

  pub names-long : (i : ℕ) → length (names i) ≡ count - i
  names-long i = length-map (parts_from v starts i (count - i)) (bytes_of img) ∙ from-length (count - i) v starts i

  pub names-all : names 0 ≡ names_in v img starts count
  names-all = ap (λ n. map (bytes_of img) (parts_from v starts 0 n)) (sub-zero count)

  -- A name searched: it is none of those from the a-th up to the i-th

  abbrev pub Passed : List ℕ → ℕ → ℕ → Type 0
  Passed b a i = index_of b (names a) + a ≡ index_of b (names i) + i

  pub passed-more : (b n : List ℕ) (a i : ℕ) → i < count → Passed b a i → n ≡ bytes_of img (part_at v starts i) → same b n ≡ false → Passed b a (i + 1)
  passed-more b n a i h p q f =
      let e : index_of b (names i) ≡ suc (index_of b (names (i + 1))) =
      ap (index_of b) (names-here i h) ∙ index_on b _ (names (i + 1)) (λ g. true≢false (sym (eq-same b n (g ∙ sym q)) ∙ f)) in
      omega arith

  pub passed_here : (b n : List ℕ) (a i : ℕ) → i < count → Passed b a i → n ≡ bytes_of img (part_at v starts i) → same b n ≡ true →
      index_of b (names a) + a ≡ i
  passed_here b n a i h p q f =
      let e : index_of b (names i) ≡ 0 = ap (index_of b) (names-here i h) ∙ index-here b _ (names (i + 1)) (same-eq b n f ∙ q) in
      omega arith

  pub passed-all : (b : List ℕ) (a i : ℕ) → count ≤ i → Passed b a i → index_of b (names a) + a ≡ i
  passed-all b a i h p = let e : index_of b (names i) ≡ 0 = ap (index_of b) (names-none i h) ∙ index-none b in omega arith

  -- it is none of them
  pub passed-none : (b : List ℕ) (a i : ℕ) → count ≤ i → i ≤ count → Passed b a i → index_of b (names a) + a ≡ count
  passed-none b a i h g p = omega (arith, passed-all b a i h p)

  -- The twins among the names from the i-th on: a name that comes again, or those of the names behind it

  names-from : (b : List ℕ) (i : ℕ) → i < count → b ≡ bytes_of img (part_at v starts i) → names i ≡ b ∷ names (i + 1)
  names-from b i h q = names-here i h ∙ ap (λ n. n ∷ names (i + 1)) (sym q)

  pub twins-here : (b : List ℕ) (i j : ℕ) → i < count → b ≡ bytes_of img (part_at v starts i) → index_of b (names (i + 1)) + (i + 1) ≡ j → j < count →
      twins (names i) ≡ true
  twins-here b i j h q e l = ap twins (names-from b i h q) ∙ twins-has b (names (i + 1)) (omega (arith, names-long (i + 1)))

  pub twins-behind : (b : List ℕ) (i j : ℕ) → i < count → b ≡ bytes_of img (part_at v starts i) → index_of b (names (i + 1)) + (i + 1) ≡ j → count ≤ j →
      twins (names i) ≡ twins (names (i + 1))
  twins-behind b i j h q e l = ap twins (names-from b i h q) ∙ twins-lacks b (names (i + 1)) (omega (arith, names-long (i + 1)))

  -- a name that is none of the m from the a-th on
  passed-up : (b : List ℕ) (a m : ℕ) → a + m ≤ count → ((j : ℕ) → a ≤ j → j < a + m → b ≡ bytes_of img (part_at v starts j) → ⊥) → Passed b a (a + m)
  passed-up b a zero h f = ap (λ k. index_of b (names k) + k) (sym (add-zero a))
  passed-up b a (suc m) h f =
      passed-more b _ a (a + m) (omega arith) (passed-up b a m (omega arith) (λ j l k. f j l (omega arith))) refl
      (ne_same b _ (f (a + m) (omega arith) (omega arith)))
      ∙ ap (λ k. index_of b (names k) + k) (let e : a + m + 1 ≡ a + suc m = omega arith in e)

  pub twins-apart : (i : ℕ) → i < count →
      ((j : ℕ) → i < j → j < count → bytes_of img (part_at v starts i) ≡ bytes_of img (part_at v starts j) → ⊥) → twins (names i) ≡ twins (names (i + 1))
  twins-apart i h f =
      let m : ℕ = count - (i + 1) in
      let b : List ℕ = bytes_of img (part_at v starts i) in
      let p : Passed b (i + 1) (i + 1 + m) = passed-up b (i + 1) m (omega arith) (λ j l k. f j (omega arith) (omega arith)) in
      let l : count ≤ i + 1 + m = omega arith in
      twins-behind b i (i + 1 + m) h refl (passed-all b (i + 1) (i + 1 + m) l p) l

  pub twins-none : (i : ℕ) → count ≤ i → twins (names i) ≡ false
  unfolding twins
  twins-none i h = ap twins (names-none i h)

-- What is found, by name

module _ (img : List ℕ) (l : Layout) (starts : List ℕ) (list : NameList) (found : NamesFound img l starts list) (closed : list.«open» ≡ false) where
  pub found-count : length (block_names img l) ≡ list.count
  found-count = length-map (block_parts img l) (bytes_of img) ∙ sym (found.count closed)

  pub found-names : list.count ≤ most_names → names_in (v10 l.version) img starts list.count ≡ block_names img l
  found-names h = ap (map (bytes_of img)) (found.parts closed h)

-- The numbers 9 to 11 by what is found

module _ (img : List ℕ) (l : Layout) (starts : List ℕ) (list : NameList) (found : NamesFound img l starts list) where
  pub number-open : list.«open» ≡ true → names_test img l (block_names img l) ≡ 9
  number-open e = names-open img l (block_names img l) (sym found.«open» ∙ e)

  pub number-many : list.«open» ≡ false → most_names < list.count → names_test img l (block_names img l) ≡ 10
  number-many e h = names-many img l (block_names img l) (sym found.«open» ∙ e) (omega (arith, found-count _ _ _ _ found e))

  pub number-twins : (b : Bool) → list.«open» ≡ false → list.count ≤ most_names → twins (names_in (v10 l.version) img starts list.count) ≡ b →
      names_test img l (block_names img l) ≡ (b ⇒ 11)
  number-twins b e h t =
      names-twins img l (block_names img l) b (sym found.«open» ∙ e) (omega (arith, found-count _ _ _ _ found e))
      (sym (ap twins (found-names _ _ _ _ found e h)) ∙ t)
