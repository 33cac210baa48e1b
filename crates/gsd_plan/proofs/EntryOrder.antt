-- The new entries by rising ids: they are those of the rows, in the order of the rows' ids with their rows as numbers.
use Prim.Native.Nat.{ℕ, zero, suc, ◌+◌, ◌/◌, ◌%◌, ◌≤◌, ◌<◌}
use mathlib.Core.Path.{◌≡◌, refl, sym, ◌∙◌, ap, subst}
use mathlib.Core.List.{List, [], ◌∷◌, ◌++◌, map, Permᴰ as Perm}
use mathlib.Core.List.Permᴰ
use native.Mathlib.Omega.{arith}
use lib.ListN.{get_or, length, take, length-map}
use lib.Seq.{get_or-take, length-take-le, ext_get_or}
use Rattle.gsd_format.specs.declared.Entry.{Entry}
use Rattle.gsd_format.specs.Names.{index_of, Distinct}
use Rattle.gsd_format.specs.Entries.{frames_of}
use Rattle.gsd_format.specs.Lookup.{none}
use Rattle.gsd_format.proofs.Lists.{Each, Any, each_at, at_each, at-any}
use Rattle.gsd_stores.specs.Sheet.{Row, row_names}
use Rattle.gsd_stores.specs.View.{View}
use Rattle.gsd_stores.specs.Plan.{Plan, sorted}
use Rattle.gsd_stores.specs.Demand3.{no_row}
use Rattle.gsd_stores.proofs.Sorted.{Rising, Differing, sorted-is}
use Rattle.gsd_stores.proofs.Rows.{new-length, new-at, new-differing, all-has}
use Rattle.gsd_stores.proofs.Plan.{names_after, row_entries, row_entry, Planned}
use Rattle.gsd_ids.specs.Order.{Sorted, paired}
use Rattle.gsd_ids.specs.RowIds.{pair_of}

-- What holds of each element, or of each two, holds in any other order

perm-each : {A : Type 0} (P : A → Type 0) {a b : List A} → Perm a b → Each P a → Each P b
perm-each P Permᴰ.nil h = tt
perm-each P (Permᴰ.cons e d) h = (subst P e h.0, perm-each P d h.1)
perm-each P (Permᴰ.swap e f) h = (subst P f h.1.0, (subst P e h.0, h.1.1))
perm-each P (Permᴰ.trans c d) h = perm-each P d (perm-each P c h)

abbrev Unlike : Entry → Entry → Type 0
Unlike e x = e.id ≡ x.id → ⊥

perm-differing : {a b : List Entry} → Perm a b → Differing a → Differing b
perm-differing Permᴰ.nil h = tt
perm-differing (Permᴰ.cons {b = b} {l₁ = l} e d) h = (perm-each (Unlike b) d (subst (λ x. Each (Unlike x) l) e h.0), perm-differing d h.1)
perm-differing (Permᴰ.swap {l = l} e f) h =
    let unlike = h.0.0 in (
      (λ q. unlike (ap (λ x. x.id) e ∙ sym q ∙ ap (λ x. x.id) (sym f)), subst (λ x. Each (Unlike x) l) f h.1.0),
      (subst (λ x. Each (Unlike x) l) e h.0.1, h.1.1),
    )
perm-differing (Permᴰ.trans c d) h = perm-differing d (perm-differing c h)

-- each is one of them
each-self : (es : List Entry) → Each (λ x. Any (λ y. y ≡ x) es) es
each-self es = at_each _ es none (λ i l. at-any _ es none i l refl)

-- ids that do not fall and differ rise
rising : (es : List Entry) (least : ℕ) → ((i : ℕ) → i < length es → least ≤ (get_or es i none).id) →
    ((i j : ℕ) → i < j → j < length es → (get_or es i none).id ≤ (get_or es j none).id) → Differing es → Rising least es
rising [] least f up d = tt
rising (e ∷ es) least f up d = (
  f 0 (omega arith),
  rising es (e.id + 1)
      (λ i l.
      let unlike : (e.id ≡ (get_or es i none).id → ⊥) = each_at _ es none d.0 i l in
      omega (arith, up 0 (suc i) (omega arith) (omega arith)))
      (λ i j h l. up (suc i) (suc j) (omega arith) (omega arith)) d.1,
)

-- the same entries, none with a smaller id than one before it
sorted-perm : (es ys : List Entry) → Differing es → Perm ys es → ((i j : ℕ) → i < j → j < length ys → (get_or ys i none).id ≤ (get_or ys j none).id) → sorted es ≡ ys
sorted-perm es ys d same up =
    sorted-is es ys d (rising ys 0 (λ i l. omega arith) up (perm-differing (Permᴰ.symm same) d))
    (perm-each _ same (each-self ys)) (perm-each _ (Permᴰ.symm same) (each-self es))

map_at : {A B : Type 0} (f : A → B) (l : List A) (i : ℕ) (a : A) (b : B) → i < length l → get_or (map f l) i b ≡ f (get_or l i a)
map_at f [] i a b h = absurd (omega arith)
map_at f (x ∷ l) zero a b h = refl
map_at f (x ∷ l) (suc i) a b h = map_at f l i a b (omega arith)

-- The rows' ids and rows as numbers, in order

module _ (v : View) (rs : List Row) (p : Plan) (plan : Planned v rs p) (distinct : Distinct (row_names rs)) (few : length rs ≤ 64) where
  abbrev pub id_of : ℕ → ℕ
  id_of i = index_of (get_or rs i no_row).name (names_after v p)

  -- a row and its id
  pub record Pair (x : ℕ) : Type 0 where
    pub row : x % 64 < length rs
    pub id : x / 64 ≡ id_of (x % 64)

  abbrev pub entry_of : ℕ → Entry
  entry_of x = row_entry v rs p (x % 64)

  -- xs are the rows with their ids, ys the same in order
  module _ (xs ys : List ℕ) (pairs : (i : ℕ) → i < length rs → get_or xs i 0 ≡ pair_of v.names rs i) (long : length rs ≤ length xs) (s : Sorted xs (length rs) ys) where
    abbrev n : ℕ
    n = length rs

    pair_is : (i : ℕ) → i < n → get_or xs i 0 ≡ paired (id_of i) i
    pair_is i l = pairs i l ∙ ap (λ ns. paired (index_of (get_or rs i no_row).name (v.names ++ ns)) i) (sym plan.fresh)

    first-pairs : Each Pair (take n xs)
    first-pairs = at_each Pair (take n xs) 0 (λ i l.
        let k : i < n = omega (arith, length-take-le n xs long) in
        let e : get_or (take n xs) i 0 ≡ paired (id_of i) i = get_or-take n xs i 0 k ∙ pair_is i k in
        let r : paired (id_of i) i % 64 ≡ i = omega arith in
        rw e (record { row = omega arith; id = rw r (omega arith) }))

    long-sorted : length (take n ys) ≡ n
    long-sorted = length-take-le n ys (omega (arith, s.long))

    -- in order they are pairs still
    pub pair-at : (i : ℕ) → i < n → Pair (get_or ys i 0)
    pair-at i l = rw (sym (get_or-take n ys i 0 l)) (each_at Pair (take n ys) 0 (perm-each Pair (Permᴰ.symm s.same) first-pairs) i (rw long-sorted l))

    entries-are : map entry_of (take n xs) ≡ row_entries v rs p
    entries-are =
        ext_get_or none (map entry_of (take n xs)) (row_entries v rs p)
        (length-map (take n xs) entry_of ∙ length-take-le n xs long ∙ sym (new-length rs p.start (frames_of v.entries) (names_after v p))) (λ i l.
        let k : i < n = omega (arith, length-map (take n xs) entry_of, length-take-le n xs long) in
        let r : get_or (take n xs) i 0 % 64 ≡ i = omega (arith, get_or-take n xs i 0 k, pair_is i k) in
        map_at entry_of (take n xs) i 0 none (omega (arith, length-take-le n xs long))
        ∙ ap (row_entry v rs p) r ∙ sym (new-at rs p.start (frames_of v.entries) (names_after v p) i k))

    entry-of : (i : ℕ) → i < n → get_or (map entry_of (take n ys)) i none ≡ entry_of (get_or ys i 0)
    entry-of i l = map_at entry_of (take n ys) i 0 none (rw long-sorted l) ∙ ap entry_of (get_or-take n ys i 0 l)

    -- ids do not fall
    up : (i j : ℕ) → i < j → j < length (map entry_of (take n ys)) → (get_or (map entry_of (take n ys)) i none).id ≤ (get_or (map entry_of (take n ys)) j none).id
    up i j h l =
        let k : j < n = omega (arith, length-map (take n ys) entry_of, long-sorted) in
        omega (
          arith,
          s.up i j h k,
          ap (λ e. e.id) (entry-of i (omega arith)),
          ap (λ e. e.id) (entry-of j k),
          (pair-at i (omega arith)).id,
          (pair-at j k).id,
        )

    -- the entry of the i-th slot is that of the row in the i-th pair
    pub entry_at : (i : ℕ) → i < n → get_or p.entries i none ≡ entry_of (get_or ys i 0)
    entry_at i l =
        let differing : Differing (row_entries v rs p) =
        new-differing rs p.start (frames_of v.entries) (names_after v p) (λ k m. rw plan.fresh (all-has v.names rs k m)) distinct in
        let same : Perm (map entry_of (take n ys)) (row_entries v rs p) = rw (sym entries-are) (Permᴰ.map entry_of s.same) in
        ap (λ es. get_or es i none) (plan.entries ∙ sorted-perm (row_entries v rs p) (map entry_of (take n ys)) differing same up) ∙ entry-of i l
