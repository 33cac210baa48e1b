-- Laws of what an append makes of its rows: the data, the new names, and the new entries in row order.
use Prim.Native.Nat.{ℕ, zero, suc, ◌+◌, ◌-◌, ◌%◌, ◌≤◌, ◌<◌}
use mathlib.Core.Path.{◌≡◌, refl, sym, ◌∙◌, ap}
use mathlib.Core.Logic.{inl, inr}
use mathlib.Core.List.{List, [], ◌∷◌, ◌++◌}
use native.Mathlib.Decide.{dec_lt}
use native.Mathlib.Omega.{arith}
use lib.ListN.{length, get_or, take, length-append, length-replicate}
use lib.Seq.{take-suc, take-length}
use borrow.Author.Tests.{lt-ltb, le-ltb}
use Rattle.gsd_format.specs.declared.Entry.{Entry}
use Rattle.gsd_format.specs.Bytes.{zeros, round_up}
use Rattle.gsd_format.specs.Header.{aligned}
use Rattle.gsd_format.specs.Names.{index_of, Has, Lacks, Distinct}
use Rattle.gsd_format.specs.Lookup.{none}
use Rattle.gsd_format.proofs.Lists.{Each, Any, each_at, at_each, at-any, map_each}
use Rattle.gsd_format.proofs.Bytes.{Text}
use Rattle.gsd_format.proofs.Ids.{index-here, index_on, index-inj, index-behind, distinct_append}
use Rattle.gsd_format.proofs.Ids.{has-any, any-has, has-front, has-back, lacks-each, each-lacks}
use Rattle.gsd_stores.specs.Sheet.{Row, row_names}
use Rattle.gsd_stores.specs.Plan.{padded, bodies, end_from, body_place, new_names, new_entries}
use Rattle.gsd_stores.specs.Demand3.{no_row}
use Rattle.gsd_stores.proofs.Texts.{Stand, end_more}
use Rattle.gsd_stores.proofs.Sorted.{Differing}

-- The data

pub padded-length : (b : List ℕ) → length (padded b) ≡ round_up 8 (length b)
padded-length b = simp (length-append, length-replicate) (omega arith)

-- zeros behind a text change no byte: there a byte reads as 0
zeros-behind : (b : List ℕ) (n k : ℕ) → get_or (b ++ zeros n) k 0 ≡ get_or b k 0
zeros-behind [] zero k = refl
zeros-behind [] (suc n) zero = refl
zeros-behind [] (suc n) (suc k) = zeros-behind [] n k
zeros-behind (c ∷ b) n zero = refl
zeros-behind (c ∷ b) n (suc k) = zeros-behind b n k

pub padded-byte : (b : List ℕ) (k : ℕ) → get_or (padded b) k 0 ≡ get_or b k 0
padded-byte b k = zeros-behind b (round_up 8 (length b) - length b) k

pub place-first : (pos : ℕ) (rs : List Row) → end_from pos (bodies (take 0 rs)) ≡ pos
unfolding bodies end_from
place-first pos rs = refl

-- the position behind row i
pub place-next : (rs : List Row) (pos i : ℕ) → i < length rs →
    end_from pos (bodies (take (suc i) rs)) ≡ body_place pos rs i + round_up 8 (length (get_or rs i no_row).body)
unfolding bodies end_from
place-next [] pos i l = absurd (omega arith)
place-next (r ∷ rs) pos zero l = ap (λ n. aligned pos + n) (padded-length r.body)
place-next (r ∷ rs) pos (suc i) l = place-next rs (aligned pos + length (padded r.body)) i (omega arith)

pub place-last : (pos : ℕ) (rs : List Row) → end_from pos (bodies (take (length rs) rs)) ≡ end_from pos (bodies rs)
place-last pos rs = ap (λ l. end_from pos (bodies l)) (take-length rs)

pub place-low : (pos : ℕ) (rs : List Row) (i : ℕ) → pos ≤ body_place pos rs i
place-low pos rs i = omega (arith, end_more (bodies (take i rs)) pos)

pub place_inside : (rs : List Row) (pos i : ℕ) → i < length rs →
    body_place pos rs i + round_up 8 (length (get_or rs i no_row).body) ≤ end_from pos (bodies rs)
unfolding bodies end_from
place_inside [] pos i l = absurd (omega arith)
place_inside (r ∷ rs) pos zero l = omega (arith, end_more (bodies rs) (aligned pos + length (padded r.body)), padded-length r.body)
place_inside (r ∷ rs) pos (suc i) l = place_inside rs (aligned pos + length (padded r.body)) i (omega arith)

-- whole words
pub bodies-even : (rs : List Row) → Each (λ b. length b % 8 ≡ 0) (bodies rs)
unfolding bodies
bodies-even [] = tt
bodies-even (r ∷ rs) = (omega (arith, padded-length r.body), bodies-even rs)

pub end-even : (bs : List (List ℕ)) (pos : ℕ) → pos % 8 ≡ 0 → Each (λ b. length b % 8 ≡ 0) bs → end_from pos bs % 8 ≡ 0
unfolding end_from
end-even [] pos h e = h
end-even (b ∷ bs) pos h e = end-even bs (aligned pos + length b) (omega (arith, e.0)) e.1

-- where all data stand, the i-th row's data stand
pub body-text : (rs : List Row) (x : List ℕ) (pos : ℕ) → Stand x pos (bodies rs) → (i : ℕ) → i < length rs →
    Text x (body_place pos rs i) (get_or rs i no_row).body
unfolding bodies end_from Stand
body-text [] x pos h i l = absurd (omega arith)
body-text (r ∷ rs) x pos h zero l = λ k m. h.0 k (omega (arith, padded-length r.body)) ∙ padded-byte r.body k
body-text (r ∷ rs) x pos h (suc i) l = body-text rs x (aligned pos + length (padded r.body)) h.1 i (omega arith)

-- The new names

-- row by row: a listed name is passed over, any other is new
pub data New (names : List (List ℕ)) : List Row → List (List ℕ) → Type 0 where
  nothing : New names [] []
  listed : {r : Row} {rs : List Row} {ns : List (List ℕ)} → Has r.name names → New names rs ns → New names (r ∷ rs) ns
  unlisted : {r : Row} {rs : List Row} {ns : List (List ℕ)} → Lacks r.name names → New names rs ns → New names (r ∷ rs) (r.name ∷ ns)

pub new-listed : (names : List (List ℕ)) (r : Row) (rs : List Row) → Has r.name names → new_names names (r ∷ rs) ≡ new_names names rs
unfolding new_names
new-listed names r rs h = rw (lt-ltb _ _ h, new_names)

pub new-unlisted : (names : List (List ℕ)) (r : Row) (rs : List Row) → Lacks r.name names → new_names names (r ∷ rs) ≡ r.name ∷ new_names names rs
unfolding new_names
new-unlisted names r rs h = rw (le-ltb _ _ h, new_names)

pub new-names : (names : List (List ℕ)) (rs : List Row) → New names rs (new_names names rs)
unfolding new_names
new-names names [] = nothing
new-names names (r ∷ rs) = go (new-names names rs) (dec_lt (index_of r.name names) (length names))
  where
    go : New names rs (new_names names rs) → Dec (Has r.name names) → New names (r ∷ rs) (new_names names (r ∷ rs))
    go f (yes h) = rw (new-listed names r rs h) (listed h f)
    go f (no h) = let g : Lacks r.name names = omega arith in rw (new-unlisted names r rs g) (unlisted g f)

-- where r's name is none of theirs, the rows have other names
others : (r : Row) (rs : List Row) → Lacks r.name (row_names rs) → Each (λ q. q.name ≡ r.name → ⊥) rs
others r rs h = map_each (λ b. b ≡ r.name → ⊥) (λ q. q.name) rs (lacks-each r.name (row_names rs) h)

module _ {names : List (List ℕ)} where
  pub new_is : {rs : List Row} {ns : List (List ℕ)} → New names rs ns → new_names names rs ≡ ns
  unfolding new_names
  new_is nothing = refl
  new_is (listed {r} {rs} h n) = new-listed names r rs h ∙ new_is n
  new_is (unlisted {r} {rs} h n) = new-unlisted names r rs h ∙ ap (λ ns. r.name ∷ ns) (new_is n)

  pub new-append : {rs qs : List Row} {ns ms : List (List ℕ)} → New names rs ns → New names qs ms → New names (rs ++ qs) (ns ++ ms)
  new-append nothing m = m
  new-append (listed h n) m = listed h (new-append n m)
  new-append (unlisted h n) m = unlisted h (new-append n m)

  pub new-few : {rs : List Row} {ns : List (List ℕ)} → New names rs ns → length ns ≤ length rs
  new-few nothing = omega arith
  new-few (listed h n) = omega (arith, new-few n)
  new-few (unlisted h n) = omega (arith, new-few n)

  -- none is listed
  pub new-lack : {rs : List Row} {ns : List (List ℕ)} → New names rs ns → Each (λ b. Lacks b names) ns
  new-lack nothing = tt
  new-lack (listed h n) = new-lack n
  new-lack (unlisted h n) = (h, new-lack n)

  -- each is a row's name: what holds of all rows' names holds of the new ones
  pub new-each : (P : List ℕ → Type 0) {rs : List Row} {ns : List (List ℕ)} → New names rs ns → Each (λ r. P r.name) rs → Each P ns
  new-each P nothing f = tt
  new-each P (listed h n) f = new-each P n f.1
  new-each P (unlisted h n) f = (f.0, new-each P n f.1)

  pub new-row : {rs : List Row} {ns : List (List ℕ)} → New names rs ns → Each (λ b. Any (λ r. r.name ≡ b) rs) ns
  new-row {rs} n = new-each (λ b. Any (λ r. r.name ≡ b) rs) n (at_each _ rs no_row (λ i l. at-any _ rs no_row i l refl))

  -- and every row's name that is not listed is new
  new-has : {rs : List Row} {ns : List (List ℕ)} → New names rs ns → (i : ℕ) → i < length rs → Lacks (get_or rs i no_row).name names →
      Has (get_or rs i no_row).name ns
  new-has nothing i l k = absurd (omega arith)
  new-has (listed h n) zero l k = absurd (omega arith)
  new-has (listed h n) (suc i) l k = new-has n i (omega arith) k
  new-has (unlisted {r} {rs} {ns} h n) zero l k = any-has r.name (r.name ∷ ns) (inl refl)
  new-has (unlisted {r} {rs} {ns} h n) (suc i) l k = any-has _ (r.name ∷ ns) (inr (has-any _ ns (new-has n i (omega arith) k)))

  -- they differ where the rows' names do
  pub new-distinct : {rs : List Row} {ns : List (List ℕ)} → New names rs ns → Distinct (row_names rs) → Distinct ns
  new-distinct nothing d = tt
  new-distinct (listed h n) d = new-distinct n d.1
  new-distinct (unlisted {r} {rs} {ns} h n) d = (each-lacks r.name ns (new-each (λ b. b ≡ r.name → ⊥) n (others r rs d.0)), new-distinct n d.1)

  -- a new name's place is the number of new names of the rows before it
  new-place : {rs : List Row} {ns : List (List ℕ)} → New names rs ns → Distinct (row_names rs) → (i : ℕ) → i < length rs → Lacks (get_or rs i no_row).name names →
      index_of (get_or rs i no_row).name ns ≡ length (new_names names (take i rs))
  unfolding new_names
  new-place nothing d i l k = absurd (omega arith)
  new-place (listed h n) d zero l k = absurd (omega arith)
  new-place (listed {r} {rs} h n) d (suc i) l k = new-place n d.1 i (omega arith) k ∙ sym (ap length (new-listed names r (take i rs) h))
  new-place (unlisted {r} {rs} {ns} h n) d zero l k = index-here r.name r.name ns refl
  new-place (unlisted {r} {rs} {ns} h n) d (suc i) l k =
      index_on (get_or rs i no_row).name r.name ns (each_at _ rs no_row (others r rs d.0) i (omega arith))
      ∙ ap suc (new-place n d.1 i (omega arith) k) ∙ sym (ap length (new-unlisted names r (take i rs) h))

module _ (names : List (List ℕ)) (rs : List Row) where
  -- no two of all names, old and new, are equal
  pub all-distinct : Distinct names → Distinct (row_names rs) → Distinct (names ++ new_names names rs)
  all-distinct d e = distinct_append names (new_names names rs) d (new-distinct (new-names names rs) e) (new-lack (new-names names rs))

  -- every row's name is among all names: listed, or new
  pub all-has : (i : ℕ) → i < length rs → Has (get_or rs i no_row).name (names ++ new_names names rs)
  all-has i l = go (dec_lt (index_of (get_or rs i no_row).name names) (length names))
    where
      go : Dec (Has (get_or rs i no_row).name names) → Has (get_or rs i no_row).name (names ++ new_names names rs)
      go (yes h) = has-front _ names (new_names names rs) h
      go (no h) = has-back _ names (new_names names rs) (new-has (new-names names rs) i l (omega arith))

  -- a new name's id: the new names follow the listed ones in row order
  pub new-id : Distinct (row_names rs) → (i : ℕ) → i < length rs → Lacks (get_or rs i no_row).name names →
      index_of (get_or rs i no_row).name (names ++ new_names names rs) ≡ length names + length (new_names names (take i rs))
  new-id d i l k = index-behind _ names (new_names names rs) k ∙ ap (λ n. length names + n) (new-place (new-names names rs) d i l k)

  -- one row more
  pub new-next : (i : ℕ) → i < length rs → new_names names (take (suc i) rs) ≡ new_names names (take i rs) ++ new_names names (get_or rs i no_row ∷ [])
  new-next i l = ap (new_names names) (take-suc rs i no_row l) ∙ new_is (new-append (new-names names (take i rs)) (new-names names (get_or rs i no_row ∷ [])))

-- The new entries

-- a row's entry, its data at pos
abbrev pub new_entry : ℕ → ℕ → List (List ℕ) → Row → Entry
new_entry pos frame names r = record { frame = frame; n = r.n; location = pos; m = r.m; id = index_of r.name names; kind = r.kind; flags = 0 }

pub new-length : (rs : List Row) (pos frame : ℕ) (names : List (List ℕ)) → length (new_entries pos frame names rs) ≡ length rs
unfolding new_entries
new-length [] pos frame names = refl
new-length (r ∷ rs) pos frame names = ap suc (new-length rs (aligned pos + length (padded r.body)) frame names)

pub new-at : (rs : List Row) (pos frame : ℕ) (names : List (List ℕ)) (i : ℕ) → i < length rs →
    get_or (new_entries pos frame names rs) i none ≡ new_entry (body_place pos rs i) frame names (get_or rs i no_row)
unfolding new_entries bodies end_from
new-at [] pos frame names i l = absurd (omega arith)
new-at (r ∷ rs) pos frame names zero l = refl
new-at (r ∷ rs) pos frame names (suc i) l = new-at rs (aligned pos + length (padded r.body)) frame names i (omega arith)

-- rows of different names have entries of different ids
pub new-differing : (rs : List Row) (pos frame : ℕ) (all : List (List ℕ)) → ((i : ℕ) → i < length rs → Has (get_or rs i no_row).name all) → Distinct (row_names rs) →
    Differing (new_entries pos frame all rs)
unfolding new_entries
new-differing [] pos frame all h d = tt
new-differing (r ∷ rs) pos frame all h d = (
  at_each _ (new_entries next frame all rs) none (λ i l. other i (rw (new-length rs next frame all) at l)),
  new-differing rs next frame all (λ i l. h (suc i) (omega arith)) d.1,
)
  where
    next : ℕ
    next = aligned pos + length (padded r.body)

    other : (i : ℕ) → i < length rs → index_of r.name all ≡ (get_or (new_entries next frame all rs) i none).id → ⊥
    other i l e =
        let same : index_of r.name all ≡ index_of (get_or rs i no_row).name all = rw (new-at rs next frame all i l) at e in
        each_at _ rs no_row (others r rs d.0) i l (sym (index-inj r.name (get_or rs i no_row).name all (h 0 (omega arith)) same))
