-- The names of a reader one after the other: the first of a list and the rest by the version, and how far a walk over them has come.
use Rattle.std.specs.Prelude.{Ok, Err, Option, Some, None}
use Prim.Native.Nat.{ℕ, zero, suc, ◌+◌, ◌-◌, ◌/◌, ◌≤◌, ◌<◌}
use mathlib.Core.Path.{◌≡◌, refl, sym, ◌∙◌, ap}
use mathlib.Core.Bool.{true, false, true≢false}
use mathlib.Core.List.{List, [], ◌∷◌, map}
use native.Mathlib.Nat.{add-zero, zero-add}
use native.Mathlib.Numerals.{add-one}
use native.Mathlib.Decide.{dec_lt}
use native.Mathlib.Omega.{arith}
use lib.ListN.{length, get_or, take, drop, length-take, length-drop, length-map}
use lib.Seq.{drop-cons, take-nil}
use Rattle.gsd_format.specs.declared.Part.{Part}
use Rattle.gsd_format.specs.declared.Reader.{Reader}
use Rattle.gsd_format.specs.Bytes.{same}
use Rattle.gsd_format.specs.Header.{v10, version10, version20}
use Rattle.gsd_format.specs.Names.{parts_at, segments_at, list_parts, bytes_of, index_of}
use Rattle.gsd_format.specs.Lookup.{nowhere}
use Rattle.gsd_format.specs.Readers.{parts_by, nth_part, names_by, ident_in}
use Rattle.gsd_format.proofs.Bytes.{same-eq, eq-same}
use Rattle.gsd_format.proofs.Ids.{index-here, index_on}
use Rattle.gsd_format.proofs.Names.{Full, parts_none, parts-end, parts-open, parts-step}
use Rattle.gsd_format.proofs.Segments.{before-is, segments-none, segments-end, segments-more, list-recent, list-10}
use Rattle.gsd_format.proofs.Readers.{part-there, part-behind, ident-there, ident-none, ident-is}
use Rattle.gsd_bytes.specs.Zeros.{FirstZero}
use Rattle.gsd_reader.specs.declared.names.Name.{Name}
use Rattle.gsd_reader.specs.Names.{NextName, NextIf, rest_of, NextPart}

-- The first name, by the first zero

module _ (img : List ℕ) (start stop at : ℕ) where
  -- 2.x
  module _ (z : FirstZero img start stop at) where
    pub joined_end : start ≤ stop → at ≡ start → list_parts version20 img start (stop - start) ≡ []
    joined_end l e = list-recent version20 img start (stop - start) refl ∙ go (dec_lt start stop)
      where
        go : Dec (start < stop) → parts_at img start start (stop - start) ≡ []
        go (yes h) = parts-end img start start (stop - start) refl (ap (λ i. get_or img i 0) (sym e) ∙ z.here (omega arith))
        go (no h) = ap (parts_at img start start) (let q : stop - start ≡ 0 = omega arith in q) ∙ parts_none img start start

    pub joined-open : start ≤ stop → at ≡ stop → list_parts version20 img start (stop - start) ≡ []
    joined-open l e =
        list-recent version20 img start (stop - start) refl
        ∙ parts-open img start start (stop - start) (λ k u. z.before (start + k) (omega arith) (omega arith))

    pub joined-name : (at ≡ start → ⊥) → (at ≡ stop → ⊥) → NextName version20 img start stop (record { «end» = at; next = at + 1 })
    joined-name a b =
        let k : ℕ = at - start in
        let closed : get_or img (start + k) 0 ≡ 0 =
        ap (λ i. get_or img i 0) (let q : start + k ≡ at = omega (arith, z.above) in q) ∙ z.here (omega (arith, z.within)) in
        record {
          above = z.above;
          short = omega arith;
          low = omega (arith, z.above);
          high = omega (arith, z.within);
          one = list-recent version20 img start (stop - start) refl
              ∙ ap (parts_at img start start) (let q : stop - start ≡ k + 1 + (stop - (at + 1)) = omega (arith, z.above, z.within) in q)
              ∙ parts-step img start k (stop - (at + 1)) (omega (arith, z.above)) (λ i u. z.before (start + i) (omega arith) (omega arith)) closed
              ∙ ap (λ i. record { start = start; size = k } ∷ parts_at img i i (stop - (at + 1)))
              (let q : start + k + 1 ≡ at + 1 = omega (arith, z.above) in q)
              ∙ ap (λ ps. record { start = start; size = k } ∷ ps) (sym (list-recent version20 img (at + 1) (stop - (at + 1)) refl));
        }

  -- 1.0
  module _ (z : FirstZero img start (start + 64) at) (room : 64 ≤ stop - start) where
    pub segment-end : at ≡ start → list_parts version10 img start (stop - start) ≡ []
    segment-end e =
        list-10 version10 img start (stop - start) refl
        ∙ segments-end img start ((stop - start) / 64) (ap (λ i. get_or img i 0) (sym e) ∙ z.here (omega arith))

    pub segment-name : (at ≡ start → ⊥) → NextName version10 img start stop (record { «end» = at; next = start + 64 })
    segment-name a =
        let k : ℕ = at - start in
        let full : Full img start k = λ i u. z.before (start + i) (omega arith) (omega arith) in
        let closed : (k < 64 → get_or img (start + k) 0 ≡ 0) =
        λ u. ap (λ i. get_or img i 0) (let q : start + k ≡ at = omega (arith, z.above) in q) ∙ z.here (omega (arith, z.above)) in
        let rest : ℕ = stop - (start + 64) in
        record {
          above = z.above;
          short = z.within;
          low = omega arith;
          high = omega arith;
          one = list-10 version10 img start (stop - start) refl
              ∙ ap (segments_at img start) (let q : (stop - start) / 64 ≡ suc (rest / 64) = omega arith in q)
              ∙ segments-more img start (rest / 64) k
              (λ e. full 0 (omega (arith, z.above)) (ap (λ i. get_or img i 0) (add-zero start) ∙ e))
              (before-is k img start 64 (omega (arith, z.within)) full closed)
              ∙ ap (λ ps. record { start = start; size = k } ∷ ps) (sym (list-10 version10 img (start + 64) rest refl));
        }

pub segment-short : (img : List ℕ) (start stop : ℕ) → stop - start < 64 → list_parts version10 img start (stop - start) ≡ []
segment-short img start stop h =
    list-10 version10 img start (stop - start) refl
    ∙ ap (segments_at img start) (let q : (stop - start) / 64 ≡ 0 = omega arith in q) ∙ segments-none img start

-- versions that are both 1.0, or both not, have the same names
pub next-alike : (a b : ℕ) (img : List ℕ) (start stop : ℕ) (r : Option Name) → v10 a ≡ v10 b → NextIf a img start stop r → NextIf b img start stop r
unfolding list_parts
next-alike a b img start stop r e = go r
  where
    alike : (at n : ℕ) → list_parts a img at n ≡ list_parts b img at n
    alike at n = λ i. elim (e i) [ true ↦ segments_at img at (n / 64) | false ↦ parts_at img at at n ]

    go : (r : Option Name) → NextIf a img start stop r → NextIf b img start stop r
    go None n = sym (alike start (stop - start)) ∙ n
    go (Some r) n = record {
      above = n.above;
      short = n.short;
      low = n.low;
      high = n.high;
      one = sym (alike start (stop - start)) ∙ n.one ∙ ap (λ ps. record { start = start; size = r.«end» - start } ∷ ps) (alike r.next (stop - r.next));
    }

-- The walk over them

-- so many names are passed, and the rest of the list starts here
pub record Passing (r : Reader) (img : List ℕ) (start i : ℕ) : Type 0 where
  pub high : start ≤ r.namelist + r.size
  pub most : i ≤ r.names
  pub few : i ≤ length (parts_by r img)
  pub rest : drop i (parts_by r img) ≡ take (r.names - i) (rest_of r img start)

module _ (r : Reader) (img : List ℕ) where
  pub passing-start : Passing r img r.namelist 0
  passing-start =
      let all : r.names ≡ r.names - 0 = omega arith in
      let whole : r.size ≡ r.namelist + r.size - r.namelist = omega arith in
      record {
        high = omega arith;
        most = omega arith;
        few = omega arith;
        rest = λ i. take (all i) (list_parts r.version img r.namelist (whole i));
      }

  -- all are passed
  none_left : (i : ℕ) → i ≤ length (parts_by r img) → drop i (parts_by r img) ≡ [] → length (parts_by r img) ≡ i
  none_left i l e = omega (arith, length-drop i (parts_by r img), ap length e)

  module _ (start i : ℕ) (p : Passing r img start i) where
    pub passing-full : r.names ≤ i → length (parts_by r img) ≡ i
    passing-full l =
        none_left i p.few
        (p.rest ∙ ap (λ n. take n (rest_of r img start)) (let q : r.names - i ≡ 0 = omega arith in q))

    pub passing-end : rest_of r img start ≡ [] → length (parts_by r img) ≡ i
    passing-end e = none_left i p.few (p.rest ∙ ap (take (r.names - i)) e ∙ take-nil (r.names - i))

    module _ (this : Part) (on : ℕ) (next : NextPart r img start this on) (more : i < r.names) where
      abbrev behind : List Part
      behind = take (r.names - (i + 1)) (rest_of r img on)

      left : drop i (parts_by r img) ≡ this ∷ behind
      left =
          p.rest ∙ ap (take (r.names - i)) next.one
          ∙ ap (λ k. take k (this ∷ rest_of r img on)) (let q : r.names - i ≡ suc (r.names - (i + 1)) = omega arith in q)

      pub passing-some : i < length (parts_by r img)
      passing-some = omega (arith, length-drop i (parts_by r img), ap length left)

      cons : get_or (parts_by r img) i nowhere ∷ drop (suc i) (parts_by r img) ≡ this ∷ behind
      cons = sym (drop-cons (parts_by r img) i nowhere passing-some) ∙ left

      pub passing-here : get_or (parts_by r img) i nowhere ≡ this
      passing-here = ap (λ ps. get_or ps 0 nowhere) cons

      pub passing-on : Passing r img on (i + 1)
      passing-on = record {
        high = next.high;
        most = omega arith;
        few = omega (arith, passing-some);
        rest = ap (λ k. drop k (parts_by r img)) (let q : i + 1 ≡ suc i = omega arith in q) ∙ ap (drop 1) cons;
      }

  -- the bytes from a part's start to its end
  pub part-bytes : (p : Part) → take (p.start + p.size - p.start) (drop p.start img) ≡ bytes_of img p
  part-bytes p = ap (λ n. take n (drop p.start img)) (let q : p.start + p.size - p.start ≡ p.size = omega arith in q)

  -- none of the names that are passed is the one sought
  abbrev pub NoneOf : List ℕ → ℕ → Type 0
  NoneOf name i = index_of name (names_by r img) ≡ i + index_of name (map (bytes_of img) (drop i (parts_by r img)))

  pub none-start : (name : List ℕ) → NoneOf name 0
  none-start name = sym (zero-add (index_of name (names_by r img)))

  -- and none of all
  pub none-all : (name : List ℕ) (i : ℕ) → NoneOf name i → length (parts_by r img) ≡ i → ident_in (names_by r img) name ≡ Err 41
  none-all name i h e = ident-none (names_by r img) name (omega (arith, h, length-map (parts_by r img) (bytes_of img)))

  module _ (name : List ℕ) (i : ℕ) (some : i < length (parts_by r img)) (b : List ℕ) (is : b ≡ bytes_of img (get_or (parts_by r img) i nowhere))
      (h : NoneOf name i) where
    first : map (bytes_of img) (drop i (parts_by r img)) ≡ b ∷ map (bytes_of img) (drop (suc i) (parts_by r img))
    first =
        ap (map (bytes_of img)) (drop-cons (parts_by r img) i nowhere some)
        ∙ ap (λ c. c ∷ map (bytes_of img) (drop (suc i) (parts_by r img))) (sym is)

    pub name-found : same name b ≡ true → ident_in (names_by r img) name ≡ Ok i
    name-found e =
        let at : index_of name (names_by r img) ≡ i =
        omega (arith, h, ap (index_of name) first, index-here name b (map (bytes_of img) (drop (suc i) (parts_by r img))) (same-eq name b e)) in
        ident-there (names_by r img) name (omega (arith, at, length-map (parts_by r img) (bytes_of img))) ∙ ap Ok at

    pub name-passed : same name b ≡ false → NoneOf name (i + 1)
    name-passed e =
        let differ : (name ≡ b → ⊥) = λ q. true≢false (sym (eq-same name b q) ∙ e) in
        omega (
          arith,
          h,
          ap (index_of name) first,
          index_on name b (map (bytes_of img) (drop (suc i) (parts_by r img))) differ,
          ap (λ k. index_of name (map (bytes_of img) (drop k (parts_by r img)))) (let q : i + 1 ≡ suc i = omega arith in q),
        )

  pub none-before : (name : List ℕ) (n : ℕ) → n ≤ length (parts_by r img) →
      ((i : ℕ) → i < n → same name (bytes_of img (get_or (parts_by r img) i nowhere)) ≡ false) → NoneOf name n
  none-before name zero l h = none-start name
  none-before name (suc n) l h =
      name-passed name n (omega arith) _ refl (none-before name n (omega arith) (λ i u. h i (omega arith))) (h n (omega arith))
      ∙ ap (λ k. k + index_of name (map (bytes_of img) (drop k (parts_by r img)))) (add-one n)

  -- the n-th name, passed to or not there
  pub part-here : (n i : ℕ) → i ≡ n → i < length (parts_by r img) → (p : Part) → get_or (parts_by r img) i nowhere ≡ p → nth_part (parts_by r img) n ≡ Ok p
  part-here n i e l p h =
      part-there (parts_by r img) n (omega arith) ∙ ap Ok (ap (λ j. get_or (parts_by r img) j nowhere) (sym e) ∙ h)

  pub part_none : (n i : ℕ) → i ≤ n → length (parts_by r img) ≡ i → nth_part (parts_by r img) n ≡ Err 44
  part_none n i l e = part-behind (parts_by r img) n (omega arith)

  pub part_unlisted : (n : ℕ) → ((i : ℕ) → i < length (parts_by r img) → i ≡ n → ⊥) → nth_part (parts_by r img) n ≡ Err 44
  part_unlisted n h = go (dec_lt n (length (parts_by r img)))
    where
      go : Dec (n < length (parts_by r img)) → nth_part (parts_by r img) n ≡ Err 44
      go (yes l) = absurd (h n l refl)
      go (no l) = part_none n (length (parts_by r img)) (omega arith) refl

  -- an id that is found is below the number of names
  pub ident-low : (name : List ℕ) (id : ℕ) → ident_in (names_by r img) name ≡ Ok id → id < r.names
  ident-low name id h =
      omega (
        arith,
        (ident-is (names_by r img) name id h).1,
        length-map (parts_by r img) (bytes_of img),
        length-take r.names (list_parts r.version img r.namelist r.size),
      )
