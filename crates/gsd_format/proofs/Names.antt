-- The name list by its bytes: the walk over a name block lists ns exactly when the bytes of ns stand there, each name with
-- its zero, and then the block ends or a zero follows.
use Prim.Native.Nat.{ℕ, zero, suc, ◌+◌, ◌*◌, ◌-◌, ◌≤◌, ◌<◌}
use mathlib.Core.Path.{◌≡◌, refl, sym, ◌∙◌, ap}
use mathlib.Core.Bool.{Bool, true, false, not, ◌&&◌}
use mathlib.Core.List.{List, [], ◌∷◌, ◌++◌, map, map-append, append_assoc, append-nil, append_cancel_left}
use native.Mathlib.Nat.{zero-add, add-zero, suc-add}
use native.Mathlib.Decide.{ℕ_discrete, dec_lt}
use native.Mathlib.Omega.{arith}
use lib.ListN.{length, get_or, take, length-append, length-map}
use lib.Dec.{ltb, eqb}
use borrow.Author.Tests.{eqb-true, eq-eqb, ne_eqb, lt-ltb, le-ltb, not-false}
use borrow.Author.Count.{below_more}
use Rattle.gsd_format.specs.declared.Layout.{Layout}
use Rattle.gsd_format.specs.declared.Part.{Part}
use Rattle.gsd_format.specs.Bytes.{part, zero_in}
use Rattle.gsd_format.specs.Header.{v10, layout_of}
use Rattle.gsd_format.specs.Refusals.{◌⇒◌, ◌▹◌}
use Rattle.gsd_format.specs.Names.{parts_at, segments_at, block_parts, name_parts, names_of, block_names, names_at, bytes_of, flat, Distinct}
use Rattle.gsd_format.specs.Opening.{most_names, unclosed, unclosed_from, open_name, twins, names_test}
use Rattle.gsd_format.proofs.Lists.{Each, each_append, each-so}
use Rattle.gsd_format.proofs.Refusals.{both, none_of, unmet, passed, not-less, less-no}
use Rattle.gsd_format.proofs.Ids.{twins-distinct, distinct-twins}
use Rattle.gsd_format.proofs.Bytes.{Same, Text, same-tail, same_from, no_zero, part_length, part_at}
use Rattle.gsd_format.proofs.Texts.{place, byte_inside, text-part, part-text, text-kept}
use Rattle.gsd_format.proofs.Texts.{text_head, text-tail, text-cons, text-front, text-back, text-append}

-- no byte of the n from at is zero
abbrev pub Full : List ℕ → ℕ → ℕ → Type 0
Full x at n = (k : ℕ) → k < n → get_or x (at + k) 0 ≡ 0 → ⊥

-- a name is not empty and has no zero byte
pub record Named (b : List ℕ) : Type 0 where
  pub some : 0 < length b
  pub full : (k : ℕ) → k < length b → get_or b k 0 ≡ 0 → ⊥

-- the names ns stand from at on, within n bytes, whatever follows
pub record Holds (x : List ℕ) (at n : ℕ) (ns : List (List ℕ)) : Type 0 where
  pub few : length (flat ns) ≤ n
  pub each : Text x at (flat ns)
  pub good : Each Named ns

-- the names ns are the list in the n bytes from at: behind them the block ends, or a zero follows
pub record IsNames (x : List ℕ) (at n : ℕ) (ns : List (List ℕ)) : Type 0 where
  pub few : length (flat ns) ≤ n
  pub each : Text x at (flat ns)
  pub good : Each Named ns
  pub closed : length (flat ns) < n → get_or x (at + length (flat ns)) 0 ≡ 0

pub is-holds : (x : List ℕ) (at n : ℕ) (ns : List (List ℕ)) → IsNames x at n ns → Holds x at n ns
is-holds x at n ns h = record { few = h.few; each = h.each; good = h.good }

-- where names lie that are laid out from at on
unfoldable pub parts_of : ℕ → List (List ℕ) → List Part
parts_of at [] = []
parts_of at (b ∷ ns) = record { start = at; size = length b } ∷ parts_of (at + length b + 1) ns

-- Names, and the bytes of a list of them

pub named : (b : List ℕ) → 0 < length b → zero_in b 0 (length b) ≡ false → Named b
named b l h = record { some = l; full = λ k m z. no_zero b 0 (length b) h k m (place b (0 + k) k (omega arith) ∙ z) }

-- bytes that are not zero are a name, and lie in the image
pub name-inside : (x : List ℕ) (at k : ℕ) → 0 < k → Full x at k → at + k ≤ length x
name-inside x at k l f = omega (arith, byte_inside x (at + (k - 1)) (f (k - 1) (omega arith)))

pub part-named : (x : List ℕ) (at k : ℕ) → 0 < k → Full x at k → Named (part x at k)
part-named x at k l f =
    let e : length (part x at k) ≡ k = part_length x at k (name-inside x at k l f) in
    record { some = omega arith; full = λ i m z. f i (omega arith) (sym (part_at x at k i (omega arith)) ∙ z) }

pub text-full : (x : List ℕ) (at : ℕ) (b : List ℕ) → Named b → Text x at b → Full x at (length b)
text-full x at b h t k l z = h.full k l (sym (t k l) ∙ z)

pub flat-none : flat [] ≡ []
unfolding flat
flat-none = refl

pub flat_append : (ns ms : List (List ℕ)) → flat (ns ++ ms) ≡ flat ns ++ flat ms
unfolding flat
flat_append [] ms = refl
flat_append (b ∷ ns) ms = ap (λ r. b ++ 0 ∷ r) (flat_append ns ms) ∙ sym (append_assoc b (0 ∷ flat ns) (flat ms))

pub flat-size : (b : List ℕ) (ns : List (List ℕ)) → length (flat (b ∷ ns)) ≡ length b + 1 + length (flat ns)
unfolding flat
flat-size b ns = omega (arith, length-append b (0 ∷ flat ns))

pub flat-sizes : (ns ms : List (List ℕ)) → length (flat (ns ++ ms)) ≡ length (flat ns) + length (flat ms)
flat-sizes ns ms = ap length (flat_append ns ms) ∙ length-append (flat ns) (flat ms)

pub flat-more : (ns : List (List ℕ)) (b : List ℕ) → length (flat (ns ++ b ∷ [])) ≡ length (flat ns) + length b + 1
flat-more ns b = omega (arith, flat-sizes ns (b ∷ []), flat-size b [], ap length flat-none)

-- there are no more names than bytes
pub flat-long : (ns : List (List ℕ)) → length ns ≤ length (flat ns)
flat-long [] = omega arith
flat-long (b ∷ ns) = omega (arith, flat-size b ns, flat-long ns)

-- the first name's bytes, its zero, the others' bytes
pub text-name : (b : List ℕ) (ns : List (List ℕ)) (x : List ℕ) (at : ℕ) → Text x at (flat (b ∷ ns)) →
    Text x at b × (get_or x (at + length b) 0 ≡ 0) × Text x (at + length b + 1) (flat ns)
unfolding flat
text-name b ns x at t =
    let r : Text x (at + length b) (0 ∷ flat ns) = text-back x at b (0 ∷ flat ns) t in
    (text-front x at b (0 ∷ flat ns) t, text_head x (at + length b) 0 (flat ns) r, text-tail x (at + length b) 0 (flat ns) r)

pub name-text : (b : List ℕ) (ns : List (List ℕ)) (x : List ℕ) (at : ℕ) → Text x at b → get_or x (at + length b) 0 ≡ 0 →
    Text x (at + length b + 1) (flat ns) → Text x at (flat (b ∷ ns))
unfolding flat
name-text b ns x at t z r = text-append x at b (0 ∷ flat ns) t (text-cons x (at + length b) 0 (flat ns) z r)

-- The steps of the walk

pub parts_none : (x : List ℕ) (start at : ℕ) → parts_at x start at 0 ≡ []
unfolding parts_at
parts_none x start at = refl

-- a name that would start with zero
pub parts-end : (x : List ℕ) (start at n : ℕ) → start ≡ at → get_or x at 0 ≡ 0 → parts_at x start at n ≡ []
unfolding parts_at
parts-end x start at zero e z = refl
parts-end x start at (suc n) e z = rw (z, eq-eqb start at e, parts_at)

-- a name's zero
pub parts-close : (x : List ℕ) (start at n : ℕ) → (start ≡ at → ⊥) → get_or x at 0 ≡ 0 →
    parts_at x start at (suc n) ≡ record { start = start; size = at - start } ∷ parts_at x (at + 1) (at + 1) n
unfolding parts_at
parts-close x start at n e z = rw (z, ne_eqb start at e, parts_at)

-- a name's byte
pub parts-on : (x : List ℕ) (start at n : ℕ) → (get_or x at 0 ≡ 0 → ⊥) → parts_at x start at (suc n) ≡ parts_at x start (at + 1) n
unfolding parts_at
parts-on x start at n z = rw (ne_eqb (get_or x at 0) 0 z, parts_at)

-- k bytes of a name
pub parts-walk : (k : ℕ) (x : List ℕ) (start at n : ℕ) → Full x at k → parts_at x start at (k + n) ≡ parts_at x start (at + k) n
parts-walk zero x start at n f = simp (zero-add, add-zero)
parts-walk (suc k) x start at n f =
    ap (parts_at x start at) (suc-add k n) ∙ parts-on x start at (k + n) (λ z. f 0 (omega arith) (place x (at + 0) at (omega arith) ∙ z))
    ∙ parts-walk k x start (at + 1) n (λ i l z. f (suc i) (omega arith) (place x (at + suc i) (at + 1 + i) (omega arith) ∙ z))
    ∙ ap (λ i. parts_at x start i n) (let e : at + 1 + k ≡ at + suc k = omega arith in e)

-- a name that no zero closes
pub parts-open : (x : List ℕ) (start at n : ℕ) → Full x at n → parts_at x start at n ≡ []
parts-open x start at n f = ap (parts_at x start at) (sym (add-zero n)) ∙ parts-walk n x start at 0 f ∙ parts_none x start (at + n)

-- the zero of a name of k bytes
parts-zero : (x : List ℕ) (at k n : ℕ) → 0 < k → get_or x (at + k) 0 ≡ 0 →
    parts_at x at (at + k) (suc n) ≡ record { start = at; size = k } ∷ parts_at x (at + k + 1) (at + k + 1) n
parts-zero x at k n l z =
    parts-close x at (at + k) n (λ e. omega arith) z
    ∙ ap (λ i. record { start = at; size = i } ∷ parts_at x (at + k + 1) (at + k + 1) n) (let e : at + k - at ≡ k = omega arith in e)

-- a whole name of k bytes
pub parts-step : (x : List ℕ) (at k n : ℕ) → 0 < k → Full x at k → get_or x (at + k) 0 ≡ 0 →
    parts_at x at at (k + 1 + n) ≡ record { start = at; size = k } ∷ parts_at x (at + k + 1) (at + k + 1) n
parts-step x at k n l f z =
    ap (parts_at x at at) (let e : k + 1 + n ≡ k + suc n = omega arith in e) ∙ parts-walk k x at at (suc n) f ∙ parts-zero x at k n l z

pub names-step : (x : List ℕ) (at k n : ℕ) → 0 < k → Full x at k → get_or x (at + k) 0 ≡ 0 →
    names_at x at (k + 1 + n) ≡ part x at k ∷ names_at x (at + k + 1) n
names-step x at k n l f z = ap (map (bytes_of x)) (parts-step x at k n l f z)

-- names that stand there are listed, then what follows them
pub parts-after : (ns : List (List ℕ)) (x : List ℕ) (at n : ℕ) → Each Named ns → Text x at (flat ns) →
    parts_at x at at (length (flat ns) + n) ≡ parts_of at ns ++ parts_at x (at + length (flat ns)) (at + length (flat ns)) n
unfolding parts_of
parts-after [] x at n h t = simp (flat-none, zero-add, add-zero)
parts-after (b ∷ ns) x at n h t =
    let (t₀, z, r) = text-name b ns x at t in
    ap (parts_at x at at) (let e : length (flat (b ∷ ns)) + n ≡ length b + 1 + (length (flat ns) + n) = omega (arith, flat-size b ns) in e)
    ∙ parts-step x at (length b) (length (flat ns) + n) h.0.some (text-full x at b h.0 t₀) z
    ∙ ap (λ l. record { start = at; size = length b } ∷ l) (parts-after ns x (at + length b + 1) n h.1 r)
    ∙ ap (λ i. (record { start = at; size = length b } ∷ parts_of (at + length b + 1) ns) ++ parts_at x i i n)
    (let e : at + length b + 1 + length (flat ns) ≡ at + length (flat (b ∷ ns)) = omega (arith, flat-size b ns) in e)

-- Reading names back

-- the last zero may lie behind the image's end, where a byte reads as 0
pub names-read : (ns : List (List ℕ)) (x : List ℕ) (at : ℕ) → at + length (flat ns) ≤ length x + 1 → Text x at (flat ns) →
    map (bytes_of x) (parts_of at ns) ≡ ns
unfolding parts_of
names-read [] x at f t = refl
names-read (b ∷ ns) x at f t =
    let (t₀, z, r) = text-name b ns x at t in
    let e : part x at (length b) ≡ b = text-part x at b (omega (arith, flat-size b ns)) t₀ in
    let g : map (bytes_of x) (parts_of (at + length b + 1) ns) ≡ ns = names-read ns x (at + length b + 1) (omega (arith, flat-size b ns)) r in
    λ i. e i ∷ g i

pub names-inside : (b : List ℕ) (ns : List (List ℕ)) (x : List ℕ) (at : ℕ) → Each Named (b ∷ ns) → Text x at (flat (b ∷ ns)) →
    at + length (flat (b ∷ ns)) ≤ length x + 1
names-inside b [] x at h t =
    let f : Full x at (length b) = text-full x at b h.0 (text-name b [] x at t).0 in
    omega (arith, flat-size b [], ap length flat-none, name-inside x at (length b) h.0.some f)
names-inside b (c ∷ ns) x at h t =
    omega (arith, flat-size b (c ∷ ns), names-inside c ns x (at + length b + 1) h.1 (text-name b (c ∷ ns) x at t).2)

pub names-back : (ns : List (List ℕ)) (x : List ℕ) (at : ℕ) → Each Named ns → Text x at (flat ns) → map (bytes_of x) (parts_of at ns) ≡ ns
unfolding parts_of
names-back [] x at h t = refl
names-back (b ∷ ns) x at h t = names-read (b ∷ ns) x at (names-inside b ns x at h t) t

pub names-after : (ns : List (List ℕ)) (x : List ℕ) (at n : ℕ) → Each Named ns → Text x at (flat ns) →
    names_at x at (length (flat ns) + n) ≡ ns ++ names_at x (at + length (flat ns)) n
names-after ns x at n h t =
    ap (map (bytes_of x)) (parts-after ns x at n h t) ∙ map-append (bytes_of x) (parts_of at ns) (parts_at x (at + length (flat ns)) (at + length (flat ns)) n)
    ∙ ap (λ l. l ++ names_at x (at + length (flat ns)) n) (names-back ns x at h t)

-- Names that are the whole list

-- they are all exactly when nothing is listed behind them
pub parts_all : (x : List ℕ) (at n : ℕ) (ns : List (List ℕ)) → Holds x at n ns →
    parts_at x (at + length (flat ns)) (at + length (flat ns)) (n - length (flat ns)) ≡ [] → parts_at x at at n ≡ parts_of at ns
parts_all x at n ns h e =
    ap (parts_at x at at) (let q : n ≡ length (flat ns) + (n - length (flat ns)) = omega arith in q)
    ∙ parts-after ns x at (n - length (flat ns)) h.good h.each ∙ ap (λ l. parts_of at ns ++ l) e ∙ append-nil (parts_of at ns)

pub parts-rest : (x : List ℕ) (at n : ℕ) (ns : List (List ℕ)) → Holds x at n ns → parts_at x at at n ≡ parts_of at ns →
    parts_at x (at + length (flat ns)) (at + length (flat ns)) (n - length (flat ns)) ≡ []
parts-rest x at n ns h e = append_cancel_left (parts_of at ns) _ [] (
    sym (parts-after ns x at (n - length (flat ns)) h.good h.each)
    ∙ ap (parts_at x at at) (let q : length (flat ns) + (n - length (flat ns)) ≡ n = omega arith in q) ∙ e ∙ sym (append-nil (parts_of at ns)))

pub is-names : (x : List ℕ) (at n : ℕ) (ns : List (List ℕ)) → IsNames x at n ns → parts_at x at at n ≡ parts_of at ns
is-names x at n ns h = parts_all x at n ns (is-holds x at n ns h) (go (n - length (flat ns)) (λ l. h.closed (omega arith)))
  where
    go : (m : ℕ) → (0 < m → get_or x (at + length (flat ns)) 0 ≡ 0) → parts_at x (at + length (flat ns)) (at + length (flat ns)) m ≡ []
    go zero z = parts_none x (at + length (flat ns)) (at + length (flat ns))
    go (suc m) z = parts-end x (at + length (flat ns)) (at + length (flat ns)) (suc m) refl (z (omega arith))

-- also where a name follows that no zero closes
pub open-names : (x : List ℕ) (at n : ℕ) (ns : List (List ℕ)) → Holds x at n ns → Full x (at + length (flat ns)) (n - length (flat ns)) →
    parts_at x at at n ≡ parts_of at ns
open-names x at n ns h f = parts_all x at n ns h (parts-open x (at + length (flat ns)) (at + length (flat ns)) (n - length (flat ns)) f)

pub names-all : (x : List ℕ) (at n : ℕ) (ns : List (List ℕ)) → Holds x at n ns → parts_at x at at n ≡ parts_of at ns → names_at x at n ≡ ns
names-all x at n ns h e = ap (map (bytes_of x)) e ∙ names-back ns x at h.good h.each

pub names-is : (x : List ℕ) (at n : ℕ) (ns : List (List ℕ)) → IsNames x at n ns → names_at x at n ≡ ns
names-is x at n ns h = names-all x at n ns (is-holds x at n ns h) (is-names x at n ns h)

-- Kept and grown

-- the same names' bytes at another place, in a block of another size
pub names-kept : (x : List ℕ) (a n : ℕ) (ns : List (List ℕ)) (y : List ℕ) (b m : ℕ) → IsNames x a n ns → Same y b x a (length (flat ns)) →
    length (flat ns) ≤ m → (length (flat ns) < m → get_or y (b + length (flat ns)) 0 ≡ 0) → IsNames y b m ns
names-kept x a n ns y b m h s f z = record { few = f; each = text-kept x a y b (flat ns) h.each s; good = h.good; closed = z }

pub holds-none : (x : List ℕ) (at n : ℕ) → Holds x at n []
unfolding flat
holds-none x at n = record { few = omega arith; each = λ k l. absurd (omega arith); good = tt }

-- one more name in front
pub holds-name : (x : List ℕ) (at n : ℕ) (b : List ℕ) (ns : List (List ℕ)) → Named b → Text x at b → get_or x (at + length b) 0 ≡ 0 →
    Holds x (at + length b + 1) n ns → Holds x at (length b + 1 + n) (b ∷ ns)
holds-name x at n b ns h t z r = record { few = omega (arith, flat-size b ns); each = name-text b ns x at t z r.each; good = (h, r.good) }

-- one more name behind. The zero that stood there is gone, so that the names stand there is all that is asked
pub holds-grown : (x : List ℕ) (at n : ℕ) (ns : List (List ℕ)) (b : List ℕ) → Text x at (flat ns) → Each Named ns → Named b →
    length (flat ns) + length b + 1 ≤ n → Text x (at + length (flat ns)) b → get_or x (at + length (flat ns) + length b) 0 ≡ 0 → Holds x at n (ns ++ b ∷ [])
holds-grown x at n ns b t g h f r z = record {
  few = omega (arith, flat-more ns b);
  each = rw (flat_append ns (b ∷ [])) (text-append x at (flat ns) (flat (b ∷ [])) t
      (name-text b [] x (at + length (flat ns)) r z (holds-none x (at + length (flat ns) + length b + 1) 0).each));
  good = each_append Named ns (b ∷ []) g (h, tt);
}

pub names-grown : (x : List ℕ) (at n : ℕ) (ns : List (List ℕ)) (b : List ℕ) → Text x at (flat ns) → Each Named ns → Named b →
    length (flat ns) + length b + 1 ≤ n → Text x (at + length (flat ns)) b → get_or x (at + length (flat ns) + length b) 0 ≡ 0 →
    (length (flat ns) + length b + 1 < n → get_or x (at + length (flat ns) + length b + 1) 0 ≡ 0) → IsNames x at n (ns ++ b ∷ [])
names-grown x at n ns b t g h f r z c =
    let s : Holds x at n (ns ++ b ∷ []) = holds-grown x at n ns b t g h f r z in
    let e : length (flat (ns ++ b ∷ [])) ≡ length (flat ns) + length b + 1 = flat-more ns b in
    record {
      few = s.few;
      each = s.each;
      good = s.good;
      closed = λ l. place x (at + length (flat (ns ++ b ∷ []))) (at + length (flat ns) + length b + 1) (omega arith) ∙ c (omega arith);
    }

-- the next name read from the image
pub holds-step : (x : List ℕ) (at n : ℕ) (ns : List (List ℕ)) (k : ℕ) → Holds x at n ns → 0 < k → Full x (at + length (flat ns)) k →
    get_or x (at + length (flat ns) + k) 0 ≡ 0 → length (flat ns) + k + 1 ≤ n → Holds x at n (ns ++ part x (at + length (flat ns)) k ∷ [])
holds-step x at n ns k h l f z m =
    let q : at + length (flat ns) + k ≤ length x = name-inside x (at + length (flat ns)) k l f in
    let e : length (part x (at + length (flat ns)) k) ≡ k = part_length x (at + length (flat ns)) k q in
    holds-grown x at n ns (part x (at + length (flat ns)) k) h.each h.good (part-named x (at + length (flat ns)) k l f) (omega arith)
    (part-text x (at + length (flat ns)) k q) (rw e z)

-- What any image lists

-- the walk i bytes into a name that begins at a: the names that it lists stand there, and it lists them wherever the same bytes stand
record Walked (x : List ℕ) (a i n : ℕ) : Type 0 where
  names : List (List ℕ)
  holds : Holds x a (i + n) names
  parts : (y : List ℕ) (b : ℕ) → Same y b x a (i + n) → parts_at y b (b + i) n ≡ parts_of b names

walked_none : (x : List ℕ) (a i n : ℕ) → ((y : List ℕ) (b : ℕ) → Same y b x a (i + n) → parts_at y b (b + i) n ≡ []) → Walked x a i n
unfolding parts_of
walked_none x a i n h = record { names = []; holds = holds-none x a (i + n); parts = h }

walked_end : (x : List ℕ) (a n : ℕ) → get_or x (a + 0) 0 ≡ 0 → Walked x a 0 (suc n)
walked_end x a n z = walked_none x a 0 (suc n) (λ y b s. parts-end y b (b + 0) (suc n) (sym (add-zero b)) (s 0 (omega arith) ∙ z))

walked-name : (x : List ℕ) (a n : ℕ) (b : List ℕ) → Named b → Text x a b → get_or x (a + length b) 0 ≡ 0 →
    Walked x (a + length b + 1) 0 n → Walked x a (length b) (suc n)
unfolding parts_of
walked-name x a n b h t z r = record {
  names = b ∷ r.names;
  holds =
      let e : length b + 1 + (0 + n) ≡ length b + suc n = omega arith in
      rw e at (holds-name x a (0 + n) b r.names h t z r.holds);
  parts = λ y c s.
      parts-zero y c (length b) n h.some (s (length b) (omega arith) ∙ z)
      ∙ ap (λ l. record { start = c; size = length b } ∷ l)
      (ap (λ i. parts_at y (c + length b + 1) i n) (sym (add-zero (c + length b + 1)))
      ∙ r.parts y (c + length b + 1) (λ k l. same-tail y (c + length b) x (a + length b) n (same_from y c x a (length b) (suc n) s) k (omega arith)));
}

walked_on : (x : List ℕ) (a i n : ℕ) → (get_or x (a + i) 0 ≡ 0 → ⊥) → Walked x a (i + 1) n → Walked x a i (suc n)
walked_on x a i n z r = record {
  names = r.names;
  holds = let e : i + 1 + n ≡ i + suc n = omega arith in rw e at r.holds;
  parts = λ y b s.
      parts-on y b (b + i) n (λ e. z (sym (s i (omega arith)) ∙ e)) ∙ ap (λ k. parts_at y b k n) (let e : b + i + 1 ≡ b + (i + 1) = omega arith in e)
      ∙ r.parts y b (λ k l. s k (omega arith));
}

walked : (n : ℕ) (x : List ℕ) (a i : ℕ) → Full x a i → Walked x a i n
walked zero x a i f = walked_none x a i 0 (λ y b s. parts_none y b (b + i))
walked (suc n) x a i f = go i f (ℕ_discrete (get_or x (a + i) 0) 0) (λ f. walked n x a (i + 1) f) (λ p. walked n x p 0 (λ k l. absurd (omega arith)))
  where
    go : (i : ℕ) → Full x a i → Dec (get_or x (a + i) 0 ≡ 0) → (Full x a (i + 1) → Walked x a (i + 1) n) → ((p : ℕ) → Walked x p 0 n) → Walked x a i (suc n)
    go zero f (yes z) g h = walked_end x a n z
    go (suc i) f (yes z) g h =
        let b : List ℕ = part x a (suc i) in
        let q : a + suc i ≤ length x = name-inside x a (suc i) (omega arith) f in
        let e : length b ≡ suc i = part_length x a (suc i) q in
        let r : Walked x a (length b) (suc n)
        = walked-name x a n b (part-named x a (suc i) (omega arith) f) (part-text x a (suc i) q) (rw e z) (h (a + length b + 1)) in
        rw e at r
    go i f (no z) g h = walked_on x a i n z (g (below_more (λ k. get_or x (a + k) 0 ≡ 0 → ⊥) i f z))

found : (x : List ℕ) (a n : ℕ) → Walked x a 0 n
found x a n = walked n x a 0 (λ k l. absurd (omega arith))

found-holds : (x : List ℕ) (a n : ℕ) → Holds x a n (found x a n).names
found-holds x a n = rw zero-add at (found x a n).holds

found-parts : (x : List ℕ) (a : ℕ) (y : List ℕ) (b n : ℕ) → Same y b x a n → parts_at y b b n ≡ parts_of b (found x a n).names
found-parts x a y b n s = ap (λ i. parts_at y b i n) (sym (add-zero b)) ∙ (found x a n).parts y b (λ k l. s k (omega arith))

found-names : (x : List ℕ) (a : ℕ) (y : List ℕ) (b n : ℕ) → Same y b x a n → names_at y b n ≡ (found x a n).names
found-names x a y b n s =
    let h : Holds x a n (found x a n).names = found-holds x a n in
    ap (map (bytes_of y)) (found-parts x a y b n s)
    ∙ names-back (found x a n).names y b h.good (text-kept x a y b (flat (found x a n).names) h.each (λ k l. s k (omega arith)))

-- the listed names stand in the block, and the listed parts are their places
pub names-hold : (x : List ℕ) (at n : ℕ) → Holds x at n (names_at x at n)
names-hold x at n = rw (found-names x at x at n (λ k l. refl)) (found-holds x at n)

pub parts-listed : (x : List ℕ) (at n : ℕ) → parts_at x at at n ≡ parts_of at (names_at x at n)
parts-listed x at n = found-parts x at x at n (λ k l. refl) ∙ ap (parts_of at) (sym (found-names x at x at n (λ k l. refl)))

-- the names depend on the block's bytes alone, and their places are as far from its start
pub names_same : (x : List ℕ) (a : ℕ) (y : List ℕ) (b n : ℕ) → Same x a y b n → names_at x a n ≡ names_at y b n
names_same x a y b n s = found-names y b x a n s ∙ sym (found-names y b y b n (λ k l. refl))

pub parts_same : (x : List ℕ) (a : ℕ) (y : List ℕ) (b n : ℕ) → Same x a y b n → parts_at x a a n ≡ parts_of a (names_at y b n)
parts_same x a y b n s = parts-listed x a n ∙ ap (parts_of a) (names_same x a y b n s)

-- if the block ends behind them, or a zero follows, they are the list
pub names-are : (x : List ℕ) (at n : ℕ) → (length (flat (names_at x at n)) < n → get_or x (at + length (flat (names_at x at n))) 0 ≡ 0) →
    IsNames x at n (names_at x at n)
names-are x at n z = let h : Holds x at n (names_at x at n) = names-hold x at n in record { few = h.few; each = h.each; good = h.good; closed = z }

-- otherwise a name follows that no zero closes
no_part : (n : ℕ) (x : List ℕ) (start at : ℕ) → start ≤ at → (start ≡ at → get_or x at 0 ≡ 0 → ⊥) → parts_at x start at n ≡ [] → Full x at n
no_part zero x start at b f e k l z = omega arith
no_part (suc n) x start at b f e k l z = go (no_part n x start (at + 1) (omega arith) (λ q. absurd (omega arith))) (ℕ_discrete (get_or x at 0) 0) k l z
  where
    go : (parts_at x start (at + 1) n ≡ [] → Full x (at + 1) n) → Dec (get_or x at 0 ≡ 0) → Full x at (suc n)
    go g (yes q) k l z = omega (arith, ap length (sym (parts-close x start at n (λ d. f d q) q) ∙ e))
    go g (no q) zero l z = q (place x at (at + 0) (omega arith) ∙ z)
    go g (no q) (suc k) l z = g (sym (parts-on x start at n q) ∙ e) k (omega arith) (place x (at + 1 + k) (at + suc k) (omega arith) ∙ z)

pub names-end : (x : List ℕ) (at n : ℕ) → (get_or x (at + length (flat (names_at x at n))) 0 ≡ 0 → ⊥) →
    Full x (at + length (flat (names_at x at n))) (n - length (flat (names_at x at n)))
names-end x at n f =
    let e : ℕ = at + length (flat (names_at x at n)) in
    no_part (n - length (flat (names_at x at n))) x e e (omega arith) (λ q. f) (parts-rest x at n (names_at x at n) (names-hold x at n) (parts-listed x at n))

-- The places of names

-- a name without its zero, inside the n bytes from at
pub record Lies (x : List ℕ) (at n : ℕ) (p : Part) : Type 0 where
  pub low : at ≤ p.start
  pub high : p.start + p.size < at + n
  pub some : 0 < p.size
  pub full : Full x p.start p.size
  pub closed : get_or x (p.start + p.size) 0 ≡ 0

pub holds-lie : (ns : List (List ℕ)) (x : List ℕ) (at n : ℕ) → Holds x at n ns → Each (Lies x at n) (parts_of at ns)
unfolding parts_of
holds-lie [] x at n h = tt
holds-lie (b ∷ ns) x at n h =
    let (t, z, r) = text-name b ns x at h.each in
    let w : Named b = h.good.0 in
    let q : length b + 1 + length (flat ns) ≤ n = omega (arith, flat-size b ns) in
    let m : ℕ = n - length b - 1 in (
      record { low = omega arith; high = omega arith; some = w.some; full = text-full x at b w t; closed = z },
      each-so (Lies x (at + length b + 1) m) (Lies x at n)
          (λ p l. record { low = omega arith; high = omega arith; some = l.some; full = l.full; closed = l.closed })
          (parts_of (at + length b + 1) ns) (holds-lie ns x (at + length b + 1) m (record { few = omega arith; each = r; good = h.good.1 })),
    )

pub parts-lie : (x : List ℕ) (at n : ℕ) → Each (Lies x at n) (parts_at x at at n)
parts-lie x at n = rw (parts-listed x at n) (holds-lie (names_at x at n) x at n (names-hold x at n))

pub parts-length : (ns : List (List ℕ)) (at : ℕ) → length (parts_of at ns) ≡ length ns
unfolding parts_of
parts-length [] at = refl
parts-length (b ∷ ns) at = ap suc (parts-length ns (at + length b + 1))

pub parts-append : (ns ms : List (List ℕ)) (at : ℕ) → parts_of at (ns ++ ms) ≡ parts_of at ns ++ parts_of (at + length (flat ns)) ms
unfolding parts_of
parts-append [] ms at = simp (flat-none, add-zero)
parts-append (b ∷ ns) ms at =
    ap (λ l. record { start = at; size = length b } ∷ l) (parts-append ns ms (at + length b + 1))
    ∙ ap (λ i. (record { start = at; size = length b } ∷ parts_of (at + length b + 1) ns) ++ parts_of i ms)
    (let e : at + length b + 1 + length (flat ns) ≡ at + length (flat (b ∷ ns)) = omega (arith, flat-size b ns) in e)

-- the i-th name lies behind those before it
pub parts-at : (ns : List (List ℕ)) (at i : ℕ) (d : Part) → i < length ns →
    get_or (parts_of at ns) i d ≡ record { start = at + length (flat (take i ns)); size = length (get_or ns i []) }
unfolding parts_of
parts-at [] at i d l = absurd (omega arith)
parts-at (b ∷ ns) at zero d l = simp (flat-none, add-zero)
parts-at (b ∷ ns) at (suc i) d l =
    parts-at ns (at + length b + 1) i d (omega arith)
    ∙ ap {B = Part} (λ s. record { start = s; size = length (get_or ns i []) })
    (let e : at + length b + 1 + length (flat (take i ns)) ≡ at + length (flat (b ∷ take i ns)) = omega (arith, flat-size b (take i ns)) in e)

-- The name list of an image

-- its listed names and their places, in the block that its header tells
pub parts-of-block : (x : List ℕ) → name_parts x ≡ block_parts x (layout_of x)
unfolding name_parts
parts-of-block x = refl

pub names-of-block : (x : List ℕ) → names_of x ≡ block_names x (layout_of x)
unfolding names_of
names-of-block x = ap (map (bytes_of x)) (parts-of-block x)

-- as many names as places
pub parts-many : (x : List ℕ) → length (name_parts x) ≡ length (names_of x)
unfolding names_of
parts-many x = sym (length-map (name_parts x) (bytes_of x))

-- by the version
pub parts-recent : (x : List ℕ) (l : Layout) → v10 l.version ≡ false → block_parts x l ≡ parts_at x l.namelist l.namelist (64 * l.segments)
unfolding block_parts
parts-recent x l r = rw (r, block_parts)

pub parts-10 : (x : List ℕ) (l : Layout) → v10 l.version ≡ true → block_parts x l ≡ segments_at x l.namelist l.segments
unfolding block_parts
parts-10 x l r = rw (r, block_parts)

pub names-recent : (x : List ℕ) (l : Layout) → v10 l.version ≡ false → block_names x l ≡ names_at x l.namelist (64 * l.segments)
names-recent x l r = ap (map (bytes_of x)) (parts-recent x l r)

-- what stands in the block is what is listed
pub is-names_of : (x : List ℕ) (ns : List (List ℕ)) → v10 (layout_of x).version ≡ false →
    IsNames x (layout_of x).namelist (64 * (layout_of x).segments) ns → names_of x ≡ ns
is-names_of x ns r h = names-of-block x ∙ names-recent x (layout_of x) r ∙ names-is x (layout_of x).namelist (64 * (layout_of x).segments) ns h

-- Numbers 9 to 11

-- the names are closed: behind them the block ends, or a zero follows
pub closed-zero : (x : List ℕ) (l : Layout) (ns : List (List ℕ)) → unclosed x l ns ≡ false →
    length (flat ns) < 64 * l.segments → get_or x (l.namelist + length (flat ns)) 0 ≡ 0
closed-zero x l ns h f =
    let c : ℕ = get_or x (l.namelist + length (flat ns)) 0 in
    eqb-true c 0 (not-false (eqb c 0) (rw (lt-ltb (length (flat ns)) (64 * l.segments) f) at h))

pub zero-closed : (x : List ℕ) (l : Layout) (ns : List (List ℕ)) →
    (length (flat ns) < 64 * l.segments → get_or x (l.namelist + length (flat ns)) 0 ≡ 0) → unclosed x l ns ≡ false
zero-closed x l ns f = go (dec_lt (length (flat ns)) (64 * l.segments))
  where
    go : Dec (length (flat ns) < 64 * l.segments) → unclosed x l ns ≡ false
    go (yes m) = rw (lt-ltb (length (flat ns)) (64 * l.segments) m, f m)
    go (no m) = rw (le-ltb (length (flat ns)) (64 * l.segments) (omega arith))

pub names_of-are : (x : List ℕ) → v10 (layout_of x).version ≡ false → unclosed x (layout_of x) (names_of x) ≡ false →
    IsNames x (layout_of x).namelist (64 * (layout_of x).segments) (names_of x)
names_of-are x r h =
    let e : names_of x ≡ names_at x (layout_of x).namelist (64 * (layout_of x).segments) = names-of-block x ∙ names-recent x (layout_of x) r in
    rw e (names-are x (layout_of x).namelist (64 * (layout_of x).segments) (rw e at (closed-zero x (layout_of x) (names_of x) h)))

-- 9 by the version
pub open-recent : (x : List ℕ) (l : Layout) (ns : List (List ℕ)) → v10 l.version ≡ false → open_name x l ns ≡ unclosed x l ns
unfolding open_name
open-recent x l ns r = rw (r, open_name)

pub open-10 : (x : List ℕ) (l : Layout) (ns : List (List ℕ)) → v10 l.version ≡ true → open_name x l ns ≡ unclosed_from x l.namelist l.segments
unfolding open_name
open-10 x l ns r = rw (r, open_name)

-- nothing is refused exactly when the names are closed, are at most 1,024, and no two are equal
pub names-pass : (x : List ℕ) (l : Layout) (ns : List (List ℕ)) → names_test x l ns ≡ 0 →
    (open_name x l ns ≡ false) × (length ns ≤ most_names) × Distinct ns
unfolding names_test
names-pass x l ns h =
    let (a, r) = both _ _ h in
    let (b, c) = both _ _ r in
    (unmet _ 8 a, not-less most_names (length ns) 9 b, twins-distinct ns (unmet _ 10 c))

pub pass-names : (x : List ℕ) (l : Layout) (ns : List (List ℕ)) → open_name x l ns ≡ false → length ns ≤ most_names → Distinct ns → names_test x l ns ≡ 0
unfolding names_test
pass-names x l ns h f d = none_of _ _ (passed _ 9 h) (none_of _ _ (less-no most_names (length ns) 10 f) (passed _ 11 (distinct-twins ns d)))

-- each number where it is the first
pub names-open : (x : List ℕ) (l : Layout) (ns : List (List ℕ)) → open_name x l ns ≡ true → names_test x l ns ≡ 9
unfolding names_test ◌⇒◌ ◌▹◌
names-open x l ns h = rw h

pub names-many : (x : List ℕ) (l : Layout) (ns : List (List ℕ)) → open_name x l ns ≡ false → most_names < length ns → names_test x l ns ≡ 10
unfolding names_test ◌⇒◌ ◌▹◌
names-many x l ns h f = rw (h, lt-ltb most_names (length ns) f)

pub names-twins : (x : List ℕ) (l : Layout) (ns : List (List ℕ)) (b : Bool) → open_name x l ns ≡ false → length ns ≤ most_names → twins ns ≡ b →
    names_test x l ns ≡ (b ⇒ 11)
unfolding names_test ◌⇒◌ ◌▹◌
names-twins x l ns b h f t = rw (h, le-ltb most_names (length ns) f, t)

-- the test of 9 by the place behind the names
pub names-behind : (x : List ℕ) (l : Layout) (ns : List (List ℕ)) (end : ℕ) → end ≡ l.namelist + length (flat ns) →
    (ltb end (l.namelist + 64 * l.segments) && not (eqb (get_or x end 0) 0)) ≡ unclosed x l ns
names-behind x l ns end e =
    let t : ltb end (l.namelist + 64 * l.segments) ≡ ltb (length (flat ns)) (64 * l.segments) = go (dec_lt (length (flat ns)) (64 * l.segments)) in
    λ i. t i && not (eqb (get_or x (e i) 0) 0)
  where
    go : Dec (length (flat ns) < 64 * l.segments) → ltb end (l.namelist + 64 * l.segments) ≡ ltb (length (flat ns)) (64 * l.segments)
    go (yes h) = lt-ltb end (l.namelist + 64 * l.segments) (omega arith) ∙ sym (lt-ltb (length (flat ns)) (64 * l.segments) h)
    go (no h) = le-ltb end (l.namelist + 64 * l.segments) (omega arith) ∙ sym (le-ltb (length (flat ns)) (64 * l.segments) (omega arith))
