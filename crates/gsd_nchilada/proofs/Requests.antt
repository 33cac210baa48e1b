-- Laws of a request: the tests in their order, and what passing them leaves.
use Rattle.std.specs.Prelude.{Ok, Err}
use Prim.Native.Nat.{ℕ, zero, suc, ◌+◌, ◌*◌, ◌≤◌, ◌<◌}
use mathlib.Core.Path.{◌≡◌, refl, sym, ◌∙◌, ap}
use mathlib.Core.Bool.{Bool, true, false, true≢false, not, ◌&&◌}
use mathlib.Core.List.{List}
use native.Mathlib.Nat.{mul-le-mul, le-mul_of_pos_right}
use native.Mathlib.Decide.{ℕ_discrete}
use native.Mathlib.Omega.{arith}
use lib.ListN.{length}
use lib.Dec.{eqb}
use lib.Ieee.{Float}
use borrow.Author.Tests.{eqb-true, eq-eqb, ne_eqb, not-false}
use Rattle.gsd_format.specs.declared.Entry.{Entry}
use Rattle.gsd_format.specs.declared.refusal.Refusal.{Refusal}
use Rattle.gsd_format.specs.Header.{greatest_length}
use Rattle.gsd_format.specs.Types.{size_of}
use Rattle.gsd_format.specs.Refusals.{◌⇒◌, ◌▹◌}
use Rattle.gsd_format.specs.Elements.{any_nan}
use Rattle.gsd_format.specs.Lookup.{lookup}
use Rattle.gsd_format.specs.Answers.{refusal_number}
use Rattle.gsd_format.proofs.Refusals.{both, unmet, passed, decides, goes_on, met, both_true, not-of, refusal-some}
use Rattle.gsd_elements.specs.Held.{Held}
use Rattle.gsd_elements.proofs.Elements.{few-elements}
use Rattle.gsd_body.specs.Body.{one_or_three}
use Rattle.gsd_body.proofs.Bodies.{second-of}
use Rattle.gsd_nchilada.specs.File.{time_of, file_of, file_length}
use Rattle.gsd_nchilada.specs.Request.{floating, finite, file_test, accepted, nchilada_number, nchilada_file}
use Rattle.gsd_nchilada.specs.Ready.{Ready}

-- there are one column at least and three at most
pub some-columns : (m : ℕ) → one_or_three m ≡ true → (0 < m) × (m ≤ 3)
some-columns m h = go (ℕ_discrete m 1)
  where
    go : Dec (m ≡ 1) → (0 < m) × (m ≤ 3)
    go (yes e) = (omega arith, omega arith)
    go (no n) = let e : m ≡ 3 = second-of m 1 3 h n in (omega arith, omega arith)

pub few-rows : (img : List ℕ) (e : Entry) → Held img e → one_or_three e.m ≡ true → e.n ≤ greatest_length
few-rows img e held h = omega (arith, few-elements img e held, le-mul_of_pos_right e.n (some-columns e.m h).0)

-- the file's length does not wrap
pub short-rows : (n m : ℕ) → n ≤ greatest_length → one_or_three m ≡ true → (2 + n) * m ≤ 3221225478
short-rows n m h g = let l : 2 + n ≤ 1073741826 = omega arith in mul-le-mul l (some-columns m g).1

pub short-file : (n m size : ℕ) → n ≤ greatest_length → one_or_three m ≡ true → size ≤ 8 → (2 + n) * m * size ≤ 25769803824
short-file n m size h g l = mul-le-mul (short-rows n m h g) l

-- the chunk lies in the slice, by the size of its type
pub of_size : (img : List ℕ) (e : Entry) → Held img e → (kind : ℕ) → e.kind ≡ kind → e.location + e.n * e.m * size_of kind ≤ length img
of_size img e held kind k = rw k at held.within

-- the test of a type is that of an equal one
pub nan-of-type : (kind same : ℕ) (s : List ℕ) (at n : ℕ) (r : Bool) → kind ≡ same → r ≡ any_nan same s at n → r ≡ any_nan kind s at n
nan-of-type kind same s at n r k h = h ∙ ap (λ k. any_nan k s at n) (sym k)

-- The tests of an entry, in their order

module _ (img : List ℕ) (e : Entry) (step : Float) (room : ℕ) where
  abbrev writable : Bool
  writable = floating e.kind && one_or_three e.m

  abbrev time : Float
  time = time_of e.frame step

  abbrev nan : Bool
  nan = any_nan e.kind img e.location (e.n * e.m)

  pub gives-60 : writable ≡ false → 60 ≡ file_test img e step room
  unfolding file_test
  gives-60 w = sym (decides (not writable) 59 _ (ap not w))

  module _ (w : writable ≡ true) where
    from-61 : file_test img e step room
        ≡ (eqb e.n 0 ⇒ 61) ▹ (nan ⇒ 62) ▹ (not (finite step && finite time) ⇒ 63) ▹ (not (eqb room (file_length e)) ⇒ 64)
    unfolding file_test
    from-61 = goes_on (not writable) 60 _ (not-of writable w)

    pub gives-61 : e.n ≡ 0 → 61 ≡ file_test img e step room
    gives-61 z = sym (from-61 ∙ decides (eqb e.n 0) 60 _ (eq-eqb e.n 0 z))

    module _ (some : e.n ≡ 0 → ⊥) where
      from-62 : file_test img e step room ≡ (nan ⇒ 62) ▹ (not (finite step && finite time) ⇒ 63) ▹ (not (eqb room (file_length e)) ⇒ 64)
      from-62 = from-61 ∙ goes_on (eqb e.n 0) 61 _ (ne_eqb e.n 0 some)

      pub gives-62 : nan ≡ true → 62 ≡ file_test img e step room
      gives-62 h = sym (from-62 ∙ decides nan 61 _ h)

      module _ (numbers : nan ≡ false) where
        from-63 : file_test img e step room ≡ (not (finite step && finite time) ⇒ 63) ▹ (not (eqb room (file_length e)) ⇒ 64)
        from-63 = from-62 ∙ goes_on nan 62 _ numbers

        pub gives-63 : (finite step && finite time) ≡ false → 63 ≡ file_test img e step room
        gives-63 h = sym (from-63 ∙ decides (not (finite step && finite time)) 62 _ (ap not h))

        module _ (timed : (finite step && finite time) ≡ true) where
          from-64 : file_test img e step room ≡ (not (eqb room (file_length e)) ⇒ 64)
          from-64 = from-63 ∙ goes_on (not (finite step && finite time)) 63 _ (not-of (finite step && finite time) timed)

          pub gives-64 : (room ≡ file_length e → ⊥) → 64 ≡ file_test img e step room
          gives-64 n = sym (from-64 ∙ met (not (eqb room (file_length e))) 64 (ap not (ne_eqb room (file_length e) n)))

          pub gives-0 : room ≡ file_length e → 0 ≡ file_test img e step room
          gives-0 q = sym (from-64 ∙ passed (not (eqb room (file_length e))) 64 (ap not (eq-eqb room (file_length e) q)))

  -- what passes them is ready, and its time is finite
  pub is-ready : Held img e → file_test img e step room ≡ 0 → Ready img e room × (finite time ≡ true)
  unfolding file_test
  is-ready held h =
      let t = both (not writable ⇒ 60) _ h in
      let u = both (eqb e.n 0 ⇒ 61) _ t.1 in
      let v = both (nan ⇒ 62) _ u.1 in
      let x = both (not (finite step && finite time) ⇒ 63) _ v.1 in
      let typed = both_true (floating e.kind) (one_or_three e.m) (not-false writable (unmet (not writable) 59 t.0)) in
      let timed = both_true (finite step) (finite time) (not-false (finite step && finite time) (unmet (not (finite step && finite time)) 62 x.0)) in (
        record {
          held = held;
          typed = typed.0;
          columns = typed.1;
          some = some (ℕ_discrete e.n 0) (unmet (eqb e.n 0) 60 u.0);
          numbers = unmet nan 61 v.0;
          long = eqb-true room (file_length e) (not-false (eqb room (file_length e)) (unmet (not (eqb room (file_length e))) 63 x.1));
        },
        timed.1,
      )
    where
      some : Dec (e.n ≡ 0) → eqb e.n 0 ≡ false → 0 < e.n
      some (yes z) f = absurd (true≢false (sym (eq-eqb e.n 0 z) ∙ f))
      some (no n) f = omega arith

-- and what its body asks for, by its type
pub ready-as : (img : List ℕ) (e : Entry) (room : ℕ) → Ready img e room → (kind : ℕ) → e.kind ≡ kind →
    (0 < e.n) × ((one_or_three e.m ≡ true) × ((e.location + e.n * e.m * size_of kind ≤ length img)
    × ((any_nan kind img e.location (e.n * e.m) ≡ false) × (28 + (2 + e.n) * e.m * size_of kind ≤ room))))
ready-as img e room r kind k = (
  r.some,
  (
    r.columns,
    (
      of_size img e r.held kind k,
      (
        rw k at r.numbers,
        (let f : 28 + (2 + e.n) * e.m * size_of kind ≡ room = ap (λ k. 28 + (2 + e.n) * e.m * size_of k) (sym k) ∙ sym r.long in omega arith),
      ),
    ),
  ),
)

-- What is answered and written

-- another slice of the same length does as well
pub ready-room : (img : List ℕ) (e : Entry) (room other : ℕ) → Ready img e room → other ≡ room → Ready img e other
ready-room img e room other r q = rw q r

pub not-accepted : (why : Refusal) (n : ℕ) (new old : List ℕ) → refusal_number why ≡ n → old ≡ accepted n new old
unfolding accepted
not-accepted why zero new old e = absurd (omega (arith, refusal-some why))
not-accepted why (suc n) new old e = refl

pub was-accepted : (n : ℕ) (new old file : List ℕ) → 0 ≡ n → file ≡ new → file ≡ accepted n new old
unfolding accepted
was-accepted zero new old file e h = h
was-accepted (suc n) new old file e h = absurd (omega (arith, e))

module _ (img : List ℕ) (frame : ℕ) (name : List ℕ) (step : Float) (file : List ℕ) where
  pub of-found : (e : Entry) (number : ℕ) (after : List ℕ) → lookup img frame name ≡ Ok e → number ≡ file_test img e step (length file) →
      after ≡ accepted (file_test img e step (length file)) (file_of img e step) file →
      (number ≡ nchilada_number img frame name step (length file)) × (after ≡ nchilada_file img frame name step file)
  unfolding nchilada_number nchilada_file
  of-found e number after h p q = (rw (h, nchilada_number) p, rw (h, nchilada_file) q)

  pub of-refused : (n : ℕ) → lookup img frame name ≡ Err n →
      (n ≡ nchilada_number img frame name step (length file)) × (file ≡ nchilada_file img frame name step file)
  unfolding nchilada_number nchilada_file
  of-refused n h = (rw (h, nchilada_number), rw (h, nchilada_file))
