-- What an append's limit and its refusal do: a refused append changes nothing and reports three zeros, as every one on an image of
-- 1.0; limit 0 changes nothing, and the image after k stores of a call is what the same call with limit k leaves.
use Prim.Native.Nat.{ℕ, suc, ◌≤◌, min}
use mathlib.Core.Path.{◌≡◌, refl, sym, ◌∙◌, ap}
use mathlib.Core.Bool.{true}
use mathlib.Core.List.{List, [], ◌∷◌}
use native.Mathlib.Decide.{dec_le}
use native.Mathlib.Omega.{arith}
use lib.ListN.{length, take}
use lib.Seq.{take_all, take-nil}
use Rattle.gsd_format.specs.Header.{v10, version_of, layout_of}
use Rattle.gsd_format.specs.Opening.{verdict}
use Rattle.gsd_format.proofs.Refusals.{first_of, ▹-assoc, decides}
use Rattle.gsd_stores.specs.Stores.{Store, after}
use Rattle.gsd_stores.specs.View.{view_of}
use Rattle.gsd_stores.specs.Append.{image_test, append_test, stores_for, step_five, copied_entries, append_answer, appended}
use Rattle.gsd_stores.specs.Runs.{Call, after_run}
use Rattle.gsd_stores.proofs.Runs.{refused_none, stores-refused}

stores-none : (x s : List ℕ) (n : ℕ) → append_test x s ≡ suc n → stores_for x s ≡ []
stores-none x s n e = stores-refused x s (λ z. omega (arith, e))

-- a refused append has no step 5, and without step 5 nothing is copied
pub five-refused : (x s : List ℕ) → (append_test x s ≡ 0 → ⊥) → step_five x s ≡ []
unfolding step_five
five-refused x s h = refused_none (append_test x s) _ h

pub none-copied : (x s : List ℕ) → step_five x s ≡ [] → copied_entries x s ≡ 0
unfolding copied_entries
none-copied x s e = rw (e, take-nil)

take_done : (l : List Store) (k : ℕ) → take (min k (length l)) l ≡ take k l
take_done l k = go (dec_le k (length l))
  where
    go : Dec (k ≤ length l) → take (min k (length l)) l ≡ take k l
    go (yes h) = let e : min k (length l) ≡ k = omega arith in ap (λ n. take n l) e
    go (no h) = take_all (min k (length l)) l (omega arith) ∙ sym (take_all k l (omega arith))

-- the image after k stores of a call is what the same call with limit k leaves
pub stopped : (x s : List ℕ) (k : ℕ) → after x (take k (stores_for x s)) ≡ appended x s k
unfolding appended
stopped x s k = ap (after x) (sym (take_done (stores_for x s) k))

-- a refused append changes no byte, whatever its limit
pub refused-image : (x s : List ℕ) (limit n : ℕ) → append_test x s ≡ suc n → appended x s limit ≡ x
unfolding appended after
refused-image x s limit n e = rw (stores-none x s n e, take-nil)

-- and reports its number and three zeros
pub refused-answer : (x s : List ℕ) (limit n : ℕ) → append_test x s ≡ suc n →
    append_answer x s limit ≡ record { number = suc n; done = 0; whole = 0; copied = 0 }
unfolding append_answer
refused-answer x s limit n e =
    let none : length (stores_for x s) ≡ 0 = ap length (stores-none x s n e) in
    let done : min limit (length (stores_for x s)) ≡ 0 = omega arith in
    let copied : copied_entries x s ≡ 0 = none-copied x s (five-refused x s (λ z. omega (arith, e))) in
    λ i. record { number = e i; done = done i; whole = none i; copied = copied i }

-- an image of 1.0 takes no append: 20, also where 21 or a later number holds
pub refused-10 : (x s : List ℕ) → verdict x ≡ 0 → v10 (version_of x) ≡ true → append_test x s ≡ 20
unfolding append_test image_test view_of layout_of
refused-10 x s o r = first_of _ _ o ∙ ▹-assoc _ _ _ ∙ decides _ 19 _ r

-- and so no run changes it
pub run-10 : (cs : List Call) (x : List ℕ) → verdict x ≡ 0 → v10 (version_of x) ≡ true → after_run x cs ≡ x
unfolding after_run
run-10 [] x o r = refl
run-10 (c ∷ cs) x o r =
    ap (λ y. after_run y cs) (refused-image x c.sheet c.limit 19 (refused-10 x c.sheet o r)) ∙ run-10 cs x o r

-- limit 0 changes nothing, and is no refusal: the whole append's counts are answered
pub none-image : (x s : List ℕ) → appended x s 0 ≡ x
unfolding after
none-image x s = sym (stopped x s 0)

pub none-answer : (x s : List ℕ) →
    append_answer x s 0 ≡ record { number = append_test x s; done = 0; whole = length (stores_for x s); copied = copied_entries x s }
unfolding append_answer
none-answer x s =
    let done : min 0 (length (stores_for x s)) ≡ 0 = omega arith in
    λ i. record { number = append_test x s; done = done i; whole = length (stores_for x s); copied = copied_entries x s }
