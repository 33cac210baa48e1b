-- Laws of requests: the tests in their order, and what passing them leaves.
use Prim.Native.Nat.{ℕ, ◌≤◌, ◌<◌}
use mathlib.Core.Path.{◌≡◌, sym, ◌∙◌, ap}
use mathlib.Core.Bool.{true, false, not, ◌||◌}
use mathlib.Core.List.{List}
use native.Mathlib.Omega.{arith}
use lib.ListN.{length, take}
use lib.Dec.{ltb, eqb}
use borrow.Author.Tests.{eqb-false, ltb-false, eq-eqb, ne_eqb, lt-ltb, le-ltb, not-false}
use Rattle.gsd_format.specs.Bytes.{same, zero_in}
use Rattle.gsd_format.specs.Refusals.{◌⇒◌, ◌▹◌}
use Rattle.gsd_format.proofs.Refusals.{both, unmet, decides, goes_on, met, neither, neither-of, left-holds, right-holds, right-decides, no-differ, differ-no, not-less, first_of, stays}
use Rattle.gsd_rawarray.specs.File.{raw_magic}
use Rattle.gsd_rawarray.specs.Said.{flags, raw_m, raw_kind}
use Rattle.gsd_rawarray.specs.Requests.{dimensioned, filled, raw_test, bad_name, sheet_length, read_test}

-- The tests of a file, in their order

module _ (f : List ℕ) where
  pub gives-70 : length f < 48 → 70 ≡ raw_test f
  unfolding raw_test ◌⇒◌ ◌▹◌
  gives-70 h = rw (lt-ltb (length f) 48 h, raw_test)

  module _ (long : 48 ≤ length f) where
    t70 : ltb (length f) 48 ≡ false
    t70 = le-ltb (length f) 48 long

    pub gives-71 : same (take 8 f) raw_magic ≡ false → 71 ≡ raw_test f
    unfolding raw_test ◌⇒◌ ◌▹◌
    gives-71 h = rw (t70, h, raw_test)

    module _ (t71 : same (take 8 f) raw_magic ≡ true) where
      pub gives-72 : eqb (flags f) 0 ≡ false → 72 ≡ raw_test f
      unfolding raw_test ◌⇒◌ ◌▹◌
      gives-72 h = rw (t70, t71, h, raw_test)

      module _ (t72 : eqb (flags f) 0 ≡ true) where
        pub gives-73 : raw_kind f ≡ 0 → 73 ≡ raw_test f
        unfolding raw_test ◌⇒◌ ◌▹◌
        gives-73 h = rw (t70, t71, t72, eq-eqb (raw_kind f) 0 h, raw_test)

        module _ (typed : raw_kind f ≡ 0 → ⊥) where
          t73 : eqb (raw_kind f) 0 ≡ false
          t73 = ne_eqb (raw_kind f) 0 typed

          pub gives-74 : dimensioned f ≡ false → 74 ≡ raw_test f
          unfolding raw_test ◌⇒◌ ◌▹◌
          gives-74 h = rw (t70, t71, t72, t73, h, raw_test)

          module _ (t74 : dimensioned f ≡ true) where
            pub gives-75 : filled f ≡ false → 75 ≡ raw_test f
            unfolding raw_test ◌⇒◌ ◌▹◌
            gives-75 h = rw (t70, t71, t72, t73, t74, h, raw_test)

            module _ (t75 : filled f ≡ true) where
              pub gives-76 : 4294967295 < raw_m f → 76 ≡ raw_test f
              unfolding raw_test ◌⇒◌ ◌▹◌
              gives-76 h = rw (t70, t71, t72, t73, t74, t75, lt-ltb 4294967295 (raw_m f) h, raw_test)

              pub gives-0 : raw_m f ≤ 4294967295 → 0 ≡ raw_test f
              unfolding raw_test ◌⇒◌ ◌▹◌
              gives-0 h = rw (t70, t71, t72, t73, t74, t75, le-ltb 4294967295 (raw_m f) h, raw_test)

-- what passes them
pub record Passed (f : List ℕ) : Type 0 where
  pub long : 48 ≤ length f
  pub begins : same (take 8 f) raw_magic ≡ true
  pub unflagged : eqb (flags f) 0 ≡ true
  pub typed : raw_kind f ≡ 0 → ⊥
  pub dims : dimensioned f ≡ true
  pub whole : filled f ≡ true
  pub few : raw_m f ≤ 4294967295

pub file-passed : (f : List ℕ) → raw_test f ≡ 0 → Passed f
unfolding raw_test
file-passed f h =
    let from71 = both (ltb (length f) 48 ⇒ 70) _ h in
    let from72 = both (not (same (take 8 f) raw_magic) ⇒ 71) _ from71.1 in
    let from73 = both (not (eqb (flags f) 0) ⇒ 72) _ from72.1 in
    let from74 = both (eqb (raw_kind f) 0 ⇒ 73) _ from73.1 in
    let from75 = both (not (dimensioned f) ⇒ 74) _ from74.1 in
    let from76 = both (not (filled f) ⇒ 75) _ from75.1 in
    record {
      long = not-less (length f) 48 69 from71.0;
      begins = not-false (same (take 8 f) raw_magic) (unmet (not (same (take 8 f) raw_magic)) 70 from72.0);
      unflagged = not-false (eqb (flags f) 0) (unmet (not (eqb (flags f) 0)) 71 from73.0);
      typed = eqb-false (raw_kind f) 0 (unmet (eqb (raw_kind f) 0) 72 from74.0);
      dims = not-false (dimensioned f) (unmet (not (dimensioned f)) 73 from75.0);
      whole = not-false (filled f) (unmet (not (filled f)) 74 from76.0);
      few = not-less 4294967295 (raw_m f) 75 from76.1;
    }

-- A name that no sheet may have

module _ (name : List ℕ) where
  pub bad-empty : length name ≡ 0 → true ≡ bad_name name
  bad-empty h = sym (left-holds (eqb (length name) 0 || ltb 255 (length name)) _ (left-holds (eqb (length name) 0) _ (eq-eqb (length name) 0 h)))

  pub bad-long : 255 < length name → true ≡ bad_name name
  bad-long h = sym (left-holds (eqb (length name) 0 || ltb 255 (length name)) _ (right-holds (eqb (length name) 0) _ (lt-ltb 255 (length name) h)))

  pub bad-zero : (length name ≡ 0 → ⊥) → length name ≤ 255 → zero_in name 0 (length name) ≡ bad_name name
  bad-zero h l = sym (right-decides (eqb (length name) 0 || ltb 255 (length name)) _ (neither-of (eqb (length name) 0) _ (ne_eqb (length name) 0 h) (le-ltb 255 (length name) l)))

-- The tests of a request to read, in their order

module _ (f name : List ℕ) (room : ℕ) where
  pub gives-file : (number : ℕ) → number ≡ raw_test f → (number ≡ 0 → ⊥) → number ≡ read_test f name room
  unfolding read_test
  gives-file number e h = e ∙ sym (stays (raw_test f) _ (λ z. h (e ∙ z)))

  module _ (file : raw_test f ≡ 0) where
    pub gives-78 : bad_name name ≡ true → 78 ≡ read_test f name room
    unfolding read_test
    gives-78 h = sym (first_of (raw_test f) _ file ∙ decides (bad_name name) 77 _ h)

    module _ (named : bad_name name ≡ false) where
      from-79 : read_test f name room ≡ (not (eqb room (sheet_length f name)) ⇒ 79)
      unfolding read_test
      from-79 = first_of (raw_test f) _ file ∙ goes_on (bad_name name) 78 _ named

      pub gives-79 : (room ≡ sheet_length f name → ⊥) → 79 ≡ read_test f name room
      gives-79 h = sym (from-79 ∙ met (not (eqb room (sheet_length f name))) 79 (ap not (ne_eqb room (sheet_length f name) h)))

      pub gives_none : room ≡ sheet_length f name → 0 ≡ read_test f name room
      gives_none h = sym (from-79 ∙ differ-no room (sheet_length f name) 79 h)

-- what passes them
pub record Readable (f name : List ℕ) (room : ℕ) : Type 0 where
  pub file : Passed f
  pub some : 0 < length name
  pub short : length name ≤ 255
  pub full : zero_in name 0 (length name) ≡ false
  pub exact : room ≡ sheet_length f name

pub request-passed : (f name : List ℕ) (room : ℕ) → read_test f name room ≡ 0 → Readable f name room
unfolding read_test
request-passed f name room h =
    let from78 = both (raw_test f) _ h in
    let from79 = both (bad_name name ⇒ 78) _ from78.1 in
    let good = neither (eqb (length name) 0 || ltb 255 (length name)) (zero_in name 0 (length name)) (unmet (bad_name name) 77 from79.0) in
    let sized = neither (eqb (length name) 0) (ltb 255 (length name)) good.0 in
    let some : length name ≡ 0 → ⊥ = eqb-false (length name) 0 sized.0 in
    record {
      file = file-passed f from78.0;
      some = omega arith;
      short = ltb-false 255 (length name) sized.1;
      full = good.1;
      exact = no-differ room (sheet_length f name) 78 from79.1;
    }
