-- Laws of create: what a test that refuses nothing tells, and the slice afterwards by the number.
use Prim.Native.Nat.{ℕ, zero, suc, ◌≤◌, ◌<◌}
use mathlib.Core.Path.{◌≡◌, refl, sym}
use mathlib.Core.Bool.{true, false, ◌||◌}
use mathlib.Core.List.{List}
use native.Mathlib.Omega.{arith}
use lib.Dec.{ltb}
use lib.ListN.{length, length-append, length-replicate}
use borrow.Author.Tests.{ltb-false, lt-ltb, le-ltb}
use Rattle.gsd_format.specs.Refusals.{◌⇒◌, ◌▹◌}
use Rattle.gsd_format.specs.Bytes.{zero_in}
use Rattle.gsd_format.specs.Header.{greatest_length}
use Rattle.gsd_format.specs.Create.{default_slots, default_segments, or_default, fresh_namelist_end, fresh_length, bad_text, filled}
use Rattle.gsd_format.specs.Create.{create_test, fresh, create_number, created}
use Rattle.gsd_format.proofs.Refusals.{both, unmet, neither, not-less}

pub default-taken : (n usual : ℕ) → n ≡ 0 → or_default n usual ≡ usual
unfolding or_default
default-taken zero usual e = refl
default-taken (suc n) usual e = absurd (omega arith)

pub default-spared : (n usual : ℕ) → (n ≡ 0 → ⊥) → or_default n usual ≡ n
unfolding or_default
default-spared zero usual e = absurd (e refl)
default-spared (suc n) usual e = refl

-- a text of the header has 64 bytes
pub filled-length : (t : List ℕ) → length t ≤ 63 → length (filled t) ≡ 64
filled-length t h = simp (length-append, length-replicate) (omega arith)

-- a segment's size is that of the alignment: nothing lies between the name block's end and the fresh image's
fresh-length : (slots segments : ℕ) → fresh_length slots segments ≡ fresh_namelist_end slots segments
fresh-length slots segments = omega arith

-- create's number by the test that decides it
module _ (len : ℕ) (application schema : List ℕ) (slots segments : ℕ) where
  pub test-length : greatest_length < len → create_test len application schema slots segments ≡ 2
  unfolding create_test ◌⇒◌ ◌▹◌
  test-length h = simp (lt-ltb _ _ h)

  pub test-blocks : len ≤ greatest_length → (ltb 65536 slots || ltb 65536 segments) ≡ true → create_test len application schema slots segments ≡ 50
  unfolding create_test ◌⇒◌ ◌▹◌
  test-blocks h e = simp (le-ltb _ _ h, e)

  pub test-texts : len ≤ greatest_length → slots ≤ 65536 → segments ≤ 65536 → (bad_text application || bad_text schema) ≡ true → create_test len application schema slots segments ≡ 51
  unfolding create_test ◌⇒◌ ◌▹◌
  test-texts h m k e = simp (le-ltb _ _ h, le-ltb _ _ m, le-ltb _ _ k, e)

  pub test-room : len ≤ greatest_length → slots ≤ 65536 → segments ≤ 65536 → bad_text application ≡ false → bad_text schema ≡ false
      → create_test len application schema slots segments ≡ (ltb len (fresh_namelist_end slots segments) ⇒ 52)
  unfolding create_test ◌⇒◌ ◌▹◌
  test-room h m k a s = simp (le-ltb _ _ h, le-ltb _ _ m, le-ltb _ _ k, a, s, fresh-length slots segments)

-- a slice of len bytes takes a fresh image with these texts and so many slots and segments
pub record Takes (len : ℕ) (application schema : List ℕ) (slots segments : ℕ) : Type 0 where
  pub short : len ≤ greatest_length
  pub few-slots : slots ≤ 65536
  pub few-segments : segments ≤ 65536
  pub short-application : length application ≤ 63
  pub short-schema : length schema ≤ 63
  pub room : fresh_namelist_end slots segments ≤ len

text-length : (t : List ℕ) → bad_text t ≡ false → length t ≤ 63
text-length t h = ltb-false 63 (length t) (neither (ltb 63 (length t)) (zero_in t 0 (length t)) h).0

pub takes : (len : ℕ) (application schema : List ℕ) (slots segments : ℕ) → create_test len application schema slots segments ≡ 0 → Takes len application schema slots segments
unfolding create_test
takes len a s slots segments h =
    let numbers : (ltb 65536 slots || ltb 65536 segments ⇒ 50) ▹ (bad_text a || bad_text s ⇒ 51) ▹ (ltb len (fresh_length slots segments) ⇒ 52) ≡ 0 = (both _ _ h).1 in
    let texts = (both _ _ numbers).1 in
    let blocks = neither _ _ (unmet _ 49 (both _ _ numbers).0) in
    let good = neither _ _ (unmet _ 50 (both _ _ texts).0) in
    record {
      short = not-less greatest_length len 1 (both _ _ h).0;
      few-slots = ltb-false 65536 slots blocks.0;
      few-segments = ltb-false 65536 segments blocks.1;
      short-application = text-length a good.0;
      short-schema = text-length s good.1;
      room = rw (sym (fresh-length slots segments)) (not-less len (fresh_length slots segments) 51 (both _ _ texts).1);
    }

-- the slice afterwards: as it was, or with a fresh image at its front
module _ (slice application schema : List ℕ) (schema_version slots segments : ℕ) where
  pub created-kept : (create_number slice application schema slots segments ≡ 0 → ⊥) → created slice application schema schema_version slots segments ≡ slice
  unfolding created
  created-kept h = go (create_number slice application schema slots segments) _ slice h
    where
      go : (n : ℕ) (x y : List ℕ) → (n ≡ 0 → ⊥) → elim n [ zero ↦ x | suc k ↦ y ] ≡ y
      go zero x y h = absurd (h refl)
      go (suc n) x y h = refl

  pub created-made : create_number slice application schema slots segments ≡ 0
      → created slice application schema schema_version slots segments ≡ fresh slice application schema schema_version (or_default slots default_slots) (or_default segments default_segments)
  unfolding created
  created-made h = rw (h, created)
