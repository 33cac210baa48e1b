-- The stores of a fresh image in a row: the numbers of the header, a text in its 64 bytes, and the whole image.
use Prim.Native.Nat.{ℕ, ◌+◌, ◌*◌, ◌-◌, ◌≤◌}
use mathlib.Core.Path.{◌≡◌, refl, sym, ◌∙◌, ap}
use mathlib.Core.List.{List, ◌++◌, append_assoc}
use native.Mathlib.Nat.{zero-add}
use native.Mathlib.Omega.{arith}
use lib.ListN.{length, drop, length-append, length-drop, length-replicate, take-append-drop, replicate-append-replicate}
use lib.Seq.{drop-drop, take_at, drop_at}
use Rattle.gsd_format.specs.Bytes.{le_bytes, part, zeros, stored}
use Rattle.gsd_format.specs.Header.{magic, version21, header_size}
use Rattle.gsd_format.specs.Create.{filled, fresh_index_end, fresh_namelist, fresh_namelist_end, fresh_header, fresh}
use Rattle.gsd_format.proofs.Bytes.{le_bytes-length, part_length, stored-then, stored-paste}
use Rattle.gsd_format.proofs.Create.{filled-length}
use Rattle.gsd_fresh.specs.Numbers.{numbers}

-- seven texts of these lengths, one behind the other
seven : (s a b c d e f g : List ℕ) → length a ≡ 8 → length b ≡ 8 → length c ≡ 8 → length d ≡ 8 → length e ≡ 8 → length f ≡ 4
    → stored (stored (stored (stored (stored (stored (stored s 0 a) 8 b) 16 c) 24 d) 32 e) 40 f) 44 g ≡ stored s 0 (a ++ b ++ c ++ d ++ e ++ f ++ g)
seven s a b c d e f g la lb lc ld le lf =
    rw (
      stored-then s 0 a b 8 (omega arith),
      stored-then s 0 (a ++ b) c 16 (simp length-append (omega arith)),
      stored-then s 0 ((a ++ b) ++ c) d 24 (simp length-append (omega arith)),
      stored-then s 0 (((a ++ b) ++ c) ++ d) e 32 (simp length-append (omega arith)),
      stored-then s 0 ((((a ++ b) ++ c) ++ d) ++ e) f 40 (simp length-append (omega arith)),
      stored-then s 0 (((((a ++ b) ++ c) ++ d) ++ e) ++ f) g 44 (simp length-append (omega arith)),
    ) (simp append_assoc)

pub put-numbers : (s : List ℕ) (schema_version slots segments : ℕ)
    → stored (stored (stored (stored (stored (stored (stored s 0 magic) 8 (le_bytes 8 header_size)) 16 (le_bytes 8 slots)) 24 (le_bytes 8 (fresh_namelist slots)))
    32 (le_bytes 8 segments)) 40 (le_bytes 4 schema_version)) 44 (le_bytes 4 version21)
    ≡ stored s 0 (numbers schema_version slots segments)
put-numbers s schema_version slots segments =
    let names : ℕ = fresh_namelist slots in
    seven s magic (le_bytes 8 header_size) (le_bytes 8 slots) (le_bytes 8 names) (le_bytes 8 segments) (le_bytes 4 schema_version) (le_bytes 4 version21)
    refl (le_bytes-length 8 header_size) (le_bytes-length 8 slots) (le_bytes-length 8 names) (le_bytes-length 8 segments) (le_bytes-length 4 schema_version)

pub put-filled : (s : List ℕ) (at : ℕ) (t : List ℕ) → length t ≤ 63
    → stored (stored s at t) (at + length t) (zeros (at + 64 - (at + length t))) ≡ stored s at (filled t)
put-filled s at t h =
    ap (λ n. stored (stored s at t) (at + length t) (zeros n)) (let e : at + 64 - (at + length t) ≡ 64 - length t = omega arith in e)
    ∙ stored-then s at t (zeros (64 - length t)) (at + length t) refl

-- a text stored at a place behind the front: what lay before the place stays, and what lies behind the text
stored-behind : (front s z : List ℕ) (f at last : ℕ) → length front ≡ f → f ≤ at → at + length z ≡ last → last ≤ length s
    → stored (front ++ drop f s) at z ≡ front ++ part s f (at - f) ++ z ++ drop last s
stored-behind front s z f at last e low ends room =
    let kept : List ℕ = part s f (at - f) in
    let size : length kept ≡ at - f = part_length s f (at - f) (omega arith) in
    let before : length (front ++ kept) ≡ at = length-append front kept ∙ omega arith in
    let place : f + (at - f) ≡ at = omega arith in
    let behind : drop f s ≡ kept ++ drop at s
    = sym (take-append-drop (at - f) (drop f s)) ∙ ap (λ t. kept ++ t) (drop-drop (at - f) f s ∙ ap (λ n. drop n s) place) in
    let x : List ℕ = (front ++ kept) ++ drop at s in
    let joined : front ++ drop f s ≡ x = ap (λ t. front ++ t) behind ∙ sym (append_assoc front kept (drop at s)) in
    let inside : at + length z ≤ length x = simp length-append (omega (arith, size, length-drop at s)) in
    let rest : drop (at + length z) x ≡ drop last s
    = sym (drop-drop (length z) at x) ∙ ap (drop (length z)) (drop_at (front ++ kept) (drop at s) at before)
    ∙ drop-drop (length z) at s ∙ ap (λ n. drop n s) ends in
    rw (joined, stored-paste x at z inside, take_at (front ++ kept) (drop at s) at before, rest) (simp append_assoc)

-- three texts likewise, and zeros up to len, of which 80 are the header's
module _ (s a b c : List ℕ) (k len : ℕ) (la : length a ≡ 48) (lb : length b ≡ 64) (lc : length c ≡ 64) (e : len ≡ 256 + k) (room : len ≤ length s) where
  rest : zeros (len - 176) ≡ zeros 80 ++ zeros k
  rest = ap zeros (let f : len - 176 ≡ 80 + k = omega arith in f) ∙ sym (replicate-append-replicate 80 k 0)

  whole : length (a ++ b ++ c ++ zeros (len - 176)) ≡ len
  whole = simp (length-append, length-replicate) (omega arith)

  in_a_row : stored (stored (stored (stored s 0 a) 48 b) 112 c) 176 (zeros (len - 176)) ≡ stored s 0 (a ++ b ++ c ++ zeros (len - 176))
  in_a_row =
      rw (
        stored-then s 0 a b 48 (omega arith),
        stored-then s 0 (a ++ b) c 112 (simp length-append (omega arith)),
        stored-then s 0 ((a ++ b) ++ c) (zeros (len - 176)) 176 (simp length-append (omega arith)),
      ) (simp append_assoc)

  pasted : stored (stored (stored (stored s 0 a) 48 b) 112 c) 176 (zeros (len - 176)) ≡ a ++ b ++ c ++ zeros 80 ++ zeros k ++ drop len s
  pasted =
      in_a_row ∙ stored-paste s 0 (a ++ b ++ c ++ zeros (len - 176)) (rw (zero-add, whole) room)
      ∙ rw (zero-add, whole, rest) (simp append_assoc)

  -- and zeros at a place behind them, up to last
  pasted-behind : (at last n : ℕ) → len ≤ at → last ≡ at + n → last ≤ length s
      → stored (stored (stored (stored (stored s 0 a) 48 b) 112 c) 176 (zeros (len - 176))) at (zeros (last - at))
      ≡ a ++ b ++ c ++ zeros 80 ++ zeros k ++ part s len (at - len) ++ zeros n ++ drop last s
  pasted-behind at last n low f inside =
      let front : List ℕ = a ++ b ++ c ++ zeros 80 ++ zeros k in
      let size : length front ≡ len = simp (length-append, length-replicate) (omega arith) in
      let count : last - at ≡ n = omega arith in
      rw count (ap (λ x. stored x at (zeros n)) (pasted ∙ simp append_assoc)
      ∙ stored-behind front s (zeros n) len at last size low (omega (arith, length-replicate {A = ℕ} n 0)) inside
      ∙ simp append_assoc)

numbers-length : (schema_version slots segments : ℕ) → length (numbers schema_version slots segments) ≡ 48
numbers-length schema_version slots segments = simp (length-append, le_bytes-length) (omega arith)

pub lay-out : (s application schema : List ℕ) (schema_version slots segments : ℕ) → length application ≤ 63 → length schema ≤ 63
    → fresh_namelist_end slots segments ≤ length s
    → stored (stored (stored (stored (stored s 0 (numbers schema_version slots segments)) 48 (filled application)) 112 (filled schema))
    176 (zeros (fresh_index_end slots - 176))) (fresh_namelist slots) (zeros (fresh_namelist_end slots segments - fresh_namelist slots))
    ≡ fresh s application schema schema_version slots segments
unfolding fresh fresh_header
lay-out s application schema schema_version slots segments ha hs room =
    pasted-behind s (numbers schema_version slots segments) (filled application) (filled schema) (32 * slots) (fresh_index_end slots)
    (numbers-length schema_version slots segments) (filled-length application ha) (filled-length schema hs) refl (omega arith)
    (fresh_namelist slots) (fresh_namelist_end slots segments) (64 * segments) (omega arith) refl room
    ∙ simp append_assoc
