-- Laws of a file: its head as its stores come, its length, and that head and body are all of it.
use Prim.Native.Nat.{ℕ, ◌+◌, ◌/◌, ◌%◌, ◌^◌}
use mathlib.Core.Path.{◌≡◌, refl, sym, ◌∙◌, ap}
use mathlib.Core.List.{List, ◌++◌, append_assoc, append-nil}
use native.Mathlib.Nat.{mod-add-div}
use native.Mathlib.Omega.{arith}
use lib.ListN.{length, length-append, drop_of_length-le}
use lib.Ieee.{Float, binary64, to_bits}
use Rattle.gsd_format.specs.declared.Entry.{Entry}
use Rattle.gsd_format.specs.Bytes.{stored}
use Rattle.gsd_format.proofs.Bytes.{stored-paste}
use Rattle.gsd_xdr.specs.Xdr.{be_bytes}
use Rattle.gsd_xdr.proofs.Xdr.{be_bytes-append, low-be}
use Rattle.gsd_body.specs.Body.{body_of}
use Rattle.gsd_body.proofs.Bodies.{store-more, body-length}
use Rattle.gsd_nchilada.specs.File.{magic_number, time_of, head_of, file_of, file_length}

-- the two words of a number are its eight bytes
pub two-words : (w : ℕ) → be_bytes 8 w ≡ be_bytes 4 (w / 2 ^ 32) ++ be_bytes 4 (w % 2 ^ 32)
two-words w =
    be_bytes-append 4 4 w
    ∙ ap (λ l. be_bytes 4 (w / 2 ^ 32) ++ l) (ap (be_bytes 4) (sym (mod-add-div w (2 ^ 32))) ∙ low-be 4 (w % 2 ^ 32) (w / 2 ^ 32))

-- the head, as it is written in three
pub head-parts : (e : Entry) (time : Float) →
    be_bytes 4 magic_number ++ be_bytes 8 (to_bits binary64 time) ++ (be_bytes 8 e.n ++ be_bytes 4 e.m ++ be_bytes 4 e.kind) ≡ head_of e time
unfolding head_of
head-parts e time =
    ap (λ l. be_bytes 4 magic_number ++ be_bytes 8 (to_bits binary64 time) ++ (l ++ be_bytes 4 e.m ++ be_bytes 4 e.kind)) (two-words e.n)
    ∙ in_a_row (be_bytes 4 magic_number ++ be_bytes 8 (to_bits binary64 time))
    (be_bytes 4 (e.n / 2 ^ 32)) (be_bytes 4 (e.n % 2 ^ 32)) (be_bytes 4 e.m) (be_bytes 4 e.kind)
  where
    in_a_row : (a b c d e : List ℕ) → a ++ (b ++ c ++ d ++ e) ≡ a ++ b ++ c ++ d ++ e
    in_a_row a b c d e = simp append_assoc

-- the file's length

pub head-length : (e : Entry) (time : Float) → length (head_of e time) ≡ 28
unfolding head_of be_bytes
head-length e time = refl

pub file-length : (img : List ℕ) (e : Entry) (step : Float) → length (file_of img e step) ≡ file_length e
file-length img e step =
    length-append (head_of e (time_of e.frame step)) (body_of e.kind img e.location e.m e.n)
    ∙ (λ i. head-length e (time_of e.frame step) i + body-length e.kind img e.location e.m e.n i)

-- a text as long as what it is stored over is all that is left
whole : (s t : List ℕ) → length t ≡ length s → stored s 0 t ≡ t
whole s t e = stored-paste s 0 t (omega arith) ∙ ap (λ l. t ++ l) (drop_of_length-le s {i = 0 + length t} (omega arith)) ∙ append-nil t

-- head and body, stored in a file of that length, are the file
pub file-written : (img : List ℕ) (e : Entry) (step time : Float) (file headed written : List ℕ) → time ≡ time_of e.frame step → length file ≡ file_length e →
    headed ≡ stored file 0 (head_of e time) → written ≡ stored headed 28 (body_of e.kind img e.location e.m e.n) → written ≡ file_of img e step
file-written img e step time file headed written t n h b =
    store-more file headed written 0 28 _ _ h (omega (arith, head-length e time)) b
    ∙ ap (λ x. stored file 0 (head_of e x ++ body_of e.kind img e.location e.m e.n)) t
    ∙ whole file (file_of img e step) (file-length img e step ∙ sym n)
