-- Laws of a file that is written: its head as its stores come, its length, its number, and that head and chunk are all of it.
use Rattle.std.specs.Prelude.{Ok, Err}
use Prim.Native.Nat.{ℕ, ◌+◌, ◌≤◌}
use mathlib.Core.Path.{◌≡◌, refl, sym, ◌∙◌, ap}
use mathlib.Core.Bool.{not}
use mathlib.Core.List.{List, ◌++◌}
use native.Mathlib.Omega.{arith}
use lib.ListN.{length, length-append}
use lib.Dec.{eqb}
use borrow.Author.Tests.{ne_eqb}
use Rattle.gsd_format.specs.declared.Entry.{Entry}
use Rattle.gsd_format.specs.Bytes.{le_bytes, part, stored}
use Rattle.gsd_format.specs.Refusals.{◌⇒◌, accepted}
use Rattle.gsd_format.specs.Types.{size_of, chunk_size}
use Rattle.gsd_format.specs.Lookup.{lookup, chunk_of}
use Rattle.gsd_format.specs.Calls.{lookup_test}
use Rattle.gsd_format.proofs.Bytes.{part_length, store-more, stored-whole}
use Rattle.gsd_format.proofs.Refusals.{met, differ-no, first_of, stays, not-accepted}
use Rattle.gsd_format.proofs.Types.{size-kind}
use Rattle.gsd_format.proofs.Calls.{lookup-says, lookup-found, lookup-never-0}
use Rattle.gsd_open.specs.Index.{Capped}
use Rattle.gsd_elements.specs.Held.{Held}
use Rattle.gsd_rawarray.specs.File.{raw_magic, raw_type, raw_head, raw_file, raw_length}
use Rattle.gsd_rawarray.specs.Requests.{write_test, written_file}

-- The head

pub front-stored : (kind : ℕ) (file a b c after : List ℕ) (type size : ℕ) → type ≡ raw_type kind → size ≡ size_of kind →
    a ≡ stored file 0 raw_magic → b ≡ stored a 8 (le_bytes 8 0) → c ≡ stored b 16 (le_bytes 8 type) → after ≡ stored c 24 (le_bytes 8 size) →
    after ≡ stored file 0 (raw_magic ++ le_bytes 8 0 ++ le_bytes 8 (raw_type kind) ++ le_bytes 8 (size_of kind))
unfolding le_bytes
front-stored kind file a b c after type size t s ha hb hc hd =
    store-more file c after 0 24 _ _ (store-more file b c 0 16 _ _ (store-more file a b 0 8 _ _ ha refl hb) refl hc) refl hd
    ∙ (λ i. stored file 0 (raw_magic ++ le_bytes 8 0 ++ le_bytes 8 (t i) ++ le_bytes 8 (s i)))

pub head-stored : (e : Entry) (size : ℕ) (file a after : List ℕ) → size ≡ chunk_size e →
    a ≡ stored file 0 (raw_magic ++ le_bytes 8 0 ++ le_bytes 8 (raw_type e.kind) ++ le_bytes 8 (size_of e.kind)) →
    after ≡ stored a 32 (le_bytes 8 size ++ le_bytes 8 2 ++ le_bytes 8 e.m ++ le_bytes 8 e.n) → after ≡ stored file 0 (raw_head e)
unfolding raw_head le_bytes
head-stored e size file a after s ha hb =
    store-more file a after 0 32 _ _ ha refl (hb ∙ (λ i. stored a 32 (le_bytes 8 (s i) ++ le_bytes 8 2 ++ le_bytes 8 e.m ++ le_bytes 8 e.n)))

pub head-length : (e : Entry) → length (raw_head e) ≡ 64
unfolding raw_head le_bytes
head-length e = refl

-- The chunk of an entry that can be read

module _ (img : List ℕ) (e : Entry) (held : Held img e) where
  -- its size as code keeps it
  pub size_exact : (size : ℕ) → Capped (chunk_size e) size → size ≡ chunk_size e
  size_exact size c = c.exact (omega (arith, held.within, held.short))

  pub known-kind : e.kind ≤ 11
  known-kind = (size-kind e.kind held.sized).1

  pub chunk-length : length (chunk_of img e) ≡ chunk_size e
  chunk-length = part_length img e.location (chunk_size e) held.within

  pub file-length : length (raw_file img e) ≡ raw_length e
  file-length = length-append (raw_head e) (chunk_of img e) ∙ (λ i. head-length e i + chunk-length i)

  pub chunk_part : (size : ℕ) → size ≡ chunk_size e → part img e.location size ≡ chunk_of img e
  chunk_part size n = ap (part img e.location) n

  -- head and chunk, stored in a slice of that length, are the file
  pub file-written : (file a after : List ℕ) → length file ≡ raw_length e → a ≡ stored file 0 (raw_head e) → after ≡ stored a 64 (chunk_of img e) →
      after ≡ raw_file img e
  file-written file a after n ha hb =
      store-more file a after 0 64 (raw_head e) (chunk_of img e) ha (omega (arith, head-length e)) hb
      ∙ stored-whole file (raw_file img e) (file-length ∙ sym n)

-- Its number

module _ (e : Entry) (room size : ℕ) (exact : size ≡ chunk_size e) where
  pub gives-77 : (room ≡ 64 + size → ⊥) → 77 ≡ (not (eqb room (raw_length e)) ⇒ 77)
  gives-77 h = sym (met (not (eqb room (raw_length e))) 77 (ap not (ne_eqb room (raw_length e) (λ q. h (q ∙ ap (λ n. 64 + n) (sym exact))))))

  pub gives_none : room ≡ 64 + size → 0 ≡ (not (eqb room (raw_length e)) ⇒ 77)
  gives_none h = sym (differ-no room (raw_length e) 77 (h ∙ ap (λ n. 64 + n) exact))

module _ (img : List ℕ) (frame : ℕ) (name : List ℕ) where
  pub found-test : (e : Entry) → lookup img frame name ≡ Ok e → (room : ℕ) →
      (not (eqb room (raw_length e)) ⇒ 77) ≡ write_test img frame name room
  unfolding write_test
  found-test e h room =
      let found = lookup-found img frame name e h in
      sym (first_of (lookup_test img frame name) _ found.0 ∙ ap (λ x. not (eqb room (raw_length x)) ⇒ 77) found.1)

  pub of-found : (e : Entry) (file after : List ℕ) (number : ℕ) → lookup img frame name ≡ Ok e →
      number ≡ (not (eqb (length file) (raw_length e)) ⇒ 77) → after ≡ accepted (not (eqb (length file) (raw_length e)) ⇒ 77) (raw_file img e) file →
      (number ≡ write_test img frame name (length file)) × (after ≡ written_file img frame name file)
  of-found e file after number h p q = (
    p ∙ found-test e h (length file),
    q ∙ (λ i. accepted (found-test e h (length file) i) (raw_file img (sym (lookup-found img frame name e h).1 i)) file),
  )

  pub of-refused : (n : ℕ) (file : List ℕ) → lookup img frame name ≡ Err n →
      (n ≡ write_test img frame name (length file)) × (file ≡ written_file img frame name file)
  unfolding write_test
  of-refused n file h =
      let number : n ≡ lookup_test img frame name = (lookup-says img frame name (Err n) (sym h)).1.0 in
      let some : n ≡ 0 → ⊥ = λ z. lookup-never-0 img frame name (h ∙ ap Err z) in
      let told : n ≡ write_test img frame name (length file) = number ∙ sym (stays (lookup_test img frame name) _ (λ z. some (number ∙ z))) in
      (told, not-accepted n _ _ file told some)
