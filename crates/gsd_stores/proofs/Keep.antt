-- What one image keeps of another: entries found stay found with their bytes, nothing appears in older frames, and names stay
-- listed.
use Rattle.std.specs.Prelude.{Result, Ok}
use Prim.Native.Nat.{ℕ, ◌+◌, ◌*◌, ◌≤◌, ◌<◌}
use mathlib.Core.Path.{◌≡◌, refl, ◌∙◌, sym}
use mathlib.Core.Logic.{inr, ⊎_elim}
use mathlib.Core.List.{List}
use native.Mathlib.Omega.{arith}
use lib.ListN.{length, get_or}
use Rattle.gsd_format.specs.declared.Entry.{Entry}
use Rattle.gsd_format.specs.Bytes.{part}
use Rattle.gsd_format.specs.Header.{layout_of}
use Rattle.gsd_format.specs.Names.{names_of, Has}
use Rattle.gsd_format.specs.Entries.{entries_of}
use Rattle.gsd_format.specs.Opening.{verdict}
use Rattle.gsd_format.specs.Lookup.{lookup, lookup_in, chunk_of}
use Rattle.gsd_format.specs.Answers.{number_of}
use Rattle.gsd_format.proofs.Lookup.{opened-lookup, look-found, look-41, look-42, look-absent}
use Rattle.gsd_stores.specs.Sheet.{Row}
use Rattle.gsd_stores.specs.Runs.{frames}
use Rattle.gsd_stores.specs.Demand3.{Absent, Recorded, Complete, no_row}

-- b keeps what a has
pub record Keep (a b : List ℕ) : Type 0 where
  pub grow : frames a ≤ frames b
  pub kept : (frame : ℕ) (name : List ℕ) (e : Entry) → lookup a frame name ≡ Ok e → lookup b frame name ≡ Ok e
  pub back : (frame : ℕ) (name : List ℕ) (e : Entry) → frame < frames a → lookup b frame name ≡ Ok e → lookup a frame name ≡ Ok e
  pub chunk : (frame : ℕ) (name : List ℕ) (e : Entry) → lookup a frame name ≡ Ok e → chunk_of b e ≡ chunk_of a e
  pub named : (name : List ℕ) → Has name (names_of a) → Has name (names_of b)
  pub many : length (entries_of a) ≤ length (entries_of b)
  pub bytes : (i : ℕ) → i < length (entries_of a) → part b ((layout_of b).index + 32 * i) 32 ≡ part a ((layout_of a).index + 32 * i) 32

pub keep-refl : (a : List ℕ) → Keep a a
keep-refl a = record {
  grow = omega arith;
  kept = λ f n e h. h;
  back = λ f n e l h. h;
  chunk = λ f n e h. refl;
  named = λ n h. h;
  many = omega arith;
  bytes = λ i l. refl;
}

pub keep-trans : (a b c : List ℕ) → Keep a b → Keep b c → Keep a c
keep-trans a b c p q = record {
  grow = omega (arith, p.grow, q.grow);
  kept = λ f n e h. q.kept f n e (p.kept f n e h);
  back = λ f n e l h. p.back f n e l (q.back f n e (omega (arith, p.grow)) h);
  chunk = λ f n e h. q.chunk f n e (p.kept f n e h) ∙ p.chunk f n e h;
  named = λ n h. q.named n (p.named n h);
  many = omega (arith, p.many, q.many);
  bytes = λ i l. q.bytes i (omega (arith, p.many)) ∙ p.bytes i l;
}

number-found : (l : Result Entry ℕ) (e : Entry) → l ≡ Ok e → number_of l ≡ 0
number-found l e h = rw h

-- a lookup that gives 41 or 42 finds nothing
pub absent_none : (a : List ℕ) (frame : ℕ) (name : List ℕ) (e : Entry) → Absent a frame name → lookup a frame name ≡ Ok e → ⊥
absent_none a frame name e h g =
    ⊎_elim (λ n. omega (arith, n, number-found (lookup a frame name) e g)) (λ n. omega (arith, n, number-found (lookup a frame name) e g)) h

-- what is found is in a frame that is there
pub found_below : (a : List ℕ) → verdict a ≡ 0 → (frame : ℕ) (name : List ℕ) (e : Entry) → lookup a frame name ≡ Ok e → frame < frames a
found_below a o frame name e f = ((look-found (entries_of a) (names_of a) frame name e).0 (sym (opened-lookup a o frame name) ∙ f)).0

-- a lookup in a frame that is there finds an entry, or gives 41 or 42
pub none-absent : (a : List ℕ) (frame : ℕ) (name : List ℕ) → verdict a ≡ 0 → frame < frames a → ((e : Entry) → lookup a frame name ≡ Ok e → ⊥) → Absent a frame name
none-absent a frame name o l h =
    let q : lookup a frame name ≡ lookup_in (entries_of a) (names_of a) frame name = opened-lookup a o frame name in
    rw q (look-absent (entries_of a) (names_of a) frame name l (λ e g. h e (q ∙ g)))

-- nothing appears in older frames
pub absent-kept : (a b : List ℕ) → Keep a b → verdict b ≡ 0 → (frame : ℕ) (name : List ℕ) → frame < frames a → Absent a frame name → Absent b frame name
absent-kept a b p o frame name l h =
    none-absent b frame name o (omega (arith, p.grow)) (λ e g. absent_none a frame name e h (p.back frame name e l g))

-- and a name that is listed stays listed: 42 never becomes 41
pub named-kept : (a b : List ℕ) → Keep a b → verdict a ≡ 0 → verdict b ≡ 0 → (frame : ℕ) (name : List ℕ) →
    number_of (lookup a frame name) ≡ 42 → number_of (lookup b frame name) ≡ 42
named-kept a b p oa ob frame name h =
    let (there, listed, lacks) = (look-42 (entries_of a) (names_of a) frame name).0 (rw (opened-lookup a oa frame name) at h) in
    ⊎_elim
    (λ e. absurd (omega (arith, p.named name listed, ((look-41 (entries_of b) (names_of b) frame name).0 (rw (opened-lookup b ob frame name) at e)).1)))
    (λ e. e) (absent-kept a b p ob frame name there (inr h))

pub recorded-kept : (a b : List ℕ) → Keep a b → (frame : ℕ) (r : Row) → Recorded a frame r → Recorded b frame r
recorded-kept a b p frame r h = record {
  entry = h.entry;
  found = p.kept frame r.name h.entry h.found;
  same_n = h.same_n;
  same_m = h.same_m;
  same_type = h.same_type;
  same_bytes = p.chunk frame r.name h.entry h.found ∙ h.same_bytes;
}

-- a complete frame stays complete
pub complete-kept : (a b : List ℕ) → Keep a b → verdict b ≡ 0 → (frame : ℕ) (rows : List Row) → frame < frames a → Complete a frame rows → Complete b frame rows
complete-kept a b p o frame rows l h = record {
  each = λ i m. recorded-kept a b p frame (get_or rows i no_row) (h.each i m);
  others = λ n m. absent-kept a b p o frame n l (h.others n m);
}
