-- Laws of one walk over the entry list: what the entries passed and the rest say together of the whole list.
use Prim.Native.Nat.{ℕ, suc, ◌+◌, max}
use mathlib.Core.Path.{◌≡◌, refl, sym, ◌∙◌, ap}
use mathlib.Core.List.{List, [], ◌∷◌}
use native.Mathlib.Omega.{arith}
use lib.ListN.{length}
use Rattle.gsd_format.specs.declared.Entry.{Entry}
use Rattle.gsd_format.specs.declared.Layout.{Layout}
use Rattle.gsd_format.specs.Types.{chunk_size}
use Rattle.gsd_format.specs.Refusals.{◌▹◌}
use Rattle.gsd_format.specs.Entries.{entry_at, entries_at, frames_from, frames_of, chunks_end}
use Rattle.gsd_format.specs.Opening.{entry_test, entries_test}
use Rattle.gsd_format.proofs.Refusals.{first_of, stays}
use Rattle.gsd_format.proofs.Entries.{entry-location, entries-end, entries-more, frames-none, frames-more}

-- The equations of what is asked of the whole list

pub chunks-none : chunks_end [] ≡ 0
unfolding chunks_end
chunks-none = refl

pub chunks-more : (e : Entry) (es : List Entry) → chunks_end (e ∷ es) ≡ max (e.location + chunk_size e) (chunks_end es)
unfolding chunks_end
chunks-more e es = refl

pub test-none : (l : Layout) (names : ℕ) (before : List Entry) → entries_test l names before [] ≡ 0
unfolding entries_test
test-none l names before = refl

pub test-more : (l : Layout) (names : ℕ) (before : List Entry) (e : Entry) (es : List Entry)
    → entries_test l names before (e ∷ es) ≡ entry_test l names before e ▹ entries_test l names (e ∷ before) es
unfolding entries_test
test-more l names before e es = refl

-- after so many good entries of all, the last of them first, the rest lies ahead: the frames passed are top, and the chunks
-- passed end at end
pub record Walked (l : Layout) (names : ℕ) (all before : List Entry) (top end many : ℕ) (rest : List Entry) : Type 0 where
  pub tested : entries_test l names [] all ≡ entries_test l names before rest
  pub framed : frames_of all ≡ frames_from top rest
  pub counted : length all ≡ many + length rest
  pub ended : chunks_end all ≡ max end (chunks_end rest)

pub walked_none : (l : Layout) (names : ℕ) (all : List Entry) → Walked l names all [] 0 0 0 all
walked_none l names all = record { tested = refl; framed = refl; counted = omega arith; ended = omega arith }

pub walked_more : (l : Layout) (names : ℕ) (all before : List Entry) (top end many : ℕ) (rest : List Entry) (e : Entry) (es : List Entry) →
    Walked l names all before top end many rest → rest ≡ e ∷ es → entry_test l names before e ≡ 0 →
    Walked l names all (e ∷ before) (e.frame + 1) (max end (e.location + chunk_size e)) (many + 1) es
walked_more l names all before top end many rest e es w q z = record {
  tested = w.tested ∙ ap (entries_test l names before) q ∙ test-more l names before e es ∙ first_of _ _ z;
  framed = w.framed ∙ ap (frames_from top) q ∙ frames-more top e es;
  counted = omega (arith, w.counted, ap length q);
  ended = omega (arith, w.ended, ap chunks_end q, chunks-more e es);
}

-- the first bad entry decides
pub walked-bad : (l : Layout) (names : ℕ) (all before : List Entry) (top end many : ℕ) (rest : List Entry) (e : Entry) (es : List Entry) →
    Walked l names all before top end many rest → rest ≡ e ∷ es → (entry_test l names before e ≡ 0 → ⊥) →
    entries_test l names [] all ≡ entry_test l names before e
walked-bad l names all before top end many rest e es w q n =
    w.tested ∙ ap (entries_test l names before) q ∙ test-more l names before e es ∙ stays _ _ n

-- the end of the list
pub walked_all : (l : Layout) (names : ℕ) (all before : List Entry) (top end many : ℕ) (rest : List Entry) →
    Walked l names all before top end many rest →
    rest ≡ [] → (entries_test l names [] all ≡ 0) × (length all ≡ many) × (frames_of all ≡ top) × (chunks_end all ≡ end)
walked_all l names all before top end many rest w z = (
  w.tested ∙ ap (entries_test l names before) z ∙ test-none l names before,
  omega (arith, w.counted, ap length z),
  w.framed ∙ ap (frames_from top) z ∙ frames-none top,
  omega (arith, w.ended, ap chunks_end z, chunks-none),
)

-- The entries from a place on, by the one that is read there

pub rest_more : (x : List ℕ) (at n m : ℕ) (e : Entry) → n ≡ suc m → e ≡ entry_at x at → (e.location ≡ 0 → ⊥) → entries_at x at n ≡ e ∷ entries_at x (at + 32) m
rest_more x at n m e s q z =
    ap (entries_at x at) s ∙ entries-more x at m (λ h. z (ap (λ f. f.location) q ∙ entry-location x at ∙ h)) ∙ ap (λ f. f ∷ entries_at x (at + 32) m) (sym q)

pub rest_end : (x : List ℕ) (at n : ℕ) (e : Entry) → e ≡ entry_at x at → e.location ≡ 0 → entries_at x at n ≡ []
rest_end x at n e q z = entries-end x at n (sym (entry-location x at) ∙ ap (λ f. f.location) (sym q) ∙ z)
