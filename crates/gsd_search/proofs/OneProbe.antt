-- Calls of `probing::Search::probe` by the contract that is made of that function: each is the next of the probes, reads its entry and is
-- counted, so that calls in a row are the list. A weaker `requires` or `ensures` there is refused here.
use Prim.Native.Nat.{ℕ, ◌+◌}
use mathlib.Core.Path.{◌≡◌, refl, sym, ◌∙◌, ap}
use mathlib.Core.List.{List, [], ◌∷◌, ◌++◌}
use native.Mathlib.Numerals.{add-one}
use contract.Lifetimes.{Lfts}
use denote.Triple.Clauses.{AtExit}
use borrow.Fn.World.{ArgsD, ResD}
use borrow.Fn.Kinds.{ended_of}
use lib.ListN.{length, get_or, take}
use lib.Seq.{take-suc, take-length}
use Rattle.gsd_format.specs.declared.Entry.{Entry}
use Rattle.gsd_format.specs.Lookup.{none}
use Rattle.gsd_search.specs.declared.probing.Query.{Query}
use Rattle.gsd_search.specs.Queries.{slots_for, probes_for, Next}
use Rattle.gsd_search.specs.contracts.probing.Search.probe.{signature}
use Rattle.gsd_search.proofs.probing.Search.probe.Kinds.{ps, r as answer}
use Rattle.gsd_search.proofs.probing.Search.probe.Reads.{Asked, Learnt}

-- of slot i, after so many probes; it read e and left the count made'
pub record OneProbe (img : List ℕ) (q : Query) (made i : ℕ) (e : Entry) (made' : ℕ) : Type 0 where
  pub lifetimes : Lfts 3
  pub args : ArgsD signature lifetimes
  pub result : ResD signature lifetimes
  pub exit : AtExit (ended_of 3 ps answer) lifetimes
  pub on_image : args.0.now.image.now ≡ img
  pub of_query : args.0.now.query ≡ q
  pub of_slot : args.1.0 ≡ i
  pub before : args.1.1.0.now ≡ made
  pub read : result ≡ e
  pub left : exit.1.1.0.now ≡ made'
  pub asked : Asked lifetimes args
  pub ensured : Learnt lifetimes args result exit

module _ (img : List ℕ) (q : Query) where
  module _ {made i made' : ℕ} {e : Entry} (c : OneProbe img q made i e made') where
    pub one-next : Next (probes_for img q) made i
    one-next = rw (c.on_image, c.of_query, c.before, c.of_slot) at c.asked

    pub one-read : e ≡ get_or (slots_for img q) i none
    one-read = sym c.read ∙ c.ensured.0 ∙ (λ k. get_or (slots_for (c.on_image k) (c.of_query k)) (c.of_slot k) none)

    pub one_more : made' ≡ made + 1
    one_more = sym c.left ∙ c.ensured.1 ∙ ap (λ n. n + 1) c.before

  -- calls in a row, each with the count that the one before left: the slots that they read
  pub data Calls : ℕ → List ℕ → Type 0 where
    none_yet : Calls 0 []
    one_on : {made i made' : ℕ} {e : Entry} {slots : List ℕ} → Calls made slots → OneProbe img q made i e made' → Calls made' (slots ++ i ∷ [])

  -- they are the first of the probes
  pub calls-first : {made : ℕ} {slots : List ℕ} → Calls made slots → slots ≡ take made (probes_for img q)
  calls-first none_yet = refl
  calls-first (one_on {made = made} {i = i} cs c) =
      ap (λ r. r ++ i ∷ []) (calls-first cs)
      ∙ ap (λ j. take made (probes_for img q) ++ j ∷ []) (sym (one-next c).next)
      ∙ sym (take-suc (probes_for img q) made 0 (one-next c).more)
      ∙ ap (λ n. take n (probes_for img q)) (sym (one_more c ∙ add-one made))

  -- and where their count is the length of the list they are all of it
  pub calls-all : {made : ℕ} {slots : List ℕ} → Calls made slots → made ≡ length (probes_for img q) → slots ≡ probes_for img q
  calls-all cs e = calls-first cs ∙ ap (λ n. take n (probes_for img q)) e ∙ take-length (probes_for img q)
