-- Step 4: the new names come into the name block, one after the other, each from its last word to its first. Until a name's last store the
-- list ends where it ended; that store lets it in.
use Prim.Native.Nat.{ℕ, zero, suc, ◌+◌, ◌*◌, ◌-◌, ◌/◌, ◌%◌, ◌≤◌, ◌<◌}
use mathlib.Core.Path.{◌≡◌, refl, sym, ◌∙◌, ap}
use mathlib.Core.Logic.{inr}
use mathlib.Core.List.{List, [], ◌∷◌, ◌++◌, append_assoc, append-nil}
use native.Mathlib.Decide.{dec_lt}
use native.Mathlib.Omega.{arith}
use lib.ListN.{length, get_or, take, length-append, get_or-append, get_or-eq_default}
use Rattle.gsd_format.specs.Header.{header_size}
use Rattle.gsd_format.specs.Names.{flat}
use Rattle.gsd_format.proofs.Lists.{Each, each_append}
use Rattle.gsd_format.specs.Bytes.{Apart}
use Rattle.gsd_format.proofs.Names.{Named, flat_append, flat-size, flat-more}
use Rattle.gsd_format.proofs.Verdict.{layout-same}
use Rattle.gsd_stores.specs.View.{View, names_end, namelist_end}
use Rattle.gsd_stores.specs.Steps.{store_name, store_names}
use Rattle.gsd_stores.proofs.Stores.{Over, over-off}
use Rattle.gsd_stores.proofs.Phases.{Phase, phase-nil, phase-down, ◌⨾◌}
use Rattle.gsd_stores.proofs.Texts.{size}
use Rattle.gsd_stores.proofs.View.{with_names, is-long, free_names, keeps-over, Base, base_kept, Passes, Stage}
use Rattle.gsd_stores.proofs.Blocks.{Filled, the_index, the_names, housed-kept, stage-housed, Relaid, restage}

-- The block's text

-- a text followed by zeros grows: its last word is written again, with the bytes behind it
filled-grown : {x y : List ℕ} {at lo hi : ℕ} (n : ℕ) (text more : List ℕ) → Filled x at n text → Over x (text ++ more) at lo hi y →
    lo ≤ at + length text → at + length text + length more ≤ hi → Filled y at n (text ++ more)
filled-grown {x} {y} {at} {lo} {hi} n text more f o l h p a b = go (dec_lt p lo) (dec_lt p hi)
  where
    go : Dec (p < lo) → Dec (p < hi) → get_or y p 0 ≡ get_or (text ++ more) (p - at) 0
    go (yes c) e = o.below p c ∙ f p a b ∙ sym (get_or-append text more 0 (p - at) (omega arith))
    go (no c) (yes e) = o.inside p (omega arith) e
    go (no c) (no e) =
        o.above p (omega arith) ∙ f p a b ∙ get_or-eq_default text 0 (omega arith)
        ∙ sym (get_or-eq_default (text ++ more) 0 (omega (arith, length-append text more)))

-- a name's zero reads as the zeros behind a text do
zero-behind : (t : List ℕ) (i : ℕ) → get_or (t ++ 0 ∷ []) i 0 ≡ get_or t i 0
zero-behind [] zero = refl
zero-behind [] (suc i) = refl
zero-behind (a ∷ t) zero = refl
zero-behind (a ∷ t) (suc i) = zero-behind t i

flat-name : (ns : List (List ℕ)) (b : List ℕ) → flat (ns ++ b ∷ []) ≡ (flat ns ++ b) ++ 0 ∷ []
unfolding flat
flat-name ns b = flat_append ns (b ∷ []) ∙ sym (append_assoc (flat ns) b (0 ∷ []))

-- One name

-- the words that hold a name of so many bytes behind the list's
pub name-words : (block size name n : ℕ) → block % 8 ≡ 0 → 0 < name → size + name ≤ 64 * n →
    let first : ℕ = block + size in let count : ℕ = (first + name - 1) / 8 - first / 8 + 1 in
    (block ≤ first / 8 * 8) × (first + name ≤ first / 8 * 8 + 8 * count) × (first / 8 * 8 + 8 * count ≤ block + 64 * n)
name-words block size name n even some fits = (omega arith, omega arith, omega arith)

module _ {x₀ : List ℕ} {v : View} {d : ℕ} {t : List (List ℕ)} (b : List ℕ) (low : header_size ≤ d)
    (off : Apart d (size d t) v.layout.namelist (64 * v.layout.segments)) (even : v.layout.namelist % 8 ≡ 0) (name : Named b)
    (fits : length (flat v.names) + length b + 1 ≤ 64 * v.layout.segments) where
  -- after its last store the name is in the list
  named-stage : {x y : List ℕ} {lo hi : ℕ} → Stage x₀ v d t x → Over x (flat v.names ++ b) v.layout.namelist lo hi y →
      v.layout.namelist ≤ lo → lo ≤ names_end v → names_end v + length b ≤ hi → hi ≤ namelist_end v.layout →
      Stage x₀ (with_names v (v.names ++ b ∷ [])) d t y
  named-stage {x} {y} s o above below behind inside = restage low off relaid s
    where
      relaid : Relaid v x y v.layout (v.names ++ b ∷ [])
      relaid = record {
        long = o.long;
        outside = λ p f g. over-off o p (λ c e. g (omega arith) (omega arith));
        layout = layout-same y x o.long (λ k l. o.below (8 + k) (omega arith)) ∙ s.base.is.layout;
        apart = s.base.is.blocks.apart;
        index = housed-kept (λ p l m. over-off o p (λ c e. s.base.is.blocks.apart p l m (omega arith) (omega arith))) (stage-housed the_index s);
        names = record {
          low = s.base.is.blocks.namelist_low;
          high = s.base.is.blocks.namelist_high;
          off = λ i l. (s.base.is.sound i l).off_names;
          few = omega (arith, flat-more v.names b);
          filled = λ p l m.
              filled-grown (64 * v.layout.segments) (flat v.names) b (stage-housed the_names s).filled o below behind p l m
              ∙ sym (zero-behind (flat v.names ++ b) (p - v.layout.namelist))
              ∙ ap (λ text. get_or text (p - v.layout.namelist) 0) (sym (flat-name v.names b));
        };
        good = each_append Named v.names (b ∷ []) s.base.is.names.good (name, tt);
        more = omega (arith, length-append v.names (b ∷ []));
      }

  -- before it the list is as it was
  pub one_name : {W : List ℕ → List ℕ → Type 0} → Passes x₀ W v v → Passes x₀ W v (with_names v (v.names ++ b ∷ [])) →
      Phase (Stage x₀ v d t) (Stage x₀ (with_names v (v.names ++ b ∷ [])) d t) W (store_name v.layout.namelist (flat v.names) b)
  unfolding store_name
  one_name same more =
      let first : ℕ = names_end v in
      let count : ℕ = (first + length b - 1) / 8 - first / 8 + 1 in
      let w = name-words v.layout.namelist (length (flat v.names)) (length b) v.layout.segments even name.some (omega arith) in
      phase-down {M = Base x₀ v} same (λ y z h s. more y z h s.base)
      (flat v.names ++ b) v.layout.namelist (first / 8 * 8) count w.0 (λ x s. omega (arith, is-long s.base.is))
      (λ x s m l y o. base_kept (keeps-over o (λ p c e. inr (free_names s.base.is p (omega arith) (omega arith)))) s.base)
      (λ x s y o. named-stage s o w.0 (omega arith) w.1 w.2)

-- All of them

-- W from the names so far to themselves or more
abbrev pub NamesPass : List ℕ → (List ℕ → List ℕ → Type 0) → View → List (List ℕ) → Type 0
NamesPass x₀ W v bs =
    (ns ms : List (List ℕ)) (i j : ℕ) → i ≤ j → ns ≡ v.names ++ take i bs → ms ≡ v.names ++ take j bs → Passes x₀ W (with_names v ns) (with_names v ms)

-- the list grows name by name
pub all-names : {x₀ : List ℕ} {W : List ℕ → List ℕ → Type 0} (v : View) {d : ℕ} {t : List (List ℕ)} (bs : List (List ℕ)) → header_size ≤ d →
    Apart d (size d t) v.layout.namelist (64 * v.layout.segments) → v.layout.namelist % 8 ≡ 0 → Each Named bs →
    length (flat v.names) + length (flat bs) ≤ 64 * v.layout.segments → NamesPass x₀ W v bs →
    Phase (Stage x₀ v d t) (Stage x₀ (with_names v (v.names ++ bs)) d t) W (store_names v.layout.namelist v.names bs)
unfolding store_names
all-names v [] low off even named fits passes = rw append-nil phase-nil
all-names v {d} {t} (b ∷ bs) low off even named fits passes =
    let more : List (List ℕ) = v.names ++ b ∷ [] in
    let none : v.names ≡ v.names ++ [] = sym (append-nil v.names) in
    one_name b low off even named.0 (omega (arith, flat-size b bs)) (passes v.names v.names 0 0 (omega arith) none none)
    (passes v.names more 0 1 (omega arith) none refl)
    ⨾ rw append_assoc at (all-names (with_names v more) {t = t} bs low off even named.1 (omega (arith, flat-size b bs, flat-more v.names b))
    (λ ns ms i j l e f. passes ns ms (suc i) (suc j) (omega arith)
    (e ∙ append_assoc v.names (b ∷ []) (take i bs)) (f ∙ append_assoc v.names (b ∷ []) (take j bs))))
