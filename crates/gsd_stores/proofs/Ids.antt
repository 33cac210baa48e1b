-- A listed name keeps its id: over a run of appends the name list only grows, behind what it has. So an id that was asked for once is
-- good for every later reader.
use Rattle.std.specs.Prelude.{Ok}
use Prim.Native.Nat.{ℕ, zero, suc, ◌≤◌, ◌<◌}
use mathlib.Core.Path.{◌≡◌, refl, sym, ◌∙◌, ap}
use mathlib.Core.List.{List, [], ◌∷◌, ◌++◌, append_assoc, append-nil}
use native.Mathlib.Omega.{arith}
use lib.ListN.{length, take, drop, take-append-drop}
use Rattle.gsd_format.specs.Names.{names_of}
use Rattle.gsd_format.specs.Readers.{ident_in}
use Rattle.gsd_format.proofs.Ids.{index-append, has-front}
use Rattle.gsd_format.proofs.Readers.{ident-there, ident-is}
use Rattle.gsd_stores.specs.View.{View, view_of}
use Rattle.gsd_stores.specs.Sheet.{rows_of}
use Rattle.gsd_stores.specs.Stores.{after}
use Rattle.gsd_stores.specs.Plan.{plan_of}
use Rattle.gsd_stores.specs.Append.{append_test, stores_for}
use Rattle.gsd_stores.specs.Runs.{Bytes, Call, Follows}
use Rattle.gsd_stores.proofs.View.{Is, view-is, base-start}
use Rattle.gsd_stores.proofs.Valid.{Valid, valid, ready}
use Rattle.gsd_stores.proofs.Whole.{AllPass, whole_append}
use Rattle.gsd_stores.proofs.Shown.{opens-shown}
use Rattle.gsd_stores.proofs.Moments.{ready-good, stores-are}
use Rattle.gsd_stores.proofs.Runs.{follows-leads}

-- b lists the names of a, and more behind them
abbrev pub Longer : List ℕ → List ℕ → Type 0
Longer a b = (ms : List (List ℕ)) × (names_of b ≡ names_of a ++ ms)

longer-trans : (a b c : List ℕ) → Longer a b → Longer b c → Longer a c
longer-trans a b c (ms, f) (ns, g) = (ms ++ ns, g ∙ ap (λ l. l ++ ns) f ∙ append_assoc (names_of a) ms ns)

-- more of the new names
first_of : {A : Type 0} (i j : ℕ) (l : List A) → i ≤ j → take i (take j l) ≡ take i l
first_of zero j l h = refl
first_of (suc i) zero l h = absurd (omega arith)
first_of (suc i) (suc j) [] h = refl
first_of (suc i) (suc j) (x ∷ l) h = ap (λ r. x ∷ r) (first_of i j l (omega arith))

shown-names : (x : List ℕ) (v : View) → Is x v → names_of x ≡ v.names
unfolding view_of
shown-names x v h = ap (λ u. u.names) (view-is x v h)

store-longer : (x s : List ℕ) → Bytes s → append_test x s ≡ 0 → (k : ℕ) → k < length (stores_for x s) →
    Longer (after x (take k (stores_for x s))) (after x (take (suc k) (stores_for x s)))
store-longer x s o h k l =
    let ok : Valid x (rows_of s) = valid x s o h in
    let begins : Is x (view_of x) = opens-shown x ok.opens ok.recent in
    let passes : AllPass x Longer (view_of x) (plan_of (view_of x) (rows_of s)) = λ u w i j m f g a b ha hb.
    let new : List (List ℕ) = (plan_of (view_of x) (rows_of s)).fresh in (
      drop i (take j new),
      shown-names b w hb.is ∙ g.names
          ∙ ap (λ t. (view_of x).names ++ t) (sym (take-append-drop i (take j new)) ∙ ap (λ t. t ++ drop i (take j new)) (first_of i j new m))
          ∙ sym (append_assoc (view_of x).names (take i new) (drop i (take j new)))
          ∙ ap (λ t. t ++ drop i (take j new)) (sym (shown-names a u ha.is ∙ f.names)),
    ) in
    rw (stores-are x s h) ((whole_append (ready-good _ _ _ (ready x (rows_of s) ok)) begins passes
    (λ a b ha f. ([], shown-names b _ f.is ∙ sym (shown-names a _ ha.is) ∙ sym (append-nil (names_of a))))
    ).during x (base-start begins) k (rw (stores-are x s h) at l))

pub follows-longer : {x : List ℕ} {cs : List Call} {m y : List ℕ} → Follows x cs m y → Longer m y
follows-longer t = follows-leads Longer (λ a. ([], sym (append-nil (names_of a)))) longer-trans store-longer t

pub follows-id : {x : List ℕ} {cs : List Call} {m y : List ℕ} → Follows x cs m y → (name : List ℕ) (id : ℕ) →
    ident_in (names_of m) name ≡ Ok id → ident_in (names_of y) name ≡ Ok id
follows-id {m = m} {y = y} t name id h =
    let (ms, more) = follows-longer t in
    let (is, low) = ident-is (names_of m) name id h in
    ap (λ ns. ident_in ns name) more ∙ ident-there (names_of m ++ ms) name (has-front name (names_of m) ms (omega (arith, is, low)))
    ∙ ap Ok (index-append name (names_of m) ms (omega (arith, is, low)) ∙ is)
