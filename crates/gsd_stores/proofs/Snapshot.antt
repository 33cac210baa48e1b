-- A reader is a snapshot: over a run of appends nothing that a moment lists is ever written again, not where it lay then. So what the
-- reader of that moment asks for stands there at every later one.
use Rattle.std.specs.Prelude.{Ok}
use Prim.Native.Nat.{ℕ, suc, ◌+◌, ◌<◌}
use mathlib.Core.Path.{◌≡◌, refl, sym, ◌∙◌, ap}
use mathlib.Core.Bool.{Bool, true, false, true≢false}
use mathlib.Core.List.{List}
use native.Mathlib.Omega.{arith}
use lib.ListN.{length, get_or, take}
use Rattle.gsd_format.specs.declared.Reader.{Reader}
use Rattle.gsd_format.specs.Header.{v10, version_of, layout_of}
use Rattle.gsd_format.specs.Names.{names_of, flat}
use Rattle.gsd_format.specs.Entries.{entries_of}
use Rattle.gsd_format.specs.Opening.{verdict}
use Rattle.gsd_format.specs.Lookup.{none}
use Rattle.gsd_format.specs.Readers.{reading, Reads}
use Rattle.gsd_format.proofs.Segments.{size-recent}
use Rattle.gsd_format.proofs.Readers.{InPlace, in-place-same, in_place_reads}
use Rattle.gsd_stores.specs.View.{view_of}
use Rattle.gsd_stores.specs.Sheet.{rows_of}
use Rattle.gsd_stores.specs.Stores.{after}
use Rattle.gsd_stores.specs.Append.{append_test, stores_for}
use Rattle.gsd_stores.specs.Runs.{Bytes, Call, Follows}
use Rattle.gsd_stores.proofs.View.{Is, base-start}
use Rattle.gsd_stores.proofs.Valid.{Valid, valid, ready}
use Rattle.gsd_stores.proofs.Shown.{opens-shown}
use Rattle.gsd_stores.proofs.Moments.{ready-good, stores-are}
use Rattle.gsd_stores.proofs.Runs.{follows-first, follows-leads}
use Rattle.gsd_stores.proofs.Demand3.{demand3}
use Rattle.gsd_stores.proofs.Limits.{stopped}
use Rattle.gsd_stores.proofs.Places.{version-kept}
use Rattle.gsd_stores.proofs.Lasting.{Stays, stays-refl, stays-trans}
use Rattle.gsd_stores.proofs.Flows.{steady-append}

-- What an image of 2.x lists lies at lasting places

pub stays-in-place : (m y : List ℕ) → verdict m ≡ 0 → v10 (version_of m) ≡ false → Stays m y → InPlace m y
unfolding view_of layout_of
stays-in-place m y o r s =
    let is : Is m (view_of m) = opens-shown m o r in
    record {
      long = s.long;
      entries = λ k l. s.byte ((layout_of m).index + k) (record {
        low = omega (arith, is.blocks.index_low);
        used = λ pos e. omega (arith, e.index, is.entries.few);
        entries = λ c d. omega arith;
        names = λ c d. is.blocks.apart ((layout_of m).index + k) (omega arith) (omega (arith, is.entries.few)) (omega arith) d;
      });
      names = λ k l.
          let inside : k < length (flat (names_of m)) = rw (size-recent (layout_of m).version (names_of m) r) at l in
          s.byte ((layout_of m).namelist + k) (record {
            low = omega (arith, is.blocks.namelist_low);
            used = λ pos e. omega (arith, e.names, is.names.few);
            entries = λ c d. is.blocks.apart ((layout_of m).namelist + k) (omega arith) d (omega arith) (omega (arith, is.names.few));
            names = λ c d. omega arith;
          });
      chunks = λ i l k u. let at : ℕ = (get_or (entries_of m) i none).location + k in s.byte at (record {
        low = omega (arith, (is.sound i l).low);
        used = λ pos e. omega (arith, e.chunks i l);
        entries = λ c d. (is.sound i l).off_index at (omega arith) (omega arith) (omega arith) d;
        names = λ c d. (is.sound i l).off_names at (omega arith) (omega arith) (omega arith) d;
      });
    }

-- Over a run

-- no store changes a lasting byte
store-stays : (x s : List ℕ) → Bytes s → append_test x s ≡ 0 → (k : ℕ) → k < length (stores_for x s) →
    Stays (after x (take k (stores_for x s))) (after x (take (suc k) (stores_for x s)))
store-stays x s o h k l =
    let ok : Valid x (rows_of s) = valid x s o h in
    let begins : Is x (view_of x) = opens-shown x ok.opens ok.recent in
    rw (stores-are x s h) ((steady-append (ready-good _ _ _ (ready x (rows_of s) ok)) begins).during x (base-start begins) k (rw (stores-are x s h) at l))

pub follows-stays : {x : List ℕ} {cs : List Call} {m y : List ℕ} → Follows x cs m y → Stays m y
follows-stays t = follows-leads Stays stays-refl stays-trans store-stays t

-- an image of 1.0 is followed by itself alone: no store is made on one
abbrev Same10 : List ℕ → List ℕ → Type 0
Same10 a b = v10 (version_of a) ≡ true → b ≡ a

store-10 : (x s : List ℕ) → Bytes s → append_test x s ≡ 0 → (k : ℕ) → k < length (stores_for x s) →
    Same10 (after x (take k (stores_for x s))) (after x (take (suc k) (stores_for x s)))
unfolding view_of layout_of
store-10 x s o h k l r = absurd (true≢false (sym r ∙ ap (λ z. v10 (version_of z)) (stopped x s k) ∙ ap v10 (version-kept x s k o) ∙ (valid x s o h).recent))

pub follows-10 : {x : List ℕ} {cs : List Call} {m y : List ℕ} → Follows x cs m y → v10 (version_of m) ≡ true → y ≡ m
follows-10 t = follows-leads Same10 (λ a r. refl) (λ a b c f g r. g (ap (λ z. v10 (version_of z)) (f r) ∙ r) ∙ f r) store-10 t

pub follows-opens : (x : List ℕ) (cs : List Call) → verdict x ≡ 0 → {m y : List ℕ} → Follows x cs m y → verdict m ≡ 0
follows-opens x cs o t = (demand3 x cs o).always (follows-first t)

-- every later moment has what a moment lists, each where it was
pub follows-in-place : (x : List ℕ) (cs : List Call) → verdict x ≡ 0 → {m y : List ℕ} → Follows x cs m y → InPlace m y
follows-in-place x cs o {m} {y} t = go (v10 (version_of m)) refl
  where
    go : (b : Bool) → v10 (version_of m) ≡ b → InPlace m y
    go true r = rw (follows-10 t r) (in-place-same m)
    go false r = stays-in-place m y (follows-opens x cs o t) r (follows-stays t)

-- Theorem: a reader that opening gave at a moment of a run answers at every later moment, in half-made appends too, exactly as the
-- calls did at its own
pub snapshot : (x : List ℕ) (cs : List Call) → verdict x ≡ 0 → {m y : List ℕ} → Follows x cs m y → (r : Reader) → reading m ≡ Ok r →
    Reads r y m
snapshot x cs o {m} {y} t r h = in_place_reads m y r h (follows-in-place x cs o t)
