-- Steps 1 and 2: both blocks are cleared behind their lists, then the data are stored behind all that is in use. Every moment shows what
-- the beginning showed.
use Prim.Native.Nat.{ℕ, ◌+◌, ◌*◌, ◌-◌, ◌/◌, ◌%◌, ◌≤◌, ◌<◌}
use mathlib.Core.Path.{◌≡◌, sym, ◌∙◌, ap}
use mathlib.Core.Logic.{◌⊎◌, inl, inr}
use mathlib.Core.List.{List, [], ◌∷◌}
use native.Mathlib.Decide.{dec_lt}
use native.Mathlib.Omega.{arith}
use lib.ListN.{length, get_or, get_or-eq_default}
use Rattle.gsd_format.specs.Header.{aligned}
use Rattle.gsd_format.specs.Names.{flat}
use Rattle.gsd_format.proofs.Lists.{Each}
use Rattle.gsd_format.proofs.Bytes.{Text, le-zero}
use Rattle.gsd_stores.specs.View.{View, index_end, namelist_end, entries_end, names_end}
use Rattle.gsd_stores.specs.Plan.{Plan, end_from, data_end}
use Rattle.gsd_stores.specs.Steps.{clear_index, clear_names, store_texts, store_data}
use Rattle.gsd_stores.proofs.Stores.{between, over-off}
use Rattle.gsd_stores.proofs.Phases.{Phase, phase-nil, phase-weaken, ◌⨾◌}
use Rattle.gsd_stores.proofs.Texts.{Stand, stand-none, end_more}
use Rattle.gsd_stores.proofs.View.{Is, names-byte, Free, free-index, free_names, free-behind, Room, Base, Passes, IndexClear, Stage, phase-quiet}

-- where step 1 writes, the byte stands there already or its place is free
cleared-index : {v : View} {x : List ℕ} → Is x v → (p : ℕ) → entries_end v ≤ p → p < index_end v.layout → (0 ≡ get_or x p 0) ⊎ Free v p
cleared-index {v} {x} h p a b = elim (between (entries_end v + 16) (entries_end v + 24) p) [
  | inl c ↦
      let e : get_or x (entries_end v + 16 + (p - (entries_end v + 16))) 0 ≡ 0
      = le-zero 8 x (entries_end v + 16) (h.entries.closed (omega arith)) (p - (entries_end v + 16)) (omega arith) in
      inl (sym e ∙ ap (λ i. get_or x i 0) (omega arith))
  | inr c ↦ inr (free-index h p a b c)
]

cleared-names : {v : View} {x : List ℕ} → Is x v → (p : ℕ) → v.layout.namelist ≤ p → p < namelist_end v.layout →
    (get_or (flat v.names) (p - v.layout.namelist) 0 ≡ get_or x p 0) ⊎ Free v p
cleared-names {v} {x} h p a b = go (dec_lt p (names_end v)) (dec_lt (names_end v) p)
  where
    go : Dec (p < names_end v) → Dec (names_end v < p) → (get_or (flat v.names) (p - v.layout.namelist) 0 ≡ get_or x p 0) ⊎ Free v p
    go (yes c) d = inl (sym (names-byte h p a c))
    go (no c) (yes d) = inr (free_names h p d b)
    go (no c) (no d) =
        inl (get_or-eq_default (flat v.names) 0 (omega arith) ∙ sym (h.names.closed (omega arith)) ∙ ap (λ i. get_or x i 0) (omega arith))

module _ {x₀ : List ℕ} {W : List ℕ → List ℕ → Type 0} {v : View} (same : Passes x₀ W v v) where
  pub clear-index : Phase (Base x₀ v) (λ x. Base x₀ v x × IndexClear v x) W (clear_index v)
  unfolding clear_index
  clear-index =
      phase-quiet same [] 0 (entries_end v) (4 * (v.layout.slots - length v.entries)) (omega arith) (λ x b. b) (λ x b. b.0)
      (λ x b. omega (arith, b.is.entries.few, b.is.blocks.index_high))
      (λ x b p l u. cleared-index b.is p l (omega (arith, b.is.entries.few)))
      (λ x b y o k. (k, λ p l u. o.inside p l (omega (arith, b.is.entries.few))))

  pub clear-names : (d : ℕ) → v.layout.namelist % 8 ≡ 0 → Phase (λ x. Base x₀ v x × IndexClear v x) (Stage x₀ v d []) W (clear_names v)
  unfolding clear_names
  clear-names d even =
      let first : ℕ = names_end v / 8 * 8 in
      phase-quiet same (flat v.names) v.layout.namelist first ((namelist_end v.layout - first) / 8) (omega arith) (λ x b. b.0) (λ x s. s.base)
      (λ x b. omega (arith, b.0.is.names.few, b.0.is.blocks.namelist_high))
      (λ x b p l u. cleared-names b.0.is p (omega arith) (omega (arith, b.0.is.names.few)))
      (λ x b y o k. record {
        base = k;
        index = λ p l u. over-off o p (λ i j. b.0.is.blocks.apart p (omega arith) u (omega arith) (omega (arith, b.0.is.names.few))) ∙ b.1 p l u;
        names = λ p l u. o.inside p (omega arith) (omega (arith, b.0.is.names.few)) ∙ get_or-eq_default (flat v.names) 0 (omega arith);
        body = stand-none y d;
      })

  -- texts behind all that is in use: B is what stands below them
  store-texts : (bs : List (List ℕ)) (d pos : ℕ) (B : List ℕ → Type 0) →
      ((x y : List ℕ) → ((p : ℕ) → p < pos → get_or y p 0 ≡ get_or x p 0) → B x → B y) → Room v d 0 d → d ≤ pos → Each (λ b. length b % 8 ≡ 0) bs →
      end_from pos bs ≤ v.layout.len → Phase (λ x. Stage x₀ v d [] x × B x) (λ x. Stage x₀ v d [] x × (B x × Stand x pos bs)) W (store_texts pos bs)
  unfolding store_texts end_from Stand
  store-texts [] d pos B stable r low even fits = phase-weaken (λ x s. s) (λ x s. (s.0, (s.1, tt))) phase-nil
  store-texts (b ∷ bs) d pos B stable r low even fits =
      let at : ℕ = aligned pos in
      let end : at + length b ≤ end_from (at + length b) bs = end_more bs (at + length b) in
      phase-quiet same b at at (length b / 8) (omega arith) (λ x s. s.0.base) (λ x s. s.0.base)
      (λ x s. omega (arith, even.0))
      (λ x s i l u. inr (free-behind s.0.base.is r i (omega arith)))
      (λ x s y o k. (
        record {
          base = k;
          index = λ i l u. o.below i (omega (arith, r.index)) ∙ s.0.index i l u;
          names = λ i l u. o.below i (omega (arith, r.names)) ∙ s.0.names i l u;
          body = stand-none y d;
        },
        (
          stable x y (λ i l. o.below i (omega arith)) s.1,
          λ i l. o.inside (at + i) (omega arith) (omega (arith, even.0)) ∙ ap (λ j. get_or b j 0) (omega arith),
        ),
      ))
      ⨾ phase-weaken (λ x s. s) (λ x s. (s.0, (s.1.0.0, (s.1.0.1, s.1.1))))
      (store-texts bs d (at + length b) (λ x. B x × Text x at b)
      (λ x y f q. (stable x y (λ i l. f i (omega arith)) q.0, λ k l. f (at + k) (omega arith) ∙ q.1 k l)) r (omega arith) even.1 fits)

  pub store-data : (p : Plan) → Room v p.start 0 p.start → Each (λ b. length b % 8 ≡ 0) p.body → data_end p ≤ v.layout.len →
      Phase (Stage x₀ v p.start []) (Stage x₀ v p.start p.body) W (store_data p)
  store-data p r even fits =
      phase-weaken (λ x s. (s, tt)) (λ x s. record { base = s.0.base; index = s.0.index; names = s.0.names; body = s.1.1 })
      (store-texts p.body p.start p.start (λ x. Unit {0}) (λ x y f q. q) r (omega arith) even fits)
