-- Where stores lie: eight bytes at a multiple of 8 inside the slice, and outside the header but for its words 8, 16, 24 and 32, and
-- to 8 and 24 go multiples of 64. So an append keeps all else that the header says, the version too.
use Prim.Native.Nat.{ℕ, zero, suc, ◌+◌, ◌*◌, ◌-◌, ◌/◌, ◌%◌, ◌^◌, ◌≤◌, ◌<◌}
use mathlib.Core.Path.{◌≡◌, refl, sym, ◌∙◌, ap}
use mathlib.Core.Logic.{◌⊎◌, inl, inr}
use mathlib.Core.Bool.{Bool, true, false}
use mathlib.Core.List.{List, [], ◌∷◌, ◌++◌}
use native.Mathlib.Omega.{arith}
use lib.ListN.{length, get_or, take}
use Rattle.gsd_format.specs.Bytes.{le, le_bytes, part}
use Rattle.gsd_format.specs.Header.{header_size, greatest_length, alignment, version_of, aligned}
use Rattle.gsd_format.specs.Names.{flat}
use Rattle.gsd_format.proofs.Lists.{Each, each_append, each_take, each-so}
use Rattle.gsd_format.proofs.Bytes.{le_same, le-text, le_bytes-length}
use Rattle.gsd_format.proofs.Names.{Named, flat-none, flat-size, flat-sizes}
use Rattle.gsd_stores.specs.Stores.{Store, eight_of, words, up}
use Rattle.gsd_stores.specs.View.{View, view_of, entries_end, names_end, namelist_end}
use Rattle.gsd_stores.specs.Sheet.{Row, rows_of}
use Rattle.gsd_stores.specs.Plan.{Plan, end_from, plan_of, data_end, names_start, names_done, index_start}
use Rattle.gsd_stores.specs.Steps.{clear_index, clear_names, store_texts, store_data, moved, move_names, store_name, store_names}
use Rattle.gsd_stores.specs.Steps.{move_index, store_entries, name_block, index_block, index_bytes, steps_of}
use Rattle.gsd_stores.specs.Append.{append_test, stores_for, appended}
use Rattle.gsd_stores.specs.Runs.{Bytes}
use Rattle.gsd_stores.proofs.Stores.{Fills, up-fills, down-fills, slots-fills, fills-stores, eight-at, Misses, after-off}
use Rattle.gsd_stores.proofs.Texts.{end_more}
use Rattle.gsd_stores.proofs.View.{Is, is-long}
use Rattle.gsd_stores.proofs.Plan.{positions, chosen, taken, segments_after}
use Rattle.gsd_stores.proofs.Valid.{Valid, valid, Ready, ready}
use Rattle.gsd_stores.proofs.Shown.{opens-shown}
use Rattle.gsd_stores.proofs.Moments.{stores-are}
use Rattle.gsd_stores.proofs.Limits.{stopped, refused-image}

-- the words of the header that an append stores
abbrev pub HeaderWord : ℕ → Type 0
HeaderWord a = (a ≡ 8) ⊎ ((a ≡ 16) ⊎ ((a ≡ 24) ⊎ (a ≡ 32)))

header_at : (a : ℕ) → HeaderWord a → (a % 8 ≡ 0) × (8 ≤ a) × (a ≤ 32)
header_at a (inl z) = (omega arith, omega arith, omega arith)
header_at a (inr (inl z)) = (omega arith, omega arith, omega arith)
header_at a (inr (inr (inl z))) = (omega arith, omega arith, omega arith)
header_at a (inr (inr (inr z))) = (omega arith, omega arith, omega arith)

-- those that say where a block lies
abbrev pub LocationWord : ℕ → Type 0
LocationWord a = (a ≡ 8) ⊎ (a ≡ 24)

-- a store in a slice of so many bytes
pub record Placed (len : ℕ) (s : Store) : Type 0 where
  pub eight : length s.bytes ≡ 8
  pub even : s.place % 8 ≡ 0
  pub inside : s.place + 8 ≤ len
  pub outside : s.place < header_size → HeaderWord s.place
  pub start : LocationWord s.place → le 8 s.bytes 0 % alignment ≡ 0

-- all stores of a list do
pub record AllPlaced (len : ℕ) (xs : List Store) : Type 0 where
  pub each : Each (Placed len) xs

infixl 20 ◌⊹◌
◌⊹◌ : {len : ℕ} {xs ys : List Store} → AllPlaced len xs → AllPlaced len ys → AllPlaced len (xs ++ ys)
◌⊹◌ {len} {xs} {ys} h g = record { each = each_append (Placed len) xs ys h.each g.each }

-- words behind the header
placed-extent : {lo n : ℕ} {l : List ℕ} (len : ℕ) → Fills lo n l → (t : List ℕ) (base : ℕ) → lo % 8 ≡ 0 → header_size ≤ lo → lo + 8 * n ≤ len → AllPlaced len (words t base l)
placed-extent len f t base e h g = record {
  each = fills-stores (Placed len) f t base (λ k l. record {
    eight = refl;
    even = omega arith;
    inside = omega arith;
    outside = λ o. absurd (omega arith);
    start = elim [ inl o ↦ absurd (omega arith) | inr o ↦ absurd (omega arith) ];
  });
}

placed-word : (len : ℕ) (t : List ℕ) (a : ℕ) → header_size ≤ len → HeaderWord a → (LocationWord a → le 8 (eight_of t (a - a)) 0 % alignment ≡ 0) →
    AllPlaced len (words t a (up a 1))
unfolding words up
placed-word len t a h w s = record {
  each = (record { eight = refl; even = (header_at a w).0; inside = omega (arith, (header_at a w).2); outside = λ o. w; start = s }, tt);
}

-- a number's word reads back
word_back : (b a : ℕ) → b < 256 ^ 8 → le 8 (eight_of (le_bytes 8 b) (a - a)) 0 ≡ b
word_back b a h =
    le-text 8 b (eight_of (le_bytes 8 b) (a - a)) 0 h
    (λ k l. eight-at (le_bytes 8 b) (a - a) (0 + k) (omega (arith, le_bytes-length 8 b)) ∙ ap (λ i. get_or (le_bytes 8 b) i 0) (omega arith))

-- a block that moves, and its two header words
placed-moved : (flag : Bool) (len b n : ℕ) (t : List ℕ) (h count : ℕ) → b % alignment ≡ 0 → header_size ≤ b → (flag ≡ true → b + 8 * n ≤ len) →
    header_size ≤ len → len ≤ greatest_length → LocationWord h → AllPlaced len (moved flag b n t h count)
unfolding moved
placed-moved false len b n t h count e l f g s w = record { each = tt }
placed-moved true len b n t h count e l f g s w =
    placed-extent len (up-fills b n) t b (omega arith) l (f refl)
    ⊹ placed-word len (le_bytes 8 b) h g (words_of w).0 (λ o. rw (word_back b h (omega (arith, f refl))) e)
    ⊹ placed-word len (le_bytes 8 count) (h + 8) g (words_of w).1 (λ o. absurd ((words_of w).2 o))
  where
    words_of : LocationWord h → HeaderWord h × HeaderWord (h + 8) × (LocationWord (h + 8) → ⊥)
    words_of (inl z) = (inl z, inr (inl (omega arith)), elim [ inl o ↦ omega arith | inr o ↦ omega arith ])
    words_of (inr z) = (inr (inr (inl z)), inr (inr (inr (omega arith))), elim [ inl o ↦ omega arith | inr o ↦ omega arith ])

-- a name in a block that ends at hi
placed-name : (len block hi : ℕ) (before name : List ℕ) → block % 8 ≡ 0 → header_size ≤ block → hi % 8 ≡ 0 → hi ≤ len → 0 < length name →
    block + length before + length name ≤ hi → AllPlaced len (store_name block before name)
unfolding store_name
placed-name len block hi before name e l h g s f =
    let first : ℕ = block + length before in
    placed-extent len (down-fills (first / 8 * 8) ((first + length name - 1) / 8 - first / 8 + 1)) (before ++ name) block (omega arith) (omega arith) (omega arith)

placed-names : (fresh names : List (List ℕ)) (len block hi : ℕ) → block % 8 ≡ 0 → header_size ≤ block → hi % 8 ≡ 0 → hi ≤ len → Each Named fresh →
    block + length (flat names) + length (flat fresh) ≤ hi → AllPlaced len (store_names block names fresh)
unfolding store_names
placed-names [] names len block hi e l h g n f = record { each = tt }
placed-names (b ∷ bs) names len block hi e l h g n f =
    let size : length (flat (b ∷ bs)) ≡ length b + 1 + length (flat bs) = flat-size b bs in
    let more : length (flat (names ++ b ∷ [])) ≡ length (flat names) + length (flat (b ∷ [])) = flat-sizes names (b ∷ []) in
    let one : length (flat (b ∷ [])) ≡ length b + 1 + length (flat []) = flat-size b [] in
    let nil : length (flat []) ≡ 0 = ap length flat-none in
    placed-name len block hi (flat names) b e l h g n.0.some (omega arith)
    ⊹ (placed-names bs (names ++ b ∷ []) len block hi e l h g n.1 (omega arith))

placed-texts : (len : ℕ) (bs : List (List ℕ)) (pos : ℕ) → header_size ≤ pos → Each (λ b. length b % 8 ≡ 0) bs → end_from pos bs ≤ len →
    AllPlaced len (store_texts pos bs)
unfolding store_texts end_from
placed-texts len [] pos l e f = record { each = tt }
placed-texts len (b ∷ bs) pos l e f =
    placed-extent len (up-fills (aligned pos) (length b / 8)) b (aligned pos) (omega arith) (omega arith) (omega (arith, end_more bs (aligned pos + length b)))
    ⊹ placed-texts len bs (aligned pos + length b) (omega arith) e.1 f

-- the blocks of an append lie at multiples of 8 after steps 3 and 5 too
pub blocks-even : (v : View) (rs : List Row) (p : Plan) → Ready v rs p → (name_block v p % 8 ≡ 0) × (index_block v p % 8 ≡ 0)
blocks-even v rs p r = (
  chosen (λ k. k % 8 ≡ 0) p.names_move (names_start p) v.layout.namelist (omega arith) (λ e. r.even_names),
  chosen (λ k. k % 8 ≡ 0) p.index_moves (index_start p) v.layout.index (omega arith) (λ e. r.even_index),
)

module _ (x : List ℕ) (rs : List Row) (ok : Valid x rs) where
  abbrev v : View
  v = view_of x

  abbrev p : Plan
  p = plan_of v rs

  r : Ready v rs p
  r = ready x rs ok

  is : Is x v
  is = opens-shown x ok.opens ok.recent

  index-placed : AllPlaced v.layout.len (clear_index v)
  unfolding clear_index
  index-placed =
      placed-extent v.layout.len (up-fills (entries_end v) (4 * (v.layout.slots - length v.entries))) [] 0
      (omega (arith, r.even_index)) (omega (arith, is.blocks.index_low)) (omega (arith, is.blocks.index_high, is.entries.few))

  names-placed : AllPlaced v.layout.len (clear_names v)
  unfolding clear_names
  names-placed =
      let first : ℕ = names_end v / 8 * 8 in
      placed-extent v.layout.len (up-fills first ((namelist_end v.layout - first) / 8)) (flat v.names) v.layout.namelist
      (omega arith) (omega (arith, r.even_names, is.blocks.namelist_low)) (omega (arith, is.blocks.namelist_high, is.names.few))

  data-placed : AllPlaced v.layout.len (store_data p)
  data-placed =
      placed-texts v.layout.len p.body p.start r.plan.room.header r.even_body (omega (arith, (positions p).0, (positions p).1, r.fits))

  names-even : name_block v p % 8 ≡ 0
  names-even = (blocks-even v rs p r).0

  index-even : index_block v p % 8 ≡ 0
  index-even = (blocks-even v rs p r).1

  header : header_size ≤ v.layout.len
  header = omega (arith, is.blocks.index_low, is.blocks.index_high)

  pub all_placed : AllPlaced v.layout.len (steps_of x v p)
  unfolding steps_of move_names move_index store_entries
  all_placed =
      let low : header_size ≤ data_end p = omega (arith, r.plan.room.header, end_more p.body p.start) in
      index-placed
      ⊹ names-placed
      ⊹ data-placed
      ⊹ placed-moved p.names_move v.layout.len (names_start p) (8 * p.segments) (flat v.names) 24 p.segments (omega arith) (omega arith)
      (λ m. omega (arith, taken p.names_move (names_start p + 64 * p.segments) (data_end p) m, (positions p).1, r.fits)) header r.small (inr refl)
      ⊹ placed-names p.fresh v.names v.layout.len (name_block v p) (name_block v p + 64 * segments_after v p) names-even r.blocks.namelist_low
      (omega (arith, names-even)) r.blocks.namelist_high r.named (omega (arith, r.plan.names_fit))
      ⊹ placed-moved p.index_moves v.layout.len (index_start p) (4 * p.slots) (part x v.layout.index (32 * length v.entries)) 8 p.slots
      (omega arith) (omega (arith, (positions p).0))
      (λ m. omega (arith, taken p.index_moves (index_start p + 32 * p.slots) (names_done p) m, r.fits)) header r.small (inl refl)
      ⊹ placed-extent v.layout.len (slots-fills (index_block v p + 32 * length v.entries) (length p.entries)) (index_bytes p.entries) (index_block v p + 32 * length v.entries)
      (omega (arith, index-even)) (omega (arith, r.blocks.index_low)) (omega (arith, r.blocks.index_high, r.plan.entries_fit))

-- every store of an append lies at a multiple of 8 inside the slice, and outside the header but for its four words
pub stores-placed : (x s : List ℕ) → Bytes s → append_test x s ≡ 0 → AllPlaced (length x) (stores_for x s)
stores-placed x s o h =
    let ok : Valid x (rows_of s) = valid x s o h in
    rw (stores-are x s h, is-long (is x (rows_of s) ok)) (all_placed x (rows_of s) ok)

-- a place of the header that is in none of these four words
placed_off : (len : ℕ) (s : Store) (p : ℕ) → p < header_size → (8 ≤ p → p < 40 → ⊥) → Placed len s → Misses p s.place
placed_off len s p h o a c e = let w = header_at s.place (a.outside (omega arith)) in o (omega (arith, w.1)) (omega (arith, w.2))

-- is kept by every append, refused, stopped or whole
pub header-kept : (x s : List ℕ) (limit p : ℕ) → Bytes s → p < header_size → (8 ≤ p → p < 40 → ⊥) → get_or (appended x s limit) p 0 ≡ get_or x p 0
header-kept x s limit p o h f = go (append_test x s) refl
  where
    go : (n : ℕ) → append_test x s ≡ n → get_or (appended x s limit) p 0 ≡ get_or x p 0
    go zero e =
        ap (λ y. get_or y p 0) (sym (stopped x s limit))
        ∙ after-off x p (take limit (stores_for x s)) (each_take _ limit (stores_for x s)
        (each-so _ _ (λ a b. (b.eight, placed_off (length x) a p h f b)) (stores_for x s) (stores-placed x s o e).each))
    go (suc n) e = ap (λ y. get_or y p 0) (refused-image x s limit n e)

pub version-kept : (x s : List ℕ) (limit : ℕ) → Bytes s → version_of (appended x s limit) ≡ version_of x
version-kept x s limit o = le_same 4 (appended x s limit) 44 x 44 (λ k l. header-kept x s limit (44 + k) o (omega arith) (λ a b. omega arith))
