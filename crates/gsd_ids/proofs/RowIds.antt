-- Laws of the rows' ids and new names, found row by row.
use Prim.Native.Nat.{ℕ, ◌+◌, ◌-◌, ◌≤◌, ◌<◌}
use mathlib.Core.Path.{◌≡◌, refl, sym, ◌∙◌, ap}
use mathlib.Core.Bool.{Bool}
use mathlib.Core.List.{List, [], ◌∷◌, ◌++◌, append-nil}
use native.Mathlib.Nat.{sub-zero}
use native.Mathlib.Numerals.{add-one}
use native.Mathlib.Omega.{arith}
use lib.ListN.{length, get_or, set, take, length-set, length-append, get_or-append, get_or-map}
use lib.Seq.{get_or-set_same, get_or-set_other, get_or_at, get_or-take, get_or-drop, take_all, length-paste}
use borrow.Rule.Slice.PartMut.{put_mid}
use Rattle.std.proofs.lemmas.Slice.{put_mid-paste, take-put_mid_below, drop-put_mid, between-put_mid}
use borrow.Author.Count.{below_more}
use Rattle.gsd_format.specs.Bytes.{part}
use Rattle.gsd_format.specs.Names.{flat, index_of, Has, Lacks, Distinct}
use Rattle.gsd_format.proofs.Bytes.{part_length, part_at}
use Rattle.gsd_format.proofs.Ids.{index-append}
use Rattle.gsd_format.proofs.Names.{flat-none, flat-more}
use Rattle.gsd_stores.specs.Sheet.{Row, row_count, rows_of, row_names, name_at}
use Rattle.gsd_stores.specs.Plan.{new_names}
use Rattle.gsd_stores.specs.Demand3.{no_row}
use Rattle.gsd_stores.proofs.Sheet.{rows-count}
use Rattle.gsd_stores.proofs.Rows.{new-listed, new-unlisted, new-next, new-id, new_is, nothing}
use Rattle.gsd_names.specs.NameLists.{names_in}
use Rattle.gsd_names.proofs.NameLists.{names-all, names-long}
use Rattle.gsd_sheet.specs.Columns.{name_from, data_from, slot_pair, new_row, Filled, Kept}
use Rattle.gsd_sheet.specs.Rows.{sheet_names, name_of, Located}
use Rattle.gsd_ids.specs.declared.NewNames.{NewNames}
use Rattle.gsd_ids.specs.Order.{paired, Sorted}
use Rattle.gsd_ids.specs.RowIds.{pair_of, RowNamed, IdsListed, order, IdsFound}
use Rattle.gsd_sheet.proofs.Columns.{filled_none, filled_more, filled_off}
use Rattle.gsd_sheet.proofs.Rows.{located-room, located_end, located-name, located-length}

module _ (names : List (List ℕ)) (rs : List Row) where
  abbrev name_in : ℕ → List ℕ
  name_in i = (get_or rs i no_row).name

  -- the new names of the first i rows; one row more
  abbrev new_to : ℕ → List (List ℕ)
  new_to i = new_names names (take i rs)

  to_none : new_to 0 ≡ []
  to_none = new_is nothing

  to-listed : (i : ℕ) → i < length rs → Has (name_in i) names → new_to (i + 1) ≡ new_to i
  to-listed i l h =
      ap new_to (add-one i) ∙ new-next names rs i l ∙ ap (λ ns. new_to i ++ ns) (new-listed names (get_or rs i no_row) [] h ∙ new_is nothing) ∙ append-nil (new_to i)

  to-new : (i : ℕ) → i < length rs → Lacks (name_in i) names → new_to (i + 1) ≡ new_to i ++ name_in i ∷ []
  to-new i l h =
      ap new_to (add-one i) ∙ new-next names rs i l
      ∙ ap (λ ns. new_to i ++ ns) (new-unlisted names (get_or rs i no_row) [] h ∙ ap (λ ns. name_in i ∷ ns) (new_is nothing))

  -- the first i rows are done
  pub record Listing (c : List ℕ) (fresh size i : ℕ) : Type 0 where
    pub within : i ≤ length rs
    pub few : fresh ≤ i
    pub long : length c ≡ 399
    pub pairs : Filled 129 (pair_of names rs) c i
    pub count : fresh ≡ length (new_to i)
    pub named : (j : ℕ) → j < fresh → RowNamed rs i (new_row c j) (get_or (new_to i) j [])
    pub bytes : size ≡ length (flat (new_to i))

  pub listing_none : (c : List ℕ) → length c ≡ 399 → Listing c 0 0 0
  listing_none c h = record {
    within = omega arith;
    few = omega arith;
    long = h;
    pairs = filled_none;
    count = sym (ap length to_none);
    named = λ j l. absurd (omega arith);
    bytes = sym (ap (λ ns. length (flat ns)) to_none ∙ ap length flat-none);
  }

  module _ (c : List ℕ) (fresh size i : ℕ) (g : Listing c fresh size i) (l : i < length rs) (few : length rs ≤ 64) where
    -- a row's name stays where a pair is put
    named-off : (v j : ℕ) → j < fresh → RowNamed rs i (new_row (set c (129 + i) v) j) (get_or (new_to i) j [])
    named-off v j m =
        let same : new_row (set c (129 + i) v) j ≡ new_row c j = get_or-set_other c (129 + i) (193 + j) v 0 (λ e. omega arith) in
        record { within = omega (arith, (g.named j m).within); named = ap name_in same ∙ (g.named j m).named }

    -- row i's name is listed
    pub listing-listed : (v : ℕ) → Has (name_in i) names → v ≡ paired (index_of (name_in i) names) i → Listing (set c (129 + i) v) fresh size (i + 1)
    listing-listed v h e =
        let same : new_to (i + 1) ≡ new_to i = to-listed i l h in
        record {
          within = omega arith;
          few = omega (arith, g.few);
          long = length-set c (129 + i) v ∙ g.long;
          pairs = filled_more g.pairs (omega (arith, g.long)) (e ∙ ap (λ k. paired k i) (sym (index-append (name_in i) names (new_names names rs) h)));
          count = g.count ∙ sym (ap length same);
          named = λ j m. record { within = omega (arith, (named-off v j m).within); named = (named-off v j m).named ∙ ap (λ ns. get_or ns j []) (sym same) };
          bytes = g.bytes ∙ ap (λ ns. length (flat ns)) (sym same);
        }

    -- row i's name is new
    pub listing-new : Distinct (row_names rs) → (v n : ℕ) → Lacks (name_in i) names → v ≡ paired (length names + fresh) i → n ≡ length (name_in i) + 1 →
        Listing (set (set c (129 + i) v) (193 + fresh) i) (fresh + 1) (size + n) (i + 1)
    listing-new d v n h e q =
        let more : new_to (i + 1) ≡ new_to i ++ name_in i ∷ [] = to-new i l h in
        let b = set c (129 + i) v in
        let long : length b ≡ 399 = length-set c (129 + i) v ∙ g.long in
        record {
          within = omega arith;
          few = omega (arith, g.few);
          long = length-set b (193 + fresh) i ∙ long;
          pairs = filled_off (filled_more g.pairs (omega (arith, g.long))
              (e ∙ ap (λ k. paired k i) (ap (λ k. length names + k) g.count ∙ sym (new-id names rs d i l h)))) _ _ (λ x y. omega arith);
          count = omega (arith, g.count, ap length more, length-append (new_to i) (name_in i ∷ []));
          named = below_more (λ j. RowNamed rs (i + 1) (new_row (set b (193 + fresh) i) j) (get_or (new_to (i + 1)) j [])) fresh
              (λ j m.
              let kept : new_row (set b (193 + fresh) i) j ≡ new_row b j = get_or-set_other b (193 + fresh) (193 + j) i 0 (λ f. omega arith) in
              record {
                within = omega (arith, (named-off v j m).within);
                named = ap name_in kept ∙ (named-off v j m).named
                    ∙ sym (ap (λ ns. get_or ns j []) more ∙ get_or-append (new_to i) (name_in i ∷ []) [] j (omega (arith, g.count)));
              })
              (let put : new_row (set b (193 + fresh) i) fresh ≡ i = get_or-set_same b (193 + fresh) i 0 (omega (arith, g.few, long)) in
              record {
                within = omega arith;
                named = ap name_in put ∙ sym (ap (λ ns. get_or ns fresh []) more ∙ get_or_at (new_to i) (name_in i) [] [] fresh (sym g.count));
              });
          bytes = omega (arith, g.bytes, ap (λ ns. length (flat ns)) more, flat-more (new_to i) (name_in i));
        }

  pub listing-all : (c : List ℕ) (fresh size i : ℕ) → Listing c fresh size i → length rs ≤ i → IdsListed names rs c (record { count = fresh; size = size })
  listing-all c fresh size i g h =
      let all : new_to i ≡ new_names names rs = ap (new_names names) (take_all i rs h) in
      record {
        pairs = record { at = λ k m. g.pairs.at k (omega arith) };
        fresh = g.count ∙ ap length all;
        rows = λ j m. record { within = omega (arith, (g.named j m).within, g.within); named = (g.named j m).named ∙ ap (λ ns. get_or ns j []) all };
        size = g.bytes ∙ ap (λ ns. length (flat ns)) all;
      }

pub count-in : (v : Bool) (img starts : List ℕ) (count : ℕ) → length (names_in v img starts count) ≡ count
count-in v img starts count = sym (ap length (names-all v img starts count)) ∙ names-long v img starts count 0 ∙ sub-zero count

-- a name's bytes lie before the next name
pub row_room : {s c : List ℕ} → Located s c → (i : ℕ) → i < row_count s →
    (name_from c i ≤ data_from c i) × (name_at s i + (data_from c i - name_from c i) ≤ name_at s (i + 1)) × (name_at s (i + 1) ≤ length s)
row_room h i l = omega (arith, h.name.at i (omega arith), h.name.at (i + 1) (omega arith), located-room h i l, located_end h i l)

-- The rows of a sheet, each name where it lies; id is what its search among `count` names gives

module _ (names : List (List ℕ)) (count : ℕ) (all : length names ≡ count) {s c : List ℕ} (located : Located s c)
    {fresh size i : ℕ} (g : Listing names (rows_of s) c fresh size i) (l : i < row_count s)
    (id : ℕ) (is : id ≡ index_of (part s (name_from c i) (data_from c i - name_from c i)) names) where
  row-name : name_of s i ≡ (get_or (rows_of s) i no_row).name
  row-name = get_or-map (λ r. r.name) (rows_of s) i no_row

  found : id ≡ index_of (get_or (rows_of s) i no_row).name names
  found = is ∙ ap (λ b. index_of b names) (sym (located-name located i l) ∙ row-name)

  inside : i < length (rows_of s)
  inside = omega (arith, rows-count s)

  few : length (rows_of s) ≤ 64
  few = omega (arith, rows-count s, located.few)

  pub row_listed : id < count → (v : ℕ) → v ≡ paired id i → Listing names (rows_of s) (set c (129 + i) v) fresh size (i + 1)
  row_listed a v e = listing-listed names (rows_of s) c fresh size i g inside few v (omega (arith, found)) (e ∙ ap (λ k. paired k i) found)

  pub row_new : Distinct (sheet_names s) → count ≤ id → (v : ℕ) → v ≡ paired (count + fresh) i →
      Listing names (rows_of s) (set (set c (129 + i) v) (193 + fresh) i) (fresh + 1) (size + (data_from c i - name_from c i + 1)) (i + 1)
  row_new d a v e =
      listing-new names (rows_of s) c fresh size i g inside few d v (data_from c i - name_from c i + 1) (omega (arith, found))
      (e ∙ ap (λ k. paired (k + fresh) i) (sym all)) (omega (arith, located-length located i l, ap length row-name))

-- The column of pairs as a list, and what is found when it was sorted

pub order-at : (c : List ℕ) (k : ℕ) → k < 64 → get_or (order c) k 0 ≡ slot_pair c k
order-at c k l = part_at c 129 64 k l

pub order-long : (c : List ℕ) → length c ≡ 399 → length (order c) ≡ 64
order-long c h = part_length c 129 64 (omega arith)

-- the column is put back in order
module _ (c ys : List ℕ) (n : ℕ) (long : length c ≡ 399) (sorted : Sorted (order c) n ys) where
  abbrev now : List ℕ
  now = put_mid 129 64 c ys

  many : length ys ≡ 64
  many = sorted.long ∙ order-long c long

  pub sorted-kept : Kept 129 c now
  sorted-kept = record {
    long = ap length (put_mid-paste 129 64 c ys ys 64 refl refl (sym many)) ∙ length-paste c 129 ys 64 (omega arith) (omega (arith, many));
    at = λ k l. sym (get_or-take 129 now k 0 l)
        ∙ ap (λ q. get_or q k 0) (take-put_mid_below 129 64 c ys 129 (omega arith) (omega arith)) ∙ get_or-take 129 c k 0 l;
  }

  behind : (j : ℕ) → new_row now j ≡ new_row c j
  behind j = sym (get_or-drop 193 now j 0) ∙ ap (λ q. get_or q j 0) (drop-put_mid 129 64 c ys 193 (omega arith) (omega arith) many) ∙ get_or-drop 193 c j 0

  put-back : order now ≡ ys
  put-back = between-put_mid 129 64 c ys 193 (omega arith) many

  pub ids-found : (names : List (List ℕ)) (rs : List Row) (r : NewNames) → IdsListed names rs c r → n ≡ length rs → n ≤ 64 → IdsFound names rs now r
  ids-found names rs r g all few = record {
    packed = order c;
    pairs = λ i m. order-at c i (omega arith) ∙ g.pairs.at i m;
    long = order-long c long;
    sorted = rw (put-back, sym all) sorted;
    fresh = g.fresh;
    rows = λ j m. rw (behind j) (g.rows j m);
    size = g.size;
  }
