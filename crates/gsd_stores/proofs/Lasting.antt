-- Bytes that no later store changes. A place of a view is lasting when it lies behind the header, before the end of all that is shown,
-- and not behind one of the two lists in its block: there an append stores only what stands there, and it stays lasting.
use Prim.Native.Nat.{ℕ, suc, ◌+◌, ◌*◌, ◌-◌, ◌≤◌, ◌<◌}
use mathlib.Core.Path.{◌≡◌, refl, sym, ◌∙◌}
use mathlib.Core.Logic.{inl, inr}
use mathlib.Core.List.{List, ◌++◌}
use native.Mathlib.Omega.{arith}
use lib.ListN.{length, get_or, take, length-append, get_or-append}
use Rattle.gsd_format.specs.declared.Entry.{Entry}
use Rattle.gsd_format.specs.Types.{chunk_size}
use Rattle.gsd_format.specs.Header.{header_size}
use Rattle.gsd_format.specs.Names.{flat}
use Rattle.gsd_format.specs.Lookup.{none}
use Rattle.gsd_format.proofs.Lists.{Each, each_take}
use Rattle.gsd_stores.specs.Stores.{Store, after, words}
use Rattle.gsd_stores.specs.View.{View, view_of, index_end, namelist_end, entries_end, names_end}
use Rattle.gsd_stores.proofs.Stores.{after-length, after-off, words_take, words-off, words-keep}
use Rattle.gsd_stores.proofs.Stores.{Misses, Missed, Fills, fills-within, fills-off, between}
use Rattle.gsd_stores.proofs.Phases.{Phase}
use Rattle.gsd_stores.proofs.View.{with_entries, with_names, Room}
use Rattle.gsd_stores.proofs.Blocks.{Block, the_index, the_names}
use Rattle.gsd_stores.proofs.Move.{with_block}

-- all that v shows ends at pos or before
pub record Ended (v : View) (pos : ℕ) : Type 0 where
  pub header : header_size ≤ pos
  pub index : index_end v.layout ≤ pos
  pub names : namelist_end v.layout ≤ pos
  pub chunks : (i : ℕ) → i < length v.entries → (get_or v.entries i none).location + chunk_size (get_or v.entries i none) ≤ pos

-- The end is the very place, not the end of use, which is rounded up: else a block that moves there and then grows would grow
-- over lasting places
pub record Lasting (v : View) (q : ℕ) : Type 0 where
  pub low : header_size ≤ q
  pub used : (pos : ℕ) → Ended v pos → q < pos
  pub entries : entries_end v ≤ q → q < index_end v.layout → ⊥
  pub names : names_end v ≤ q → q < namelist_end v.layout → ⊥

-- b has every byte at a lasting place of a, and it is lasting there too
pub record Stays (a b : List ℕ) : Type 0 where
  pub long : length b ≡ length a
  pub byte : (q : ℕ) → Lasting (view_of a) q → get_or b q 0 ≡ get_or a q 0
  pub lasts : (q : ℕ) → Lasting (view_of a) q → Lasting (view_of b) q

pub stays-refl : (a : List ℕ) → Stays a a
stays-refl a = record { long = refl; byte = λ q h. refl; lasts = λ q h. h }

pub stays-trans : (a b c : List ℕ) → Stays a b → Stays b c → Stays a c
stays-trans a b c f g = record {
  long = g.long ∙ f.long;
  byte = λ q h. g.byte q (f.lasts q h) ∙ f.byte q h;
  lasts = λ q h. g.lasts q (f.lasts q h);
}

-- Views that have the lasting places of others

pub room-ended : {v : View} {d m pos : ℕ} → Room v d m pos → Ended v pos
room-ended r = record { header = omega (arith, r.low, r.body); index = r.index; names = r.names; chunks = r.chunks }

-- a block moves behind all that is shown, with any count
pub lasting-moved : (k : Block) (v : View) (b s : ℕ) → Ended v b → (q : ℕ) → Lasting v q → Lasting (with_block k v b s) q
lasting-moved the_index v b s e q h = record {
  low = h.low;
  used = λ pos f. omega (arith, h.used b e, f.index);
  entries = λ c d. omega (arith, h.used b e);
  names = h.names;
}
lasting-moved the_names v b s e q h = record {
  low = h.low;
  used = λ pos f. omega (arith, h.used b e, f.names);
  entries = h.entries;
  names = λ c d. omega (arith, h.used b e);
}

-- and then its count grows: until then nothing is shown behind it
pub lasting-grown : (k : Block) (v : View) (b s n : ℕ) → Ended v b → s ≤ n → (q : ℕ) → Lasting (with_block k v b s) q → Lasting (with_block k v b n) q
lasting-grown the_index v b s n e l q h =
    let old : q < b + 32 * s = h.used (b + 32 * s) (record {
      header = omega (arith, e.header);
      index = omega arith;
      names = omega (arith, e.names);
      chunks = λ i m. omega (arith, e.chunks i m);
    }) in
    record {
      low = h.low;
      used = λ pos f. omega (arith, f.index);
      entries = λ c d. h.entries c old;
      names = h.names;
    }
lasting-grown the_names v b s n e l q h =
    let old : q < b + 64 * s = h.used (b + 64 * s) (record {
      header = omega (arith, e.header);
      index = omega (arith, e.index);
      names = omega arith;
      chunks = λ i m. omega (arith, e.chunks i m);
    }) in
    record {
      low = h.low;
      used = λ pos f. omega (arith, f.names);
      entries = h.entries;
      names = λ c d. h.names c old;
    }

-- more names, more entries
pub lasting-named : {v : View} (ns : List (List ℕ)) → length (flat v.names) ≤ length (flat ns) → (q : ℕ) → Lasting v q → Lasting (with_names v ns) q
lasting-named ns l q h = record {
  low = h.low;
  used = λ pos e. h.used pos (record { header = e.header; index = e.index; names = e.names; chunks = e.chunks });
  entries = h.entries;
  names = λ c d. h.names (omega arith) d;
}

pub lasting-listed : {v : View} (new : List Entry) → (q : ℕ) → Lasting v q → Lasting (with_entries v (v.entries ++ new)) q
lasting-listed {v} new q h = record {
  low = h.low;
  used = λ pos e. h.used pos (record {
    header = e.header;
    index = e.index;
    names = e.names;
    chunks = λ i l. rw (get_or-append v.entries new none i l) at (e.chunks i (omega (arith, length-append v.entries new)));
  });
  entries = λ c d. h.entries (omega (arith, length-append v.entries new)) d;
  names = h.names;
}

-- Lists of stores

-- a store that finds u shown, and leaves shown what has its lasting places
pub record Goes (u : View) (a b : List ℕ) : Type 0 where
  pub shown : view_of a ≡ u
  pub lasts : (q : ℕ) → Lasting u q → Lasting (view_of b) q

-- where no moment of them has another byte at a lasting place than the beginning
pub steady : {P Q : List ℕ → Type 0} {u : View} {xs : List Store} → Phase P Q (Goes u) xs →
    ((x : List ℕ) → P x → (k q : ℕ) → Lasting u q → get_or (after x (take k xs)) q 0 ≡ get_or x q 0) → Phase P Q Stays xs
steady {u = u} {xs = xs} f kept = record {
  during = λ x p k l.
      let g : Goes u (after x (take k xs)) (after x (take (suc k) xs)) = f.during x p k l in record {
        long = after-length x (take (suc k) xs) ∙ sym (after-length x (take k xs));
        byte = λ q h. let i : Lasting u q = rw g.shown at h in kept x p (suc k) q i ∙ sym (kept x p k q i);
        lasts = λ q h. g.lasts q (rw g.shown at h);
      };
  final = f.final;
}

-- so: stores that miss every lasting place
pub steady-off : {P Q : List ℕ → Type 0} {u : View} {xs : List Store} → Phase P Q (Goes u) xs → ((q : ℕ) → Lasting u q → Each (Missed q) xs) →
    Phase P Q Stays xs
steady-off {xs = xs} f off = steady f (λ x p k q h. after-off x q (take k xs) (each_take (Missed q) k xs (off q h)))

-- and an extent that stores at lasting places what stands there
pub steady-same : {P Q : List ℕ → Type 0} {u : View} {lo n : ℕ} {l : List ℕ} → Fills lo n l → (t : List ℕ) (base : ℕ) → base ≤ lo →
    Phase P Q (Goes u) (words t base l) → ((x : List ℕ) → P x → lo + 8 * n ≤ length x) →
    ((x : List ℕ) → P x → (q : ℕ) → Lasting u q → lo ≤ q → q < lo + 8 * n → get_or x q 0 ≡ get_or t (q - base) 0) → Phase P Q Stays (words t base l)
steady-same {lo = lo} {n = n} {l = l} f t base b g fit same = steady g (λ x p k q h. rw words_take (elim (between lo (lo + 8 * n) q) [
  | inl a ↦
      let e : get_or x q 0 ≡ get_or t (q - base) 0 = same x p q h a.0 a.1 in
      words-keep x t base (length x) q (take k l) (omega arith) (each_take _ k l (fills-within f base (length x) b (fit x p))) e ∙ sym e
  | inr a ↦ words-off x t base q (take k l) (each_take (Misses q) k l (fills-off f q a))
]))
