-- A created image is a fresh one: what stands where in it, and so that it opens with nothing listed. One theorem over all arguments
-- that create accepts.
use Rattle.std.specs.Prelude.{Ok}
use Prim.Native.Nat.{ℕ, ◌+◌, ◌*◌, ◌-◌, ◌^◌, ◌≤◌, ◌<◌}
use mathlib.Core.Path.{◌≡◌, refl, sym, ◌∙◌, ap}
use mathlib.Core.Bool.{true}
use mathlib.Core.List.{List, [], ◌++◌, append_assoc}
use native.Mathlib.Omega.{arith}
use lib.ListN.{length, get_or, take, drop, length-append, length-drop, length-replicate, get_or-replicate, get_or-append}
use lib.Seq.{get_or-append-add, get_or-drop, drop-drop, take_at, drop_at}
use Rattle.gsd_format.specs.declared.Layout.{Layout}
use Rattle.gsd_format.specs.Bytes.{le, le_bytes, part, zero_in, zeros}
use Rattle.gsd_format.specs.Header.{magic, version21, header_size, version_of, layout_of}
use Rattle.gsd_format.specs.Names.{flat, names_of}
use Rattle.gsd_format.specs.Entries.{entries_of, frames_from}
use Rattle.gsd_format.specs.Opening.{verdict, counts_of}
use Rattle.gsd_format.specs.Create.{default_slots, default_segments, or_default, filled, fresh_header, fresh, create_number, created, Fresh}
use Rattle.gsd_format.specs.Create.{fresh_index_end, fresh_namelist, fresh_namelist_end, fresh_gap}
use Rattle.gsd_format.proofs.Bytes.{le-back, part_length, part_at, zero_in_lem, zero-le}
use Rattle.gsd_format.proofs.Texts.{place}
use Rattle.gsd_format.proofs.Names.{is-names_of, zero-closed, open-recent, pass-names}
use Rattle.gsd_format.proofs.Entries.{is_none, is-entries}
use Rattle.gsd_format.proofs.Verdict.{verdict-zero, opening-open}
use Rattle.gsd_format.proofs.Create.{filled-length, Takes, takes, created-made}

-- a text of the header is closed by a zero
filled-closed : (x : List ℕ) (at : ℕ) (t : List ℕ) → length t ≤ 63 → part x at 64 ≡ filled t → zero_in x at 64 ≡ true
filled-closed x at t h e =
    zero_in_lem x at 64 (length t) (omega arith)
    (sym (part_at x at 64 (length t) (omega arith)) ∙ ap (λ s. get_or s (length t) 0) e ∙ place (filled t) (length t) (length t + 0) (omega arith)
    ∙ get_or-append-add t (zeros (64 - length t)) 0 0 ∙ get_or-replicate (64 - length t) 0 0 0 (omega arith))

module _ (slice application schema : List ℕ) (schema_version slots segments : ℕ) (t : Takes (length slice) application schema slots segments) where
  abbrev x : List ℕ
  x = fresh slice application schema schema_version slots segments

  -- what lies between the blocks and behind them, and all from the index block's end on
  abbrev kept : List ℕ
  kept = part slice (fresh_index_end slots) (fresh_gap slots)

  abbrev rest : List ℕ
  rest = drop (fresh_namelist_end slots segments) slice

  abbrev tail : List ℕ
  tail = kept ++ (zeros (64 * segments) ++ rest)

  kept-length : length kept ≡ fresh_gap slots
  kept-length = part_length slice (fresh_index_end slots) (fresh_gap slots) (omega (arith, t.room))

  -- What stands from each place on

  from-48 : drop 48 x ≡ filled application ++ (filled schema ++ (zeros 80 ++ (zeros (32 * slots) ++ tail)))
  unfolding fresh fresh_header le_bytes
  from-48 = simp append_assoc

  from-112 : drop 112 x ≡ filled schema ++ (zeros 80 ++ (zeros (32 * slots) ++ tail))
  from-112 = sym (drop-drop 64 48 x) ∙ ap (drop 64) from-48 ∙ drop_at (filled application) _ 64 (filled-length application t.short-application)

  from-176 : drop 176 x ≡ zeros 80 ++ (zeros (32 * slots) ++ tail)
  from-176 = sym (drop-drop 64 112 x) ∙ ap (drop 64) from-112 ∙ drop_at (filled schema) _ 64 (filled-length schema t.short-schema)

  from-256 : drop 256 x ≡ zeros (32 * slots) ++ tail
  from-256 = sym (drop-drop 80 176 x) ∙ ap (drop 80) from-176 ∙ drop_at (zeros 80) (zeros (32 * slots) ++ tail) 80 refl

  from-index : drop (fresh_index_end slots) x ≡ tail
  from-index =
      sym (drop-drop (32 * slots) 256 x) ∙ ap (drop (32 * slots)) from-256 ∙ drop_at (zeros (32 * slots)) tail (32 * slots) (length-replicate (32 * slots) 0)

  from-names : drop (fresh_namelist slots) x ≡ zeros (64 * segments) ++ rest
  from-names =
      ap (λ n. drop n x) (let e : fresh_namelist slots ≡ fresh_index_end slots + fresh_gap slots = omega arith in e)
      ∙ sym (drop-drop (fresh_gap slots) (fresh_index_end slots) x) ∙ ap (drop (fresh_gap slots)) from-index ∙ drop_at kept _ (fresh_gap slots) kept-length

  from-blocks : drop (fresh_namelist_end slots segments) x ≡ rest
  from-blocks =
      sym (drop-drop (64 * segments) (fresh_namelist slots) x) ∙ ap (drop (64 * segments)) from-names
      ∙ drop_at (zeros (64 * segments)) rest (64 * segments) (length-replicate (64 * segments) 0)

  long : length x ≡ length slice
  long =
      let sizes : length (filled application ++ (filled schema ++ (zeros 80 ++ (zeros (32 * slots) ++ tail))))
      ≡ 64 + (64 + (80 + (32 * slots + (length kept + (64 * segments + length rest)))))
      = simp (length-append, length-replicate) (omega (arith, t.short-application, t.short-schema)) in
      omega (arith, t.room, length-drop 48 x, ap length from-48, sizes, kept-length, length-drop (fresh_namelist_end slots segments) slice)

  abbrev asked : Layout
  asked = record { len = length slice; version = version21; index = header_size; slots = slots; namelist = fresh_namelist slots; segments = segments }

  laid : layout_of x ≡ asked
  unfolding layout_of fresh fresh_header le le_bytes
  laid =
      let count : le 8 x 16 ≡ slots = le-back 8 slots (omega (arith, t.few-slots)) in
      let namelist : le 8 x 24 ≡ fresh_namelist slots = le-back 8 (fresh_namelist slots) (omega (arith, t.few-slots)) in
      let segments : le 8 x 32 ≡ segments = le-back 8 segments (omega (arith, t.few-segments)) in
      λ i. record { len = long i; version = version21; index = header_size; slots = count i; namelist = namelist i; segments = segments i }

  numbers : (take 8 x ≡ magic) × (version_of x ≡ version21)
  unfolding fresh fresh_header le le_bytes
  numbers = (refl, refl)

  schema-version : schema_version < 2 ^ 32 → le 4 x 40 ≡ schema_version
  unfolding fresh fresh_header le le_bytes
  schema-version h = le-back 4 schema_version h

  application-text : part x 48 64 ≡ filled application
  application-text = ap (take 64) from-48 ∙ take_at (filled application) _ 64 (filled-length application t.short-application)

  schema-text : part x 112 64 ≡ filled schema
  schema-text = ap (take 64) from-112 ∙ take_at (filled schema) _ 64 (filled-length schema t.short-schema)

  -- Both lists are empty

  clear : (at n k : ℕ) (behind : List ℕ) → drop at x ≡ zeros n ++ behind → k < n → get_or x (at + k) 0 ≡ 0
  clear at n k behind e l =
      sym (get_or-drop at x k 0) ∙ ap (λ s. get_or s k 0) e
      ∙ get_or-append (zeros n) behind 0 k (omega (arith, length-replicate {A = ℕ} n 0)) ∙ get_or-replicate n k 0 0 l

  no-entries : entries_of x ≡ []
  unfolding entries_of
  no-entries =
      rw laid (is-entries slots x header_size [] (is_none x header_size slots (λ l. zero-le 8 x (header_size + 16) (λ k m.
      place x (header_size + 16 + k) (header_size + (16 + k)) (omega arith) ∙ clear header_size (32 * slots) (16 + k) tail from-256 (omega arith)))))

  names-closed : 0 < 64 * segments → get_or x (fresh_namelist slots + 0) 0 ≡ 0
  names-closed l = clear (fresh_namelist slots) (64 * segments) 0 rest from-names l

  no_names : names_of x ≡ []
  unfolding flat
  no_names = is-names_of x [] (rw laid refl) (rw laid (record { few = omega arith; each = λ k l. absurd (omega arith); good = tt; closed = names-closed }))

  -- and so it opens
  fresh-opens : verdict x ≡ 0
  unfolding flat
  fresh-opens = (verdict-zero x).1 (record {
    front = record {
      low = omega (arith, long, t.room);
      high = omega (arith, long, t.short);
      marked = numbers.0;
      versioned = rw numbers.1;
      application = filled-closed x 48 application t.short-application application-text;
      schema = filled-closed x 112 schema t.short-schema schema-text;
    };
    blocks = rw laid (record {
      index_low = omega arith;
      index_high = omega (arith, t.room);
      namelist_low = omega arith;
      namelist_high = omega (arith, t.room);
      apart = λ p a b c d. omega arith;
    });
    names = rw (laid, no_names) (pass-names x asked [] (open-recent x asked [] refl ∙ zero-closed x asked [] names-closed) (omega arith) tt);
    sound = rw no-entries (λ i l. absurd (omega arith));
    arranged = rw no-entries tt;
  })

  nothing-listed : counts_of x ≡ record { frames = 0; names = 0; entries = 0 }
  unfolding counts_of frames_from
  nothing-listed = rw (no-entries, no_names)

  fresh-is : schema_version < 2 ^ 32 → Fresh slice application schema schema_version slots segments x
  fresh-is h = record {
    opens = opening-open x fresh-opens ∙ ap Ok nothing-listed;
    layout = laid;
    same_version = schema-version h;
    same_application = application-text;
    same_schema = schema-text;
    reserved = ap (take 80) from-176 ∙ take_at (zeros 80) (zeros (32 * slots) ++ tail) 80 refl;
    index = ap (take (32 * slots)) from-256 ∙ take_at (zeros (32 * slots)) tail (32 * slots) (length-replicate (32 * slots) 0);
    between = ap (take (fresh_gap slots)) from-index ∙ take_at kept _ (fresh_gap slots) kept-length;
    namelist = ap (take (64 * segments)) from-names ∙ take_at (zeros (64 * segments)) rest (64 * segments) (length-replicate (64 * segments) 0);
    behind = from-blocks;
  }

-- the theorem, and that every run of appends can start there
pub created-fresh : (slice application schema : List ℕ) (schema_version slots segments : ℕ) → schema_version < 2 ^ 32 →
    create_number slice application schema slots segments ≡ 0 →
    Fresh slice application schema schema_version (or_default slots default_slots) (or_default segments default_segments)
    (created slice application schema schema_version slots segments)
unfolding create_number
created-fresh slice application schema schema_version slots segments h n =
    rw (created-made slice application schema schema_version slots segments n)
    (fresh-is slice application schema schema_version _ _ (takes (length slice) application schema _ _ n) h)

pub created-opens : (slice application schema : List ℕ) (schema_version slots segments : ℕ) →
    create_number slice application schema slots segments ≡ 0 → verdict (created slice application schema schema_version slots segments) ≡ 0
unfolding create_number
created-opens slice application schema schema_version slots segments n =
    rw (created-made slice application schema schema_version slots segments n)
    (fresh-opens slice application schema schema_version _ _ (takes (length slice) application schema _ _ n))
