-- Two images by what they show: an image of 2.x opens exactly when what it shows is legal, and one that shows the same
-- entries and names, and perhaps more behind them, keeps what the other has.
use Prim.Native.Nat.{ℕ, ◌+◌, ◌*◌, ◌≤◌, ◌<◌}
use mathlib.Core.Path.{◌≡◌, refl, sym, ◌∙◌, ap}
use mathlib.Core.Bool.{false}
use mathlib.Core.List.{List, [], ◌++◌}
use native.Mathlib.Omega.{arith}
use lib.ListN.{length, get_or, length-append}
use Rattle.gsd_format.specs.declared.Entry.{Entry}
use Rattle.gsd_format.specs.Bytes.{part}
use Rattle.gsd_format.specs.Types.{chunk_size}
use Rattle.gsd_format.specs.Header.{v10, layout_of}
use Rattle.gsd_format.specs.Names.{names_of, index_of, Distinct}
use Rattle.gsd_format.specs.Entries.{entries_of, frames_of}
use Rattle.gsd_format.specs.Opening.{verdict, most_names}
use Rattle.gsd_format.specs.Lookup.{none, lookup, lookup_in, chunk_of}
use Rattle.gsd_format.proofs.Bytes.{Same, same_from, part_same}
use Rattle.gsd_format.proofs.Ids.{index-append, index_back, has-front}
use Rattle.gsd_format.proofs.Names.{names-pass, pass-names, names_of-are, open-recent, zero-closed}
use Rattle.gsd_format.proofs.Entries.{Ordered, image-entries}
use Rattle.gsd_format.proofs.Arranged.{least_of, arranged-ordered}
use Rattle.gsd_format.proofs.Verdict.{Opens, verdict-zero}
use Rattle.gsd_format.proofs.Lookup.{Stands, find-sound, look-found, look-kept, look-back, opened-lookup}
use Rattle.gsd_stores.specs.View.{View, view_of}
use Rattle.gsd_stores.specs.Runs.{frames}
use Rattle.gsd_stores.proofs.Valid.{opens-ordered}
use Rattle.gsd_stores.proofs.View.{Is, is-long, view-is, Chunks}
use Rattle.gsd_stores.proofs.Keep.{Keep}

-- what opening tests of the lists beyond what `Is` says
pub record Legal (v : View) : Type 0 where
  pub few : length v.names ≤ most_names
  pub distinct : Distinct v.names
  pub ordered : Ordered 0 v.entries

module _ {x : List ℕ} {v : View} (h : Is x v) where
  pub shown-entries : entries_of x ≡ v.entries
  unfolding view_of
  shown-entries = ap (λ u. u.entries) (view-is x v h)

  pub shown-names : names_of x ≡ v.names
  unfolding view_of
  shown-names = ap (λ u. u.names) (view-is x v h)

pub shown-opens : {x : List ℕ} {v : View} → Is x v → Legal v → verdict x ≡ 0
unfolding least_of
shown-opens {x} {v} h g = (verdict-zero x).1 (record {
  front = h.front;
  blocks = rw h.layout h.blocks;
  names = rw (h.layout, shown-names h) (pass-names x v.layout v.names
      (open-recent x v.layout v.names h.recent ∙ zero-closed x v.layout v.names h.names.closed) g.few g.distinct);
  sound = rw (h.layout, shown-names h, shown-entries h) h.sound;
  arranged = rw (h.layout, shown-entries h) ((arranged-ordered v.entries v.layout.version [] h.recent).1 g.ordered);
})

pub opens-shown : (x : List ℕ) → verdict x ≡ 0 → v10 (view_of x).layout.version ≡ false → Is x (view_of x)
unfolding view_of
opens-shown x o r =
    let p : Opens x = (verdict-zero x).0 o in
    let n = names-pass x (layout_of x) (names_of x) p.names in
    record {
      layout = refl;
      recent = r;
      front = p.front;
      blocks = p.blocks;
      entries = image-entries x;
      names = names_of-are x r (sym (open-recent x (layout_of x) (names_of x) r) ∙ n.0);
      sound = p.sound;
    }

pub opens-legal : (x : List ℕ) → verdict x ≡ 0 → v10 (view_of x).layout.version ≡ false → Legal (view_of x)
unfolding view_of
opens-legal x o r =
    let p : Opens x = (verdict-zero x).0 o in
    let n = names-pass x (layout_of x) (names_of x) p.names in
    record { few = n.1; distinct = n.2; ordered = opens-ordered x p r }

-- b shows what a shows, and behind it more entries, of new frames, and more names
pub record Extends (a b : List ℕ) (u w : View) (more : List Entry) (ms : List (List ℕ)) : Type 0 where
  pub from : Is a u
  pub to : Is b w
  pub entries : w.entries ≡ u.entries ++ more
  pub names : w.names ≡ u.names ++ ms
  pub frames : frames_of u.entries ≤ frames_of (u.entries ++ more)
  pub newer : (i : ℕ) → i < length more → frames_of u.entries ≤ (get_or more i none).frame
  pub long : length b ≡ length a
  pub chunks : Chunks a b u.entries
  pub raw : Same b w.layout.index a u.layout.index (32 * length u.entries)

module _ (a b : List ℕ) (u w : View) (more : List Entry) (ms : List (List ℕ)) (h : Extends a b u w more ms) (oa : verdict a ≡ 0) (ob : verdict b ≡ 0) where
  look-a : (frame : ℕ) (name : List ℕ) → lookup a frame name ≡ lookup_in u.entries u.names frame name
  look-a frame name = opened-lookup a oa frame name ∙ (λ i. lookup_in (shown-entries h.from i) (shown-names h.from i) frame name)

  look-b : (frame : ℕ) (name : List ℕ) → lookup b frame name ≡ lookup_in (u.entries ++ more) (u.names ++ ms) frame name
  look-b frame name = opened-lookup b ob frame name ∙ (λ i. lookup_in ((shown-entries h.to ∙ h.entries) i) ((shown-names h.to ∙ h.names) i) frame name)

  frames-a : frames a ≡ frames_of u.entries
  frames-a = ap frames_of (shown-entries h.from)

  frames-b : frames b ≡ frames_of (u.entries ++ more)
  frames-b = ap frames_of (shown-entries h.to ∙ h.entries)

  chunk_kept : (e : Entry) (i : ℕ) → i < length u.entries → get_or u.entries i none ≡ e → chunk_of b e ≡ chunk_of a e
  chunk_kept e i l t =
      let within : e.location + chunk_size e ≤ u.layout.len = rw t at (h.from.sound i l).within in
      part_same b e.location a e.location (chunk_size e) (omega (arith, h.long, is-long h.from)) (omega (arith, is-long h.from))
      (rw t at (h.chunks i l))

  slot_kept : (i : ℕ) → i < length u.entries → part b (w.layout.index + 32 * i) 32 ≡ part a (u.layout.index + 32 * i) 32
  slot_kept i l =
      part_same b (w.layout.index + 32 * i) a (u.layout.index + 32 * i) 32
      (omega (arith, is-long h.to, h.to.blocks.index_high, h.to.entries.few, ap length h.entries, length-append u.entries more))
      (omega (arith, is-long h.from, h.from.blocks.index_high, h.from.entries.few))
      (same_from b w.layout.index a u.layout.index (32 * i) 32 (λ k m. h.raw k (omega arith)))

  pub extends-keep : Keep a b
  extends-keep = record {
    grow = omega (arith, frames-a, frames-b, h.frames);
    kept = λ f n e g.
        look-b f n
        ∙ look-kept u.entries more u.names (u.names ++ ms) f n e h.frames (omega (arith, length-append u.names ms))
        (index-append n u.names ms) (sym (look-a f n) ∙ g);
    back = λ f n e l g.
        look-a f n
        ∙ look-back u.entries more u.names (u.names ++ ms) f n e (omega (arith, frames-a)) (λ i k. (h.from.sound i k).named) h.newer
        (index_back n u.names ms) (sym (look-b f n) ∙ g);
    chunk = λ f n e g.
        let s : Stands u.entries f (index_of n u.names) e = find-sound f (index_of n u.names) u.entries e ((look-found u.entries u.names f n e).0 (sym (look-a f n) ∙ g)).2 in
        chunk_kept e s.place s.within s.there;
    named = λ n l. rw (shown-names h.to, h.names) (has-front n u.names ms (rw (shown-names h.from) at l));
    many = omega (arith, ap length (shown-entries h.from), ap length (shown-entries h.to ∙ h.entries), length-append u.entries more);
    bytes = λ i l. rw (h.to.layout, h.from.layout) (slot_kept i (rw (shown-entries h.from) at l));
  }
