-- When a reader fits an image and when an entry found by it does, test by test as the code makes them.
use Rattle.std.specs.Prelude.{Result, Ok, Err}
use Prim.Native.Nat.{ℕ, ◌+◌, ◌*◌, ◌-◌, ◌≤◌, ◌<◌}
use mathlib.Core.Path.{◌≡◌, refl, sym, ◌∙◌, ap}
use mathlib.Core.Bool.{Bool, true, false, ◌&&◌}
use mathlib.Core.List.{List}
use native.Mathlib.Decide.{dec_le}
use native.Mathlib.Omega.{arith}
use lib.ListN.{length}
use lib.Dec.{leb}
use borrow.Author.Tests.{le-leb, lt-leb, leb-true}
use Rattle.gsd_format.specs.declared.Entry.{Entry}
use Rattle.gsd_format.specs.declared.Reader.{Reader}
use Rattle.gsd_format.specs.Types.{known, chunk_size}
use Rattle.gsd_format.specs.Header.{supported, greatest_length}
use Rattle.gsd_format.specs.Opening.{most_names}
use Rattle.gsd_format.specs.Readers.{fits, holds, lookup_by}
use Rattle.gsd_format.proofs.Refusals.{both_true}
use Rattle.gsd_format.proofs.Types.{known-sized}
use Rattle.gsd_format.proofs.Readers.{look-33}
use Rattle.gsd_open.specs.Index.{Capped}
use Rattle.gsd_elements.specs.Held.{Held}

and-false : (a b : Bool) → b ≡ false → (a && b) ≡ false
and-false true b h = h
and-false false b h = refl

-- a size fits behind a place
same-room : (at size len : ℕ) → at ≤ len → leb size (len - at) ≡ leb (at + size) len
same-room at size len l = go (dec_le size (len - at))
  where
    go : Dec (size ≤ len - at) → leb size (len - at) ≡ leb (at + size) len
    go (yes h) = le-leb size (len - at) h ∙ sym (le-leb (at + size) len (omega arith))
    go (no h) = lt-leb size (len - at) (omega arith) ∙ sym (lt-leb (at + size) len (omega arith))

-- what a reader that fits tells
pub record Fitting (r : Reader) (img : List ℕ) : Type 0 where
  pub short : length img ≤ greatest_length
  pub known : supported r.version ≡ true
  pub names : r.names ≤ most_names
  pub slots : r.index + 32 * r.entries ≤ length img
  pub list : r.namelist + r.size ≤ length img

module _ (r : Reader) (img : List ℕ) where
  abbrev lies : Bool
  lies = leb (r.index + 32 * r.entries) (length img) && leb (r.namelist + r.size) (length img)

  abbrev named : Bool
  named = leb r.names most_names && lies

  abbrev versioned : Bool
  versioned = supported r.version && named

  pub not_short : greatest_length < length img → fits r img ≡ false
  unfolding fits
  not_short h = rw (lt-leb (length img) greatest_length h)

  not-versioned : versioned ≡ false → fits r img ≡ false
  unfolding fits
  not-versioned = and-false (leb (length img) greatest_length) versioned

  pub not_known : supported r.version ≡ false → fits r img ≡ false
  not_known h = not-versioned (rw h)

  not_named : named ≡ false → fits r img ≡ false
  not_named h = not-versioned (and-false (supported r.version) named h)

  pub not-few : most_names < r.names → fits r img ≡ false
  not-few h = not_named (rw (lt-leb r.names most_names h))

  not-lies : lies ≡ false → fits r img ≡ false
  not-lies h = not_named (and-false (leb r.names most_names) lies h)

  pub not-slots : length img < r.index + 32 * r.entries → fits r img ≡ false
  not-slots h = not-lies (rw (lt-leb (r.index + 32 * r.entries) (length img) h))

  pub not-list : length img < r.namelist + r.size → fits r img ≡ false
  not-list h = not-lies (and-false (leb (r.index + 32 * r.entries) (length img)) _ (lt-leb (r.namelist + r.size) (length img) h))

  -- the last test decides
  pub fits_last : length img ≤ greatest_length → supported r.version ≡ true → r.names ≤ most_names → r.index + 32 * r.entries ≤ length img →
      r.namelist ≤ length img → leb r.size (length img - r.namelist) ≡ fits r img
  unfolding fits
  fits_last a b c d e =
      rw (le-leb (length img) greatest_length a, b, le-leb r.names most_names c, le-leb (r.index + 32 * r.entries) (length img) d)
      (same-room r.namelist r.size (length img) e)

  pub fitting : fits r img ≡ true → Fitting r img
  unfolding fits
  fitting h =
      let a = both_true (leb (length img) greatest_length) versioned h in
      let b = both_true (supported r.version) named a.1 in
      let c = both_true (leb r.names most_names) lies b.1 in
      let d = both_true (leb (r.index + 32 * r.entries) (length img)) (leb (r.namelist + r.size) (length img)) c.1 in
      record { short = leb-true _ _ a.0; known = b.0; names = leb-true _ _ c.0; slots = leb-true _ _ d.0; list = leb-true _ _ d.1 }

  -- what found an entry fits
  pub found-fits : (frame : ℕ) (name : List ℕ) (e : Entry) → lookup_by r img frame name ≡ Ok e → fits r img ≡ true
  found-fits frame name e h = go (fits r img) refl
    where
      number : Result Entry ℕ → ℕ
      number (Ok e) = 0
      number (Err n) = n

      go : (b : Bool) → fits r img ≡ b → fits r img ≡ true
      go true f = f
      go false f =
          let q : number (Err 33) ≡ number (Ok e) = ap number (sym (look-33 r img f frame name) ∙ h) in
          absurd (omega (arith, q))

  module _ (e : Entry) where
    pub not-type : known r.version e.kind ≡ false → holds r img e ≡ false
    unfolding holds
    not-type h = rw h

    pub not_there : length img < e.location + chunk_size e → holds r img e ≡ false
    unfolding holds
    not_there h = and-false (known r.version e.kind) _ (lt-leb (e.location + chunk_size e) (length img) h)

    -- the last test decides, by the chunk's size as code keeps it
    pub holds-last : length img ≤ greatest_length → known r.version e.kind ≡ true → e.location ≤ length img → (size : ℕ) → Capped (chunk_size e) size →
        leb size (length img - e.location) ≡ holds r img e
    unfolding holds
    holds-last a b l size c = rw b (go (dec_le (chunk_size e) greatest_length))
      where
        go : Dec (chunk_size e ≤ greatest_length) → leb size (length img - e.location) ≡ leb (e.location + chunk_size e) (length img)
        go (yes h) = ap (λ n. leb n (length img - e.location)) (c.exact h) ∙ same-room e.location (chunk_size e) (length img) l
        go (no h) =
            lt-leb size (length img - e.location) (omega (arith, c.beyond (omega arith)))
            ∙ sym (lt-leb (e.location + chunk_size e) (length img) (omega arith))

    pub holding : holds r img e ≡ true → length img ≤ greatest_length → Held img e
    unfolding holds
    holding h short =
        let a = both_true (known r.version e.kind) (leb (e.location + chunk_size e) (length img)) h in
        record { sized = known-sized _ _ a.0; within = leb-true _ _ a.1; short = short }
