-- Texts of bytes: every number in them is a byte.
use Prim.Native.Nat.{ℕ, zero, suc, ◌+◌, ◌-◌, ◌/◌, ◌%◌, ◌<◌}
use mathlib.Core.Path.{◌≡◌, ◌∙◌, ap}
use mathlib.Core.List.{List, [], ◌∷◌, ◌++◌}
use native.Mathlib.Decide.{dec_lt}
use native.Mathlib.Omega.{arith}
use lib.ListN.{length, get_or, get_or-append, get_or-eq_default}
use lib.Seq.{get_or-append-add}
use Rattle.gsd_format.specs.declared.Entry.{Entry}
use Rattle.gsd_format.specs.Bytes.{le_bytes}
use Rattle.gsd_format.specs.Names.{flat}
use Rattle.gsd_format.specs.Lookup.{none}
use Rattle.gsd_format.proofs.Bytes.{Octets, Text}
use Rattle.gsd_format.proofs.Names.{flat_append}
use Rattle.gsd_format.proofs.Entries.{Fits}
use Rattle.gsd_stores.specs.Plan.{padded}
use Rattle.gsd_stores.specs.Steps.{entry_bytes, index_bytes}
use Rattle.gsd_stores.proofs.Rows.{padded-byte}

pub no-octets : Octets []
no-octets i = omega arith

-- a text that stands in bytes is one of bytes
pub text-octets : (x : List ℕ) (at : ℕ) (t : List ℕ) → Octets x → Text x at t → Octets t
text-octets x at t o h i = go (dec_lt i (length t))
  where
    go : Dec (i < length t) → get_or t i 0 < 256
    go (yes l) = omega (arith, o (at + i), h i l)
    go (no l) = omega (arith, get_or-eq_default t 0 {n = i} (omega arith))

pub octets-cons : (b : ℕ) (t : List ℕ) → b < 256 → Octets t → Octets (b ∷ t)
octets-cons b t h o zero = h
octets-cons b t h o (suc i) = o i

pub octets-append : (s t : List ℕ) → Octets s → Octets t → Octets (s ++ t)
octets-append s t a b i = go (dec_lt i (length s))
  where
    go : Dec (i < length s) → get_or (s ++ t) i 0 < 256
    go (yes l) = omega (arith, a i, get_or-append s t 0 i l)
    go (no l) =
        let e : get_or (s ++ t) i 0 ≡ get_or t (i - length s) 0
        = ap (λ k. get_or (s ++ t) k 0) (let q : i ≡ length s + (i - length s) = omega arith in q) ∙ get_or-append-add s t (i - length s) 0 in
        omega (arith, b (i - length s))

pub le_bytes-octets : (n w : ℕ) → Octets (le_bytes n w)
unfolding le_bytes
le_bytes-octets zero w = no-octets
le_bytes-octets (suc n) w = octets-cons (w % 256) (le_bytes n (w / 256)) (omega arith) (le_bytes-octets n (w / 256))

-- a name list with one name more
pub flat-octets : (ns : List (List ℕ)) (b : List ℕ) → Octets (flat ns) → Octets b → Octets (flat (ns ++ b ∷ []))
unfolding flat
flat-octets ns b o h =
    rw (flat_append ns (b ∷ [])) (octets-append (flat ns) (b ++ 0 ∷ []) o (octets-append b (0 ∷ []) h (octets-cons 0 [] (omega arith) no-octets)))

-- a row's data with their padding
pub padded-octets : (b : List ℕ) → Octets b → Octets (padded b)
padded-octets b o i = omega (arith, padded-byte b i, o i)

-- the bytes of entries
entry-octets : (e : Entry) → Fits e → Octets (entry_bytes e)
unfolding entry_bytes
entry-octets e f =
    let a : List ℕ = le_bytes 8 e.frame in
    let b : List ℕ = a ++ le_bytes 8 e.n in
    let c : List ℕ = b ++ le_bytes 8 e.location in
    let d : List ℕ = c ++ le_bytes 4 e.m in
    let g : List ℕ = d ++ le_bytes 2 e.id in
    octets-append g (e.kind ∷ e.flags ∷ [])
    (octets-append d (le_bytes 2 e.id)
    (octets-append c (le_bytes 4 e.m)
    (octets-append b (le_bytes 8 e.location)
    (octets-append a (le_bytes 8 e.n) (le_bytes-octets 8 e.frame) (le_bytes-octets 8 e.n))
    (le_bytes-octets 8 e.location)) (le_bytes-octets 4 e.m)) (le_bytes-octets 2 e.id))
    (octets-cons e.kind (e.flags ∷ []) f.kind (octets-cons e.flags [] f.flags no-octets))

pub index-octets : (es : List Entry) → ((i : ℕ) → i < length es → Fits (get_or es i none)) → Octets (index_bytes es)
unfolding index_bytes
index-octets [] h = no-octets
index-octets (e ∷ es) h = octets-append (entry_bytes e) (index_bytes es) (entry-octets e (h 0 (omega arith))) (index-octets es (λ i l. h (suc i) (omega arith)))
