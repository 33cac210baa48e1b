-- Laws of lookup: which entry a frame and a name find, when each refusal is given, and what stays found as entries and names are added.
use Rattle.std.specs.Prelude.{Result, Ok, Err}
use Prim.Native.Nat.{ℕ, zero, suc, ◌≤◌, ◌<◌}
use mathlib.Core.Path.{◌≡◌, refl, sym, ◌∙◌, ap}
use mathlib.Core.Logic.{◌↔◌, ◌⊎◌, inl, inr}
use mathlib.Core.List.{List, [], ◌∷◌, ◌++◌}
use native.Mathlib.Decide.{ℕ_discrete, dec_lt}
use native.Mathlib.Omega.{arith}
use lib.ListN.{length, get_or}
use borrow.Author.Tests.{lt-ltb, le-ltb, eq-eqb, ne_eqb}
use Rattle.gsd_format.specs.declared.Entry.{Entry}
use Rattle.gsd_format.specs.Names.{index_of, name_parts, names_of}
use Rattle.gsd_format.specs.Entries.{entries_of, frames_of}
use Rattle.gsd_format.specs.Opening.{verdict}
use Rattle.gsd_format.specs.Lookup.{none, nowhere, nth_entry, nth_name, find_entry, lookup_in, lookup, placed, chunk_place}
use Rattle.gsd_format.specs.Elements.{element_in, element}
use Rattle.gsd_format.specs.Answers.{number_of}
use Rattle.gsd_format.proofs.Entries.{Ordered, one_place}

-- An entry by frame and id

-- the entry e has this frame and id, and stands in the list
pub record Stands (es : List Entry) (frame id : ℕ) (e : Entry) : Type 0 where
  pub place : ℕ
  pub within : place < length es
  pub there : get_or es place none ≡ e
  pub same_frame : e.frame ≡ frame
  pub same_id : e.id ≡ id

pub stands-frame : {es : List Entry} {frame id : ℕ} {e : Entry} (s : Stands es frame id e) → (get_or es s.place none).frame ≡ frame
stands-frame s = ap (λ c. c.frame) s.there ∙ s.same_frame

pub stands-id : {es : List Entry} {frame id : ℕ} {e : Entry} (s : Stands es frame id e) → (get_or es s.place none).id ≡ id
stands-id s = ap (λ c. c.id) s.there ∙ s.same_id

-- no entry of the list has this frame and id
abbrev pub Lacks : List Entry → ℕ → ℕ → Type 0
Lacks es frame id = (i : ℕ) → i < length es → (get_or es i none).frame ≡ frame → (get_or es i none).id ≡ id → ⊥

pub find-end : (frame id : ℕ) → find_entry frame id [] ≡ Err 42
unfolding find_entry
find-end frame id = refl

pub find-here : (frame id : ℕ) (e : Entry) (es : List Entry) → e.frame ≡ frame → e.id ≡ id → find_entry frame id (e ∷ es) ≡ Ok e
unfolding find_entry
find-here frame id e es f d = rw (eq-eqb e.frame frame f, eq-eqb e.id id d, find_entry)

pub find-on : (frame id : ℕ) (e : Entry) (es : List Entry) → (e.frame ≡ frame → e.id ≡ id → ⊥) → find_entry frame id (e ∷ es) ≡ find_entry frame id es
unfolding find_entry
find-on frame id e es n = go (ℕ_discrete e.frame frame)
  where
    go : Dec (e.frame ≡ frame) → find_entry frame id (e ∷ es) ≡ find_entry frame id es
    go (yes f) = rw (eq-eqb e.frame frame f, ne_eqb e.id id (n f), find_entry)
    go (no f) = rw (ne_eqb e.frame frame f, find_entry)

-- is it this entry?
pub it-is : (frame id : ℕ) (e : Entry) → Dec ((e.frame ≡ frame) × (e.id ≡ id))
it-is frame id e = go (ℕ_discrete e.frame frame) (ℕ_discrete e.id id)
  where
    go : Dec (e.frame ≡ frame) → Dec (e.id ≡ id) → Dec ((e.frame ≡ frame) × (e.id ≡ id))
    go (yes f) (yes d) = yes (f, d)
    go (yes f) (no d) = no (λ p. d p.1)
    go (no f) d = no (λ p. f p.0)

-- the first entry with the frame and the id is found
pub find_at : (frame id : ℕ) (es : List Entry) (i : ℕ) → i < length es → (get_or es i none).frame ≡ frame → (get_or es i none).id ≡ id →
    ((j : ℕ) → j < i → (get_or es j none).frame ≡ frame → (get_or es j none).id ≡ id → ⊥) → find_entry frame id es ≡ Ok (get_or es i none)
find_at frame id [] i l f d n = absurd (omega arith)
find_at frame id (e ∷ es) zero l f d n = find-here frame id e es f d
find_at frame id (e ∷ es) (suc i) l f d n = find-on frame id e es (n 0 (omega arith)) ∙ find_at frame id es i (omega arith) f d (λ j u. n (suc j) (omega arith))

-- what an answer says of the list
pub data Sought (es : List Entry) (frame id : ℕ) : Result Entry ℕ → Type 0 where
  found : {e : Entry} → Stands es frame id e → Sought es frame id (Ok e)
  missing : Lacks es frame id → Sought es frame id (Err 42)

sought-behind : (frame id : ℕ) (e : Entry) (es : List Entry) {r : Result Entry ℕ} → (e.frame ≡ frame → e.id ≡ id → ⊥) →
    Sought es frame id r → Sought (e ∷ es) frame id r
sought-behind frame id e es n (found s) =
    found (record { place = suc s.place; within = omega (arith, s.within); there = s.there; same_frame = s.same_frame; same_id = s.same_id })
sought-behind frame id e es n (missing m) = missing go
  where
    go : Lacks (e ∷ es) frame id
    go zero l = n
    go (suc i) l = m i (omega arith)

pub find-is : (frame id : ℕ) (es : List Entry) → Sought es frame id (find_entry frame id es)
find-is frame id [] = rw find-end (missing (λ i l. absurd (omega arith)))
find-is frame id (e ∷ es) = go (find-is frame id es) (it-is frame id e)
  where
    go : Sought es frame id (find_entry frame id es) → Dec ((e.frame ≡ frame) × (e.id ≡ id)) → Sought (e ∷ es) frame id (find_entry frame id (e ∷ es))
    go r (yes p) = rw (find-here frame id e es p.0 p.1) (found (record { place = 0; within = omega arith; there = refl; same_frame = p.0; same_id = p.1 }))
    go r (no p) = rw (find-on frame id e es (λ f d. p (f, d))) (sought-behind frame id e es (λ f d. p (f, d)) r)

pub find_none : (frame id : ℕ) (es : List Entry) → Lacks es frame id → find_entry frame id es ≡ Err 42
find_none frame id [] n = find-end frame id
find_none frame id (e ∷ es) n = find-on frame id e es (n 0 (omega arith)) ∙ find_none frame id es (λ i l. n (suc i) (omega arith))

pub find-sound : (frame id : ℕ) (es : List Entry) (e : Entry) → find_entry frame id es ≡ Ok e → Stands es frame id e
find-sound frame id es e h = go (find-is frame id es) h
  where
    go : {r : Result Entry ℕ} → Sought es frame id r → r ≡ Ok e → Stands es frame id e
    go (found {e = c} s) h = let q : c ≡ e = cc in rw q at s
    go (missing m) h = let z : ◌≡◌ {A = ℕ} 0 1 = cc in absurd (omega arith)

pub find-lacks : (frame id : ℕ) (es : List Entry) (k : ℕ) → find_entry frame id es ≡ Err k → Lacks es frame id
find-lacks frame id es k h = go (find-is frame id es) h
  where
    go : {r : Result Entry ℕ} → Sought es frame id r → r ≡ Err k → Lacks es frame id
    go (found s) h = let z : ◌≡◌ {A = ℕ} 0 1 = cc in absurd (omega arith)
    go (missing m) h = m

-- an entry is found wherever it stands, if all entries with its frame and id are equal to it; so in an ordered list always
pub find-any : (frame id : ℕ) (es : List Entry) (e : Entry) → Stands es frame id e →
    ((i : ℕ) → i < length es → (get_or es i none).frame ≡ frame → (get_or es i none).id ≡ id → get_or es i none ≡ e) → find_entry frame id es ≡ Ok e
find-any frame id es e s one = go (find-is frame id es) refl
  where
    go : {r : Result Entry ℕ} → Sought es frame id r → find_entry frame id es ≡ r → find_entry frame id es ≡ Ok e
    go (found t) h = h ∙ ap Ok (sym t.there ∙ one t.place t.within (stands-frame t) (stands-id t))
    go (missing m) h = absurd (m s.place s.within (stands-frame s) (stands-id s))

pub find-ordered : (frame id : ℕ) (es : List Entry) (least : ℕ) → Ordered least es → (e : Entry) → Stands es frame id e →
    find_entry frame id es ≡ Ok e
find-ordered frame id es least h e s = find-any frame id es e s (λ i l f d.
    ap (λ j. get_or es j none) (one_place es least h i s.place l s.within (f ∙ sym (stands-frame s)) (d ∙ sym (stands-id s))) ∙ s.there)

-- Entries behind a list

pub find-append : (frame id : ℕ) (es more : List Entry) (e : Entry) → find_entry frame id es ≡ Ok e → find_entry frame id (es ++ more) ≡ Ok e
find-append frame id [] more e h = let z : ◌≡◌ {A = ℕ} 0 1 = cc (find-end frame id) in absurd (omega arith)
find-append frame id (c ∷ es) more e h = go (find-append frame id es more e) (it-is frame id c)
  where
    go : (find_entry frame id es ≡ Ok e → find_entry frame id (es ++ more) ≡ Ok e) → Dec ((c.frame ≡ frame) × (c.id ≡ id)) →
        find_entry frame id (c ∷ es ++ more) ≡ Ok e
    go r (yes p) = find-here frame id c (es ++ more) p.0 p.1 ∙ sym (find-here frame id c es p.0 p.1) ∙ h
    go r (no p) = find-on frame id c (es ++ more) (λ f d. p (f, d)) ∙ r (sym (find-on frame id c es (λ f d. p (f, d))) ∙ h)

-- entries of other frames or ids change nothing
pub find-back : (frame id : ℕ) (es more : List Entry) → Lacks more frame id → find_entry frame id (es ++ more) ≡ find_entry frame id es
find-back frame id [] more n = find_none frame id more n ∙ sym (find-end frame id)
find-back frame id (c ∷ es) more n = go (find-back frame id es more n) (it-is frame id c)
  where
    go : find_entry frame id (es ++ more) ≡ find_entry frame id es → Dec ((c.frame ≡ frame) × (c.id ≡ id)) →
        find_entry frame id (c ∷ es ++ more) ≡ find_entry frame id (c ∷ es)
    go r (yes p) = find-here frame id c (es ++ more) p.0 p.1 ∙ sym (find-here frame id c es p.0 p.1)
    go r (no p) = find-on frame id c (es ++ more) (λ f d. p (f, d)) ∙ r ∙ sym (find-on frame id c es (λ f d. p (f, d)))

pub find-behind : (frame id : ℕ) (es more : List Entry) → Lacks es frame id → find_entry frame id (es ++ more) ≡ find_entry frame id more
find-behind frame id [] more n = refl
find-behind frame id (c ∷ es) more n = find-on frame id c (es ++ more) (n 0 (omega arith)) ∙ find-behind frame id es more (λ i l. n (suc i) (omega arith))

-- An entry by frame and name

-- what an answer says of the entries and the names
pub data Looked (es : List Entry) (ns : List (List ℕ)) (frame : ℕ) (name : List ℕ) : Result Entry ℕ → Type 0 where
  no_frame : frames_of es ≤ frame → Looked es ns frame name (Err 40)
  no_name : frame < frames_of es → length ns ≤ index_of name ns → Looked es ns frame name (Err 41)
  no_entry : frame < frames_of es → index_of name ns < length ns → Lacks es frame (index_of name ns) → Looked es ns frame name (Err 42)
  listed : {e : Entry} → frame < frames_of es → index_of name ns < length ns → Stands es frame (index_of name ns) e → Looked es ns frame name (Ok e)

-- the frame is there, the name is listed, and the list has this entry of the two
abbrev pub Met : List Entry → List (List ℕ) → ℕ → List ℕ → Entry → Type 0
Met es ns frame name e = (frame < frames_of es) × (index_of name ns < length ns) × (find_entry frame (index_of name ns) es ≡ Ok e)

module _ (es : List Entry) (ns : List (List ℕ)) (frame : ℕ) (name : List ℕ) where
  pub look-frame : frames_of es ≤ frame → lookup_in es ns frame name ≡ Err 40
  unfolding lookup_in
  look-frame h = rw (le-ltb frame (frames_of es) h, lookup_in)

  pub look-name : frame < frames_of es → length ns ≤ index_of name ns → lookup_in es ns frame name ≡ Err 41
  unfolding lookup_in
  look-name f n = rw (lt-ltb frame (frames_of es) f, le-ltb (index_of name ns) (length ns) n, lookup_in)

  pub look-entry : frame < frames_of es → index_of name ns < length ns → lookup_in es ns frame name ≡ find_entry frame (index_of name ns) es
  unfolding lookup_in
  look-entry f n = rw (lt-ltb frame (frames_of es) f, lt-ltb (index_of name ns) (length ns) n, lookup_in)

  pub look_is : Looked es ns frame name (lookup_in es ns frame name)
  look_is = go (dec_lt frame (frames_of es)) (dec_lt (index_of name ns) (length ns))
    where
      sought : {r : Result Entry ℕ} → frame < frames_of es → index_of name ns < length ns → Sought es frame (index_of name ns) r → Looked es ns frame name r
      sought f n (found s) = listed f n s
      sought f n (missing m) = no_entry f n m

      go : Dec (frame < frames_of es) → Dec (index_of name ns < length ns) → Looked es ns frame name (lookup_in es ns frame name)
      go (yes f) (yes n) = rw (look-entry f n) (sought f n (find-is frame (index_of name ns) es))
      go (yes f) (no n) = let l : length ns ≤ index_of name ns = omega arith in rw (look-name f l) (no_name f l)
      go (no f) n = let l : frames_of es ≤ frame = omega arith in rw (look-frame l) (no_frame l)

  -- found exactly when the three are met
  pub look-found : (e : Entry) → lookup_in es ns frame name ≡ Ok e ↔ Met es ns frame name e
  look-found e = (λ h. go look_is h h, λ p. look-entry p.0 p.1 ∙ p.2)
    where
      go : {r : Result Entry ℕ} → Looked es ns frame name r → r ≡ Ok e → lookup_in es ns frame name ≡ Ok e → Met es ns frame name e
      go (no_frame f) q h = let z : ◌≡◌ {A = ℕ} 0 1 = cc in absurd (omega arith)
      go (no_name f n) q h = let z : ◌≡◌ {A = ℕ} 0 1 = cc in absurd (omega arith)
      go (no_entry f n m) q h = let z : ◌≡◌ {A = ℕ} 0 1 = cc in absurd (omega arith)
      go (listed f n s) q h = (f, n, sym (look-entry f n) ∙ h)

  -- and each refusal exactly when its test is the first to apply
  pub look-40 : number_of (lookup_in es ns frame name) ≡ 40 ↔ frames_of es ≤ frame
  look-40 = (go look_is, λ f. ap number_of (look-frame f))
    where
      go : {r : Result Entry ℕ} → Looked es ns frame name r → number_of r ≡ 40 → frames_of es ≤ frame
      go (no_frame f) h = f
      go (no_name f n) h = omega arith
      go (no_entry f n m) h = omega arith
      go (listed f n s) h = omega arith

  pub look-41 : number_of (lookup_in es ns frame name) ≡ 41 ↔ (frame < frames_of es) × (length ns ≤ index_of name ns)
  look-41 = (go look_is, λ p. ap number_of (look-name p.0 p.1))
    where
      go : {r : Result Entry ℕ} → Looked es ns frame name r → number_of r ≡ 41 → (frame < frames_of es) × (length ns ≤ index_of name ns)
      go (no_frame f) h = omega arith
      go (no_name f n) h = (f, n)
      go (no_entry f n m) h = omega arith
      go (listed f n s) h = omega arith

  pub look-42 : number_of (lookup_in es ns frame name) ≡ 42 ↔ (frame < frames_of es) × (index_of name ns < length ns) × Lacks es frame (index_of name ns)
  look-42 = (go look_is, λ p. ap number_of (look-entry p.0 p.1 ∙ find_none frame (index_of name ns) es p.2))
    where
      go : {r : Result Entry ℕ} → Looked es ns frame name r → number_of r ≡ 42 →
          (frame < frames_of es) × (index_of name ns < length ns) × Lacks es frame (index_of name ns)
      go (no_frame f) h = absurd (omega arith)
      go (no_name f n) h = absurd (omega arith)
      go (no_entry f n m) h = (f, n, m)
      go (listed f n s) h = absurd (omega arith)

  -- a name that finds nothing in a frame that is there gives 41 or 42
  pub look-absent : frame < frames_of es → ((e : Entry) → lookup_in es ns frame name ≡ Ok e → ⊥) →
      (number_of (lookup_in es ns frame name) ≡ 41) ⊎ (number_of (lookup_in es ns frame name) ≡ 42)
  look-absent f n = go look_is refl
    where
      go : {r : Result Entry ℕ} → Looked es ns frame name r → lookup_in es ns frame name ≡ r → (number_of r ≡ 41) ⊎ (number_of r ≡ 42)
      go (no_frame g) h = absurd (omega arith)
      go (no_name g l) h = inl refl
      go (no_entry g l m) h = inr refl
      go (listed {e = e} g l s) h = absurd (n e h)

-- More entries and names. Of the names only their places matter: where name is listed in ns, it has the same place in ms

-- what was found stays found
pub look-kept : (es more : List Entry) (ns ms : List (List ℕ)) (frame : ℕ) (name : List ℕ) (e : Entry) →
    frames_of es ≤ frames_of (es ++ more) → length ns ≤ length ms → (index_of name ns < length ns → index_of name ms ≡ index_of name ns) →
    lookup_in es ns frame name ≡ Ok e → lookup_in (es ++ more) ms frame name ≡ Ok e
look-kept es more ns ms frame name e f n same h =
    let p : Met es ns frame name e = (look-found es ns frame name e).0 h in
    let q : index_of name ms ≡ index_of name ns = same p.1 in
    look-entry (es ++ more) ms frame name (omega arith) (omega arith) ∙ rw q (find-append frame (index_of name ns) es more e p.2)

-- what is found in an old frame was found before
pub look-back : (es more : List Entry) (ns ms : List (List ℕ)) (frame : ℕ) (name : List ℕ) (e : Entry) → frame < frames_of es →
    ((i : ℕ) → i < length es → (get_or es i none).id < length ns) → ((i : ℕ) → i < length more → frames_of es ≤ (get_or more i none).frame) →
    (index_of name ms < length ns → index_of name ns ≡ index_of name ms) →
    lookup_in (es ++ more) ms frame name ≡ Ok e → lookup_in es ns frame name ≡ Ok e
look-back es more ns ms frame name e f ids old same h =
    let id : ℕ = index_of name ms in
    let it : find_entry frame id es ≡ Ok e =
    sym (find-back frame id es more (λ i l g d. omega (arith, old i l))) ∙ ((look-found (es ++ more) ms frame name e).0 h).2 in
    let s : Stands es frame id e = find-sound frame id es e it in
    let l : id < length ns = omega (arith, stands-id s, ids s.place s.within) in
    look-entry es ns frame name f (omega (arith, same l)) ∙ rw (same l) it

-- The calls: each answers of an image that opens, and passes on the opening's number of any other

module _ (img : List ℕ) (opens : verdict img ≡ 0) where
  pub opened-lookup : (frame : ℕ) (name : List ℕ) → lookup img frame name ≡ lookup_in (entries_of img) (names_of img) frame name
  unfolding lookup
  opened-lookup frame name = rw (opens, lookup)

  pub opened-entry : (i : ℕ) → i < length (entries_of img) → nth_entry img i ≡ Ok (get_or (entries_of img) i none)
  unfolding nth_entry
  opened-entry i l = rw (opens, lt-ltb i (length (entries_of img)) l, nth_entry)

  pub opened-no-entry : (i : ℕ) → length (entries_of img) ≤ i → nth_entry img i ≡ Err 44
  unfolding nth_entry
  opened-no-entry i l = rw (opens, le-ltb i (length (entries_of img)) l, nth_entry)

  pub opened-name : (i : ℕ) → i < length (name_parts img) → nth_name img i ≡ Ok (get_or (name_parts img) i nowhere)
  unfolding nth_name
  opened-name i l = rw (opens, lt-ltb i (length (name_parts img)) l, nth_name)

  pub opened-no-name : (i : ℕ) → length (name_parts img) ≤ i → nth_name img i ≡ Err 44
  unfolding nth_name
  opened-no-name i l = rw (opens, le-ltb i (length (name_parts img)) l, nth_name)

  pub opened-place : (frame : ℕ) (name : List ℕ) → chunk_place img frame name ≡ placed (lookup_in (entries_of img) (names_of img) frame name)
  unfolding chunk_place
  opened-place frame name = ap placed (opened-lookup frame name)

  pub opened-element : (frame : ℕ) (name : List ℕ) (k : ℕ) (e : Entry) →
      lookup_in (entries_of img) (names_of img) frame name ≡ Ok e → element img frame name k ≡ element_in img e k
  unfolding element
  opened-element frame name k e h = rw (opened-lookup frame name, h, element)

  pub opened-no-element : (frame : ℕ) (name : List ℕ) (k n : ℕ) →
      lookup_in (entries_of img) (names_of img) frame name ≡ Err n → element img frame name k ≡ Err n
  unfolding element
  opened-no-element frame name k n h = rw (opened-lookup frame name, h, element)

module _ (img : List ℕ) (number : ℕ) (refused : verdict img ≡ suc number) where
  pub refused-lookup : (frame : ℕ) (name : List ℕ) → lookup img frame name ≡ Err (suc number)
  unfolding lookup
  refused-lookup frame name = rw (refused, lookup)

  pub refused-entry : (i : ℕ) → nth_entry img i ≡ Err (suc number)
  unfolding nth_entry
  refused-entry i = rw (refused, nth_entry)

  pub refused-name : (i : ℕ) → nth_name img i ≡ Err (suc number)
  unfolding nth_name
  refused-name i = rw (refused, nth_name)

  pub refused-place : (frame : ℕ) (name : List ℕ) → chunk_place img frame name ≡ Err (suc number)
  unfolding chunk_place placed
  refused-place frame name = ap placed (refused-lookup frame name)

  pub refused-element : (frame : ℕ) (name : List ℕ) (k : ℕ) → element img frame name k ≡ Err (suc number)
  unfolding element
  refused-element frame name k = rw (refused-lookup frame name, element)

-- only an image that opens finds anything
pub found-opens : (img : List ℕ) (frame : ℕ) (name : List ℕ) (e : Entry) → lookup img frame name ≡ Ok e → verdict img ≡ 0
found-opens img frame name e h = go (verdict img) refl
  where
    go : (n : ℕ) → verdict img ≡ n → verdict img ≡ 0
    go zero v = v
    go (suc n) v = let z : ◌≡◌ {A = ℕ} 0 1 = cc (refused-lookup img n v frame name) in absurd (omega arith)
