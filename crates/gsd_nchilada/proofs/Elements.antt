-- A file that was written has the extremes and the data that the element call reads.
use Rattle.std.specs.Prelude.{Result, Ok, Err}
use Prim.Native.Nat.{ℕ, ◌+◌, ◌*◌, ◌^◌, ◌<◌}
use mathlib.Core.Path.{◌≡◌, refl, sym, ◌∙◌, ap}
use mathlib.Core.Bool.{Bool, true, false}
use mathlib.Core.List.{List, ◌++◌}
use native.Mathlib.Nat.{zero-add, add-mul}
use native.Mathlib.Decide.{ℕ_discrete}
use native.Mathlib.Omega.{arith}
use lib.ListN.{length, get_or, length-append}
use lib.Ieee.{Float, of_bits, to_bits, is_nan, top}
use lib.Ieee.Bits.{to_bits-of_bits}
use Rattle.gsd_format.specs.declared.Entry.{Entry}
use Rattle.gsd_format.specs.Types.{size_of}
use Rattle.gsd_format.specs.Lookup.{lookup}
use Rattle.gsd_format.specs.Elements.{element_of, nan_element, element}
use Rattle.gsd_format.specs.Answers.{number_values}
use Rattle.gsd_format.specs.Calls.{bits_of}
use Rattle.gsd_format.proofs.Bytes.{Octets, Text, le-bound}
use Rattle.gsd_format.proofs.Texts.{text-front}
use Rattle.gsd_format.proofs.Elements.{element-single, element-double, element-at, nan-single, nan-double}
use Rattle.gsd_format.proofs.Calls.{lookup-never-0}
use Rattle.gsd_read.proofs.Lookups.{found-held, element-found}
use Rattle.gsd_columns.specs.Columns.{format_of, column, less, more, extreme, Foremost}
use Rattle.gsd_columns.proofs.Extremes.{Orders, less-orders, more-orders, extreme-first}
use Rattle.gsd_columns.proofs.Columns.{cell-within, no_nan, column-number}
use Rattle.gsd_xdr.specs.Xdr.{be, be_row, numbers}
use Rattle.gsd_xdr.proofs.Xdr.{row-length, row-be, text-behind}
use Rattle.gsd_nchilada.specs.File.{time_of, head_of, file_of}
use Rattle.gsd_body.specs.Body.{extreme_bits, body_of}
use Rattle.gsd_nchilada.specs.Request.{floating, file_test, nchilada_number, nchilada_file}
use Rattle.gsd_nchilada.specs.Ready.{Ready}
use Rattle.gsd_nchilada.specs.Elements.{bits_in, float_in, Extreme, cell, behind_head, Stands}
use Rattle.gsd_nchilada.proofs.Files.{head-length}
use Rattle.gsd_body.proofs.Bodies.{second-of}
use Rattle.gsd_nchilada.proofs.Requests.{is-ready, was-accepted, of-found, of-refused}

-- What the two types have in common

record Floats (kind : ℕ) : Type 0 where
  pub wide : 256 ^ size_of kind ≡ 2 * top (format_of kind)
  pub said : (bits : ℕ) → nan_element kind bits ≡ is_nan (of_bits (format_of kind) bits)
  pub bits : (b : ℕ) → bits_in (Ok (element_of kind b)) ≡ b
  pub value : (b : ℕ) → float_in (Ok (element_of kind b)) ≡ of_bits (format_of kind) b

singles : Floats 9
unfolding size_of number_values float_in
singles = record { wide = refl; said = nan-single; bits = λ b. ap (λ e. bits_in (Ok e)) (element-single b); value = λ b. ap (λ e. float_in (Ok e)) (element-single b) }

doubles : Floats 10
unfolding size_of number_values float_in
doubles = record { wide = refl; said = nan-double; bits = λ b. ap (λ e. bits_in (Ok e)) (element-double b); value = λ b. ap (λ e. float_in (Ok e)) (element-double b) }

floats : (kind : ℕ) → floating kind ≡ true → Floats kind
floats kind h = go (ℕ_discrete kind 9)
  where
    go : Dec (kind ≡ 9) → Floats kind
    go (yes e) = rw e singles
    go (no n) = rw (second-of kind 9 10 h n) doubles

-- An entry that was found and is ready

module _ (img : List ℕ) (octets : Octets img) (frame : ℕ) (name : List ℕ) (e : Entry) (found : lookup img frame name ≡ Ok e)
    (step : Float) (room : ℕ) (ready : Ready img e room) where
  abbrev size : ℕ
  size = size_of e.kind

  kind : Floats e.kind
  kind = floats e.kind ready.typed

  -- its elements
  module _ (k : ℕ) (l : k < e.n * e.m) where
    element-is : element img frame name k ≡ Ok (element_of e.kind (bits_of img e k))
    element-is = element-found img frame name k e found ∙ element-at img e k l

    bits_are : bits_in (element img frame name k) ≡ bits_of img e k
    bits_are = ap bits_in element-is ∙ kind.bits (bits_of img e k)

    float_is : float_in (element img frame name k) ≡ of_bits (format_of e.kind) (bits_of img e k)
    float_is = ap float_in element-is ∙ kind.value (bits_of img e k)

  short : (k : ℕ) → bits_of img e k < 256 ^ size
  short k = le-bound size img (e.location + k * size) octets

  -- an extreme, by the row that has it
  module _ (before : Float → Float → Bool) (orders : Orders before) (c : ℕ) (l : c < e.m) where
    abbrev values : ℕ → Float
    values = column e.kind img e.location e.m c

    number : (i : ℕ) → i < e.n → is_nan (values i) ≡ false
    number = column-number e.kind kind.said img e.location e.m e.n c l ready.numbers

    foremost-is : Foremost before values e.n (extreme before values e.n)
    foremost-is = extreme-first before orders values e.n ready.some number

    abbrev row : ℕ
    row = foremost-is.place

    -- its bits are the element's
    same_bits : extreme_bits before e.kind img e.location e.m e.n c ≡ bits_of img e (row * e.m + c)
    same_bits =
        let bits : bits_of img e (row * e.m + c) < 2 * top (format_of e.kind) = rw kind.wide at (short (row * e.m + c)) in
        ap (to_bits (format_of e.kind)) foremost-is.there
        ∙ to_bits-of_bits (format_of e.kind) _ bits (no_nan (values row) (number row foremost-is.within))

    -- so are the floats of its column
    float-in : (i : ℕ) → i < e.n → float_in (cell img frame name e.m c i) ≡ values i
    float-in i h = float_is (i * e.m + c) (cell-within e.n e.m i c l h)

    extreme-is : (bits : ℕ) → bits ≡ extreme_bits before e.kind img e.location e.m e.n c → Extreme before (cell img frame name e.m c) e.n bits
    extreme-is bits b =
        let best : float_in (cell img frame name e.m c row) ≡ extreme before values e.n = float-in row foremost-is.within ∙ sym foremost-is.there in
        record {
          row = row;
          within = foremost-is.within;
          there = bits_are (row * e.m + c) (cell-within e.n e.m row c l foremost-is.within) ∙ sym (b ∙ same_bits);
          none = λ i h. (λ t. before (float-in i h t) (best t)) ∙ foremost-is.none i h;
          first = λ i h. (λ t. before (best t) (float-in i (omega (arith, foremost-is.within)) t)) ∙ foremost-is.first i h;
        }

  -- what stands in its file
  module _ (file : List ℕ) (is : file ≡ file_of img e step) where
    abbrev least : List ℕ
    least = be_row size (extreme_bits less e.kind img e.location e.m e.n) e.m

    abbrev most : List ℕ
    most = be_row size (extreme_bits more e.kind img e.location e.m e.n) e.m

    abbrev rest : List ℕ
    rest = be_row size (numbers size img e.location) (e.n * e.m)

    many : (before : Float → Float → Bool) → length (be_row size (extreme_bits before e.kind img e.location e.m e.n) e.m) ≡ e.m * size
    many before = row-length size (extreme_bits before e.kind img e.location e.m e.n) e.m

    body : Text file 28 (least ++ most ++ rest)
    unfolding body_of
    body =
        text-behind file 0 (head_of e (time_of e.frame step)) (least ++ most ++ rest) 28 (λ k l t. get_or (is t) (zero-add k t) 0)
        (sym (zero-add _ ∙ head-length e (time_of e.frame step)))

    most-text : Text file (28 + e.m * size) most
    most-text =
        text-behind file 28 least most (28 + e.m * size) (text-front file 28 (least ++ most) rest body) (ap (λ n. 28 + n) (sym (many less)))

    rest-text : Text file (28 + (e.m + e.m) * size) rest
    rest-text =
        text-behind file 28 (least ++ most) rest (28 + (e.m + e.m) * size) body
        (omega (arith, length-append least most, many less, many more, add-mul e.m e.m size))

    -- the i-th number of a row that stands j numbers behind the head
    number-there : (w : ℕ → ℕ) (n i j : ℕ) → i < n → w i < 256 ^ size → Text file (28 + j * size) (be_row size w n) → behind_head size file (j + i) ≡ w i
    number-there w n i j l b t =
        ap (be size file) (let f : 28 + (j + i) * size ≡ 28 + j * size + i * size = omega (arith, add-mul j i size) in f)
        ∙ row-be size w n i file (28 + j * size) l b t

    bound : (before : Float → Float → Bool) → Orders before → (c : ℕ) → c < e.m → extreme_bits before e.kind img e.location e.m e.n c < 256 ^ size
    bound before orders c l = rw (same_bits before orders c l) (short (row before orders c l * e.m + c))

    pub ready-stands : Stands img frame name file
    ready-stands = record {
      entry = e;
      found = found;
      smallest = λ c l. extreme-is less less-orders c l _
          (row-be size (extreme_bits less e.kind img e.location e.m e.n) e.m c file 28 l (bound less less-orders c l)
          (text-front file 28 least most (text-front file 28 (least ++ most) rest body)));
      largest = λ c l. extreme-is more more-orders c l _ (number-there _ e.m c e.m l (bound more more-orders c l) most-text);
      elements = λ k l. bits_are k l ∙ sym (number-there (numbers size img e.location) (e.n * e.m) k (e.m + e.m) l (short k) rest-text);
    }

-- what an accepted request has written
pub accepted-stands : (img : List ℕ) → Octets img → (frame : ℕ) (name : List ℕ) (step : Float) (file : List ℕ) →
    nchilada_number img frame name step (length file) ≡ 0 → Stands img frame name (nchilada_file img frame name step file)
accepted-stands img octets frame name step file h = go (lookup img frame name) refl
  where
    go : (r : Result Entry ℕ) → lookup img frame name ≡ r → Stands img frame name (nchilada_file img frame name step file)
    go (Ok e) q =
        let both = of-found img frame name step file e _ _ q refl refl in
        let passed : file_test img e step (length file) ≡ 0 = both.0 ∙ h in
        let is : nchilada_file img frame name step file ≡ file_of img e step =
        sym both.1 ∙ sym (was-accepted (file_test img e step (length file)) (file_of img e step) file (file_of img e step) (sym passed) refl) in
        ready-stands img octets frame name e q step (length file) (is-ready img e step (length file) (found-held img frame name e q) passed).0 _ is
    go (Err n) q = absurd (lookup-never-0 img frame name (q ∙ ap Err ((of-refused img frame name step file n q).0 ∙ h)))
