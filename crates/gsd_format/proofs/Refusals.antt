-- Laws of refusals: a chain refuses nothing exactly when none of its tests does.
use Prim.Native.Nat.{ℕ, zero, suc, ◌≤◌, ◌<◌}
use mathlib.Core.Path.{◌≡◌, refl, sym, ◌∙◌, ap}
use mathlib.Core.Bool.{Bool, true, false, not, true≢false, ◌&&◌, ◌||◌}
use mathlib.Core.List.{List, [], ◌∷◌}
use lib.ListN.{get_or}
use native.Mathlib.Decide.{dec_lt}
use native.Mathlib.Omega.{arith}
use lib.Dec.{ltb, eqb}
use borrow.Author.Tests.{ltb-false, eqb-true, not-false, lt-ltb, le-ltb, eq-eqb, ne_eqb}
use Rattle.std.specs.Prelude.{Result, Ok, Err, IsErrAnd}
use Rattle.gsd_format.specs.declared.refusal.Refusal.{Refusal}
use Rattle.gsd_format.specs.Answers.{number_of, numbered, refusal_number, refused}
use Rattle.gsd_format.specs.Refusals.{◌⇒◌, ◌▹◌, accepted}

pub both : (a b : ℕ) → a ▹ b ≡ 0 → (a ≡ 0) × (b ≡ 0)
unfolding ◌▹◌
both zero b h = (refl, h)
both (suc a) b h = absurd (omega (arith, h))

pub none_of : (a b : ℕ) → a ≡ 0 → b ≡ 0 → a ▹ b ≡ 0
unfolding ◌▹◌
none_of zero b h g = g
none_of (suc a) b h g = h

pub first_of : (a b : ℕ) → a ≡ 0 → a ▹ b ≡ b
unfolding ◌▹◌
first_of zero b h = refl
first_of (suc a) b h = absurd (omega (arith, h))

pub last_of : (a b : ℕ) → b ≡ 0 → a ▹ b ≡ a
unfolding ◌▹◌
last_of zero b h = h
last_of (suc a) b h = refl

pub stays : (a b : ℕ) → (a ≡ 0 → ⊥) → a ▹ b ≡ a
unfolding ◌▹◌
stays zero b h = absurd (h refl)
stays (suc a) b h = refl

-- the first of three, whichever two are asked first
pub ▹-assoc : (a b c : ℕ) → (a ▹ b) ▹ c ≡ a ▹ b ▹ c
unfolding ◌▹◌
▹-assoc zero b c = refl
▹-assoc (suc a) b c = refl

-- a test refuses nothing exactly when it does not hold
pub unmet : (t : Bool) (n : ℕ) → t ⇒ suc n ≡ 0 → t ≡ false
unfolding ◌⇒◌
unmet true n h = absurd (omega (arith, h))
unmet false n h = refl

pub passed : (t : Bool) (n : ℕ) → t ≡ false → t ⇒ n ≡ 0
unfolding ◌⇒◌
passed true n h = absurd (true≢false h)
passed false n h = refl

pub met : (t : Bool) (n : ℕ) → t ≡ true → t ⇒ n ≡ n
unfolding ◌⇒◌
met true n h = refl
met false n h = absurd (true≢false (sym h))

-- the first test that holds decides
pub decides : (t : Bool) (n b : ℕ) → t ≡ true → (t ⇒ suc n) ▹ b ≡ suc n
decides t n b h = rw (met t (suc n) h) (stays (suc n) b (λ z. omega (arith, z)))

pub goes_on : (t : Bool) (n b : ℕ) → t ≡ false → (t ⇒ n) ▹ b ≡ b
goes_on t n b h = first_of (t ⇒ n) b (passed t n h)

-- a chain gives no number above k where none of its tests does
pub first-most : (k a b : ℕ) → a ≤ k → b ≤ k → (a ▹ b) ≤ k
unfolding ◌▹◌
first-most k zero b h g = g
first-most k (suc a) b h g = h

pub test-most : (k : ℕ) (t : Bool) (n : ℕ) → n ≤ k → (t ⇒ n) ≤ k
unfolding ◌⇒◌
test-most k true n h = h
test-most k false n h = omega arith

-- a chain doesn't give n where none of its tests does
pub first-not : (n a b : ℕ) → (a ≡ n → ⊥) → (b ≡ n → ⊥) → a ▹ b ≡ n → ⊥
unfolding ◌▹◌
first-not n zero b h g e = g e
first-not n (suc a) b h g e = h e

pub test-not : (n : ℕ) (t : Bool) (k : ℕ) → 0 < n → (k ≡ n → ⊥) → t ⇒ k ≡ n → ⊥
unfolding ◌⇒◌
test-not n true k p h e = h e
test-not n false k p h e = omega (arith, e)

pub neither : (a b : Bool) → (a || b) ≡ false → (a ≡ false) × (b ≡ false)
neither true b h = absurd (true≢false h)
neither false b h = (refl, h)

pub neither-of : (a b : Bool) → a ≡ false → b ≡ false → (a || b) ≡ false
neither-of true b h g = h
neither-of false b h g = g

pub left-holds : (a b : Bool) → a ≡ true → (a || b) ≡ true
left-holds true b h = refl
left-holds false b h = absurd (true≢false (sym h))

pub right-holds : (a b : Bool) → b ≡ true → (a || b) ≡ true
right-holds true b h = refl
right-holds false b h = h

pub right-decides : (a b : Bool) → a ≡ false → (a || b) ≡ b
right-decides true b h = absurd (true≢false h)
right-decides false b h = refl

-- one of two that is not the first is the second
pub second-of : (x a b : ℕ) → (eqb x a || eqb x b) ≡ true → (x ≡ a → ⊥) → x ≡ b
second-of x a b h n = eqb-true x b (sym (right-decides (eqb x a) (eqb x b) (ne_eqb x a n)) ∙ h)

pub both_true : (a b : Bool) → (a && b) ≡ true → (a ≡ true) × (b ≡ true)
both_true true b h = (refl, h)
both_true false b h = absurd (true≢false (sym h))

pub both_of : (a b : Bool) → a ≡ true → b ≡ true → (a && b) ≡ true
both_of true b h g = g
both_of false b h g = h

pub not-of : (t : Bool) → t ≡ true → not t ≡ false
not-of true h = refl
not-of false h = absurd (true≢false (sym h))

-- the same for the commonest tests
pub not-less : (a b n : ℕ) → ltb a b ⇒ suc n ≡ 0 → b ≤ a
not-less a b n h = ltb-false a b (unmet (ltb a b) n h)

pub less-no : (a b n : ℕ) → b ≤ a → ltb a b ⇒ n ≡ 0
less-no a b n h = passed (ltb a b) n (le-ltb a b h)

pub no-differ : (a b n : ℕ) → not (eqb a b) ⇒ suc n ≡ 0 → a ≡ b
no-differ a b n h = eqb-true a b (not-false (eqb a b) (unmet (not (eqb a b)) n h))

pub differ-no : (a b n : ℕ) → a ≡ b → not (eqb a b) ⇒ n ≡ 0
differ-no a b n h = passed (not (eqb a b)) n (not-of (eqb a b) (eq-eqb a b h))

-- what a number of which no refusal, or a refusal, is known leaves of lent bytes
pub not-accepted : (number n : ℕ) (new old : List ℕ) → number ≡ n → (number ≡ 0 → ⊥) → old ≡ accepted n new old
unfolding accepted
not-accepted number zero new old e h = absurd (h e)
not-accepted number (suc n) new old e h = refl

pub was-accepted : (n : ℕ) (new old after : List ℕ) → 0 ≡ n → after ≡ new → after ≡ accepted n new old
unfolding accepted
was-accepted zero new old after e h = h
was-accepted (suc n) new old after e h = absurd (omega (arith, e))

-- two comparisons that mean the same answer the same
pub same_test : (a b c d : ℕ) → (a < b → c < d) → (c < d → a < b) → ltb a b ≡ ltb c d
same_test a b c d f g = go (dec_lt a b) (dec_lt c d)
  where
    go : Dec (a < b) → Dec (c < d) → ltb a b ≡ ltb c d
    go (yes h) k = lt-ltb a b h ∙ sym (lt-ltb c d (f h))
    go (no h) (yes k) = absurd (h (g k))
    go (no h) (no k) = le-ltb a b (omega arith) ∙ sym (le-ltb c d (omega arith))

-- No refusal has the number 0, which stands for none
pub refusal-some : (r : Refusal) → 0 < refusal_number r
refusal-some Refusal.ShortImage = omega arith
refusal-some Refusal.LongImage = omega arith
refusal-some Refusal.WrongMagic = omega arith
refusal-some Refusal.WrongVersion = omega arith
refusal-some Refusal.UnclosedText = omega arith
refusal-some Refusal.IndexOutside = omega arith
refusal-some Refusal.NamesOutside = omega arith
refusal-some Refusal.BlocksOverlap = omega arith
refusal-some Refusal.UnclosedName = omega arith
refusal-some Refusal.ManyNames = omega arith
refusal-some Refusal.EqualNames = omega arith
refusal-some Refusal.LowLocation = omega arith
refusal-some Refusal.UnknownType = omega arith
refusal-some Refusal.UnknownId = omega arith
refusal-some Refusal.FrameOrder = omega arith
refusal-some Refusal.ChunkOutside = omega arith
refusal-some Refusal.ChunkInBlock = omega arith
refusal-some Refusal.LargeFrame = omega arith
refusal-some Refusal.OldImage = omega arith
refusal-some Refusal.UnalignedBlock = omega arith
refusal-some Refusal.RowCount = omega arith
refusal-some Refusal.ShortTable = omega arith
refusal-some Refusal.BadRow = omega arith
refusal-some Refusal.SheetLength = omega arith
refusal-some Refusal.ZeroInName = omega arith
refusal-some Refusal.NameTwice = omega arith
refusal-some Refusal.NamesFull = omega arith
refusal-some Refusal.NoRoom = omega arith
refusal-some Refusal.NanInSheet = omega arith
refusal-some Refusal.FramesFull = omega arith
refusal-some Refusal.NotExpected = omega arith
refusal-some Refusal.NotFitting = omega arith
refusal-some Refusal.NoFrame = omega arith
refusal-some Refusal.NoName = omega arith
refusal-some Refusal.NoChunk = omega arith
refusal-some Refusal.NoElement = omega arith
refusal-some Refusal.NoNth = omega arith
refusal-some Refusal.LargeBlock = omega arith
refusal-some Refusal.BadText = omega arith
refusal-some Refusal.ShortForBlocks = omega arith
refusal-some Refusal.NotFloats = omega arith
refusal-some Refusal.NoRows = omega arith
refusal-some Refusal.NanInChunk = omega arith
refusal-some Refusal.NotFinite = omega arith
refusal-some Refusal.FileLength = omega arith
refusal-some Refusal.RawArrayShort = omega arith
refusal-some Refusal.RawArrayMagic = omega arith
refusal-some Refusal.RawArrayFlags = omega arith
refusal-some Refusal.RawArrayType = omega arith
refusal-some Refusal.RawArrayDimensions = omega arith
refusal-some Refusal.RawArrayData = omega arith
refusal-some Refusal.RawArrayColumns = omega arith
refusal-some Refusal.RawArrayLength = omega arith
refusal-some Refusal.RawArrayName = omega arith
refusal-some Refusal.RawArraySheet = omega arith

-- a chain's first refusal is the chain's
pub first-refused : (r : Refusal) (a b : ℕ) → refusal_number r ≡ a → refusal_number r ≡ a ▹ b
unfolding ◌▹◌
first-refused r zero b h = absurd (omega (arith, h, refusal-some r))
first-refused r (suc a) b h = h

-- a refusal that a `?` passes on keeps its number
pub kept : {A : Type 0} (r : Result A Refusal) (why : Refusal) → IsErrAnd r (λ e. e ≡ why) → refused r ≡ refusal_number why
kept (Ok x) why h = absurd h
kept (Err e) why h = ap refusal_number h

-- the refusal of a number
named : List Refusal
named =
    Refusal.ShortImage ∷ Refusal.ShortImage ∷ Refusal.LongImage ∷ Refusal.WrongMagic ∷ Refusal.WrongVersion ∷
    Refusal.UnclosedText ∷ Refusal.IndexOutside ∷ Refusal.NamesOutside ∷ Refusal.BlocksOverlap ∷ Refusal.UnclosedName ∷
    Refusal.ManyNames ∷ Refusal.EqualNames ∷ Refusal.LowLocation ∷ Refusal.UnknownType ∷ Refusal.UnknownId ∷
    Refusal.FrameOrder ∷ Refusal.ChunkOutside ∷ Refusal.ChunkInBlock ∷ Refusal.LargeFrame ∷ Refusal.ShortImage ∷
    Refusal.OldImage ∷ Refusal.UnalignedBlock ∷ Refusal.RowCount ∷ Refusal.ShortTable ∷ Refusal.BadRow ∷
    Refusal.SheetLength ∷ Refusal.ZeroInName ∷ Refusal.NameTwice ∷ Refusal.NamesFull ∷ Refusal.NoRoom ∷
    Refusal.NanInSheet ∷ Refusal.FramesFull ∷ Refusal.NotExpected ∷ Refusal.NotFitting ∷ Refusal.ShortImage ∷
    Refusal.ShortImage ∷ Refusal.ShortImage ∷ Refusal.ShortImage ∷ Refusal.ShortImage ∷ Refusal.ShortImage ∷
    Refusal.NoFrame ∷ Refusal.NoName ∷ Refusal.NoChunk ∷ Refusal.NoElement ∷ Refusal.NoNth ∷
    Refusal.ShortImage ∷ Refusal.ShortImage ∷ Refusal.ShortImage ∷ Refusal.ShortImage ∷ Refusal.ShortImage ∷
    Refusal.LargeBlock ∷ Refusal.BadText ∷ Refusal.ShortForBlocks ∷ Refusal.ShortImage ∷ Refusal.ShortImage ∷
    Refusal.ShortImage ∷ Refusal.ShortImage ∷ Refusal.ShortImage ∷ Refusal.ShortImage ∷ Refusal.ShortImage ∷
    Refusal.NotFloats ∷ Refusal.NoRows ∷ Refusal.NanInChunk ∷ Refusal.NotFinite ∷ Refusal.FileLength ∷
    Refusal.ShortImage ∷ Refusal.ShortImage ∷ Refusal.ShortImage ∷ Refusal.ShortImage ∷ Refusal.ShortImage ∷
    Refusal.RawArrayShort ∷ Refusal.RawArrayMagic ∷ Refusal.RawArrayFlags ∷ Refusal.RawArrayType ∷ Refusal.RawArrayDimensions ∷
    Refusal.RawArrayData ∷ Refusal.RawArrayColumns ∷ Refusal.RawArrayLength ∷ Refusal.RawArrayName ∷ Refusal.RawArraySheet ∷ []

named-again : (r : Refusal) → get_or named (refusal_number r) Refusal.ShortImage ≡ r
unfolding named
named-again Refusal.ShortImage = refl
named-again Refusal.LongImage = refl
named-again Refusal.WrongMagic = refl
named-again Refusal.WrongVersion = refl
named-again Refusal.UnclosedText = refl
named-again Refusal.IndexOutside = refl
named-again Refusal.NamesOutside = refl
named-again Refusal.BlocksOverlap = refl
named-again Refusal.UnclosedName = refl
named-again Refusal.ManyNames = refl
named-again Refusal.EqualNames = refl
named-again Refusal.LowLocation = refl
named-again Refusal.UnknownType = refl
named-again Refusal.UnknownId = refl
named-again Refusal.FrameOrder = refl
named-again Refusal.ChunkOutside = refl
named-again Refusal.ChunkInBlock = refl
named-again Refusal.LargeFrame = refl
named-again Refusal.OldImage = refl
named-again Refusal.UnalignedBlock = refl
named-again Refusal.RowCount = refl
named-again Refusal.ShortTable = refl
named-again Refusal.BadRow = refl
named-again Refusal.SheetLength = refl
named-again Refusal.ZeroInName = refl
named-again Refusal.NameTwice = refl
named-again Refusal.NamesFull = refl
named-again Refusal.NoRoom = refl
named-again Refusal.NanInSheet = refl
named-again Refusal.FramesFull = refl
named-again Refusal.NotExpected = refl
named-again Refusal.NotFitting = refl
named-again Refusal.NoFrame = refl
named-again Refusal.NoName = refl
named-again Refusal.NoChunk = refl
named-again Refusal.NoElement = refl
named-again Refusal.NoNth = refl
named-again Refusal.LargeBlock = refl
named-again Refusal.BadText = refl
named-again Refusal.ShortForBlocks = refl
named-again Refusal.NotFloats = refl
named-again Refusal.NoRows = refl
named-again Refusal.NanInChunk = refl
named-again Refusal.NotFinite = refl
named-again Refusal.FileLength = refl
named-again Refusal.RawArrayShort = refl
named-again Refusal.RawArrayMagic = refl
named-again Refusal.RawArrayFlags = refl
named-again Refusal.RawArrayType = refl
named-again Refusal.RawArrayDimensions = refl
named-again Refusal.RawArrayData = refl
named-again Refusal.RawArrayColumns = refl
named-again Refusal.RawArrayLength = refl
named-again Refusal.RawArrayName = refl
named-again Refusal.RawArraySheet = refl

-- no two have one number, so an answer is known by `numbered`
pub refusal-one : (r s : Refusal) → refusal_number r ≡ refusal_number s → r ≡ s
refusal-one r s e = sym (named-again r) ∙ ap (λ n. get_or named n Refusal.ShortImage) e ∙ named-again s

pub numbered-one : {A : Type 0} (a b : Result A Refusal) → numbered a ≡ numbered b → a ≡ b
numbered-one (Ok x) (Ok y) e = cc
numbered-one (Ok x) (Err s) e = absurd (cc)
numbered-one (Err r) (Ok y) e = absurd (cc)
numbered-one {A} (Err r) (Err s) e = ap Err (refusal-one r s (ap number_of e))
