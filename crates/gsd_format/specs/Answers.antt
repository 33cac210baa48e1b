-- Each answer's number in the format's table, 0 for no refusal, and the values it carries, as the C interface hands them out. An answer
-- that can be refused is a `Result` whose error is the number; code has a `Refusal` there, which has a number.
use Rattle.std.specs.Prelude.{ℕ, ◌-◌, ◌^◌, List, [], ◌∷◌, ℤ, pos, negsuc, Result, Ok, Err}
use Rattle.gsd_format.specs.declared.Entry.{Entry}
use Rattle.gsd_format.specs.declared.Part.{Part}
use Rattle.gsd_format.specs.declared.Counts.{Counts}
use Rattle.gsd_format.specs.declared.Reader.{Reader}
use Rattle.gsd_format.specs.declared.element.Number.{Number}
use Rattle.gsd_format.specs.declared.element.Element.{Element}
use Rattle.gsd_format.specs.declared.refusal.Refusal.{Refusal}

-- the number of an answer: 0, or that of its refusal
abbrev pub number_of : {A : Type 0} → Result A ℕ → ℕ
number_of (Ok x) = 0
number_of (Err n) = n

-- the number of a refusal, by its name
abbrev pub refusal_number : Refusal → ℕ
refusal_number Refusal.ShortImage = 1
refusal_number Refusal.LongImage = 2
refusal_number Refusal.WrongMagic = 3
refusal_number Refusal.WrongVersion = 4
refusal_number Refusal.UnclosedText = 5
refusal_number Refusal.IndexOutside = 6
refusal_number Refusal.NamesOutside = 7
refusal_number Refusal.BlocksOverlap = 8
refusal_number Refusal.UnclosedName = 9
refusal_number Refusal.ManyNames = 10
refusal_number Refusal.EqualNames = 11
refusal_number Refusal.LowLocation = 12
refusal_number Refusal.UnknownType = 13
refusal_number Refusal.UnknownId = 14
refusal_number Refusal.FrameOrder = 15
refusal_number Refusal.ChunkOutside = 16
refusal_number Refusal.ChunkInBlock = 17
refusal_number Refusal.LargeFrame = 18
refusal_number Refusal.OldImage = 20
refusal_number Refusal.UnalignedBlock = 21
refusal_number Refusal.RowCount = 22
refusal_number Refusal.ShortTable = 23
refusal_number Refusal.BadRow = 24
refusal_number Refusal.SheetLength = 25
refusal_number Refusal.ZeroInName = 26
refusal_number Refusal.NameTwice = 27
refusal_number Refusal.NamesFull = 28
refusal_number Refusal.NoRoom = 29
refusal_number Refusal.NanInSheet = 30
refusal_number Refusal.FramesFull = 31
refusal_number Refusal.NotExpected = 32
refusal_number Refusal.NotFitting = 33
refusal_number Refusal.NoFrame = 40
refusal_number Refusal.NoName = 41
refusal_number Refusal.NoChunk = 42
refusal_number Refusal.NoElement = 43
refusal_number Refusal.NoNth = 44
refusal_number Refusal.LargeBlock = 50
refusal_number Refusal.BadText = 51
refusal_number Refusal.ShortForBlocks = 52
refusal_number Refusal.NotFloats = 60
refusal_number Refusal.NoRows = 61
refusal_number Refusal.NanInChunk = 62
refusal_number Refusal.NotFinite = 63
refusal_number Refusal.FileLength = 64
refusal_number Refusal.RawArrayShort = 70
refusal_number Refusal.RawArrayMagic = 71
refusal_number Refusal.RawArrayFlags = 72
refusal_number Refusal.RawArrayType = 73
refusal_number Refusal.RawArrayDimensions = 74
refusal_number Refusal.RawArrayData = 75
refusal_number Refusal.RawArrayColumns = 76
refusal_number Refusal.RawArrayLength = 77
refusal_number Refusal.RawArrayName = 78
refusal_number Refusal.RawArraySheet = 79

-- an answer of the code with the refusal's number in its place
abbrev pub numbered : {A : Type 0} → Result A Refusal → Result A ℕ
numbered (Ok x) = Ok x
numbered (Err r) = Err (refusal_number r)

-- why the code refuses: the number, 0 where it does not
abbrev pub refused : {A : Type 0} → Result A Refusal → ℕ
refused (Ok x) = 0
refused (Err r) = refusal_number r

-- what an element answer says, the refusal among its cases
abbrev pub answer_of : Element → Result Number Refusal
answer_of (Element.Unsigned u) = Ok (Number.Unsigned u)
answer_of (Element.Signed z) = Ok (Number.Signed z)
answer_of (Element.Single x bits) = Ok (Number.Single x bits)
answer_of (Element.Double x bits) = Ok (Number.Double x bits)
answer_of (Element.Refused why) = Err why

-- the values of an answer; a refusal has none
abbrev pub values_of : {A : Type 0} → (A → List ℕ) → Result A ℕ → List ℕ
values_of values (Ok x) = values x
values_of values (Err n) = []

abbrev pub counts_values : Counts → List ℕ
counts_values c = c.frames ∷ c.names ∷ c.entries ∷ []

abbrev pub opening_values : Result Counts ℕ → List ℕ
opening_values = values_of counts_values

-- all 32 bytes of the entry
abbrev pub entry_values : Entry → List ℕ
entry_values e = e.frame ∷ e.n ∷ e.location ∷ e.m ∷ e.id ∷ e.kind ∷ e.flags ∷ []

abbrev pub listed_values : Result Entry ℕ → List ℕ
listed_values = values_of entry_values

abbrev pub part_values : Part → List ℕ
part_values p = p.start ∷ p.size ∷ []

abbrev pub place_values : Result Part ℕ → List ℕ
place_values = values_of part_values

-- a signed number's bits at 64, two's complement
unfoldable pub bits64 : ℤ → ℕ
bits64 (pos u) = u
bits64 (negsuc u) = 2 ^ 64 - 1 - u

-- which kind of number, 1 to 4, and its bits
unfoldable pub number_values : Number → List ℕ
number_values (Number.Unsigned u) = 1 ∷ u ∷ []
number_values (Number.Signed z) = 2 ∷ bits64 z ∷ []
number_values (Number.Single x bits) = 3 ∷ bits ∷ []
number_values (Number.Double x bits) = 4 ∷ bits ∷ []

abbrev pub element_values : Result Number ℕ → List ℕ
element_values = values_of number_values

-- a reader's eight words; the last one is spare
abbrev pub reader_words : Reader → List ℕ
reader_words r = r.frames ∷ r.names ∷ r.entries ∷ r.index ∷ r.namelist ∷ r.size ∷ r.version ∷ 0 ∷ []

abbrev pub reading_values : Result Reader ℕ → List ℕ
reading_values = values_of reader_words

abbrev pub ident_values : Result ℕ ℕ → List ℕ
ident_values = values_of (λ i. i ∷ [])
