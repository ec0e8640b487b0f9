-- What a reader stands for: the bytes that it was fed.
use Rattle.std.specs.Prelude.{◌≡◌, ◌≢◌, ◌^◌, ◌+◌, ℕ, List, [], ◌∷◌, ◌++◌, length, Option, None, Some}
use Rattle.std.specs.List.{filter}
use Rattle.metis_reader.specs.declared.fault.ReadRefusal.{ReadRefusal}
use Rattle.metis_reader.specs.declared.fault.ReadRefusal.TheVariants.{NoMemory, Fault}
use Rattle.metis_reader.specs.declared.reader.Reader.{Reader}
use Rattle.metis_reader.specs.Text.{lines}
use Rattle.metis_reader.specs.File.{is_kept, from_header, fixed}
use Rattle.metis_reader.specs.Reading.{start, bytes_findings, reading_from}
use Rattle.metis_reader.specs.Holding.{Holds}

-- the end of the header's line is among the bytes: there is a header before some line feed
pub record HasHeader (bytes : List ℕ) : Type 0 where
  pub before : List ℕ
  pub behind : List ℕ
  pub parts : bytes ≡ before ++ 10 ∷ behind
  pub header : from_header (filter is_kept (lines before)) ≢ []

-- these bytes were fed, and fix no fault
pub record IsOpen (reader : Reader) (bytes : List ℕ) : Type 0 where
  pub none : bytes_findings start bytes ≡ []
  pub holds : Holds reader.parser reader.line reader.part reader.word (reading_from start bytes)
  pub left : reader.left + length bytes ≡ 2 ^ 33

abbrev pub StandsBy : Option ReadRefusal → Reader → List ℕ → Type 0
StandsBy None reader bytes = IsOpen reader bytes
StandsBy (Some NoMemory) reader bytes = HasHeader bytes
StandsBy (Some (Fault f)) reader bytes = fixed bytes ≡ Some f

-- the reader was fed bytes such as these
unfoldable pub StandsFor : Reader → List ℕ → Type 0
StandsFor reader bytes = StandsBy reader.refusal reader bytes

-- the refusal that the reader returned, if any
unfoldable pub answered : Reader → Option ReadRefusal
answered reader = reader.refusal

-- the end of the header's line is in the second of two pieces
abbrev pub HeaderEndsIn : List ℕ → List ℕ → Type 0
HeaderEndsIn bytes piece = HasHeader (bytes ++ piece) × (HasHeader bytes → ⊥)

-- a refusal by the fault that both pieces fix, or for want of memory at the header's end
abbrev pub FedRefusal : ReadRefusal → List ℕ → List ℕ → Type 0
FedRefusal NoMemory bytes piece = HeaderEndsIn bytes piece
FedRefusal (Fault f) bytes piece = fixed (bytes ++ piece) ≡ Some f

-- how many more bytes the reader takes
unfoldable pub room_left : Reader → ℕ
room_left reader = reader.left

-- the bytes fix no fault, and the reader takes all up to 2^33
pub record IsStillFed (reader : Reader) (bytes : List ℕ) : Type 0 where
  pub none : fixed bytes ≡ None
  pub room : room_left reader + length bytes ≡ 2 ^ 33

-- a reader that has refused nothing is still fed
abbrev pub LawOfReader : Type 0
LawOfReader = (reader : Reader) (bytes : List ℕ) → StandsFor reader bytes → answered reader ≡ None → IsStillFed reader bytes
