-- What the reader keeps of a reading.
use Rattle.std.specs.Prelude.{◌≡◌, ◌≢◌, ℕ, suc, List, ◌∷◌, ◌++◌}
use Rattle.metis_reader.specs.declared.fault.ReadRefusal.{ReadRefusal}
use Rattle.metis_reader.specs.declared.fault.ReadRefusal.TheVariants.{NoMemory, Fault}
use Rattle.metis_reader.specs.declared.line_part.LinePart.{LinePart}
use Rattle.metis_reader.specs.declared.parser.Parser.{Parser}
use Rattle.metis_reader.specs.declared.word.Word.{Word}
use Rattle.metis_reader.specs.Profile.{Finding}
use Rattle.metis_reader.specs.declared.line_part.LinePart.TheVariants.{Comment}
use Rattle.metis_reader.specs.Machine.{State}
use Rattle.metis_reader.specs.Reading.{Reading, word_end_state, reading_from}
use Rattle.metis_reader.specs.Ending.{TellsFirst}
use Rattle.metis_reader.specs.Words.{IsWord}
use Rattle.metis_reader.specs.Shown.{Shows, EndsHeader}

abbrev pub ParserShows : Parser → State → Type 0
ParserShows p s = Shows p.due p.header p.body s

pub record Holds (parser : Parser) (line : ℕ) (part : LinePart) (word : Word) (r : Reading) : Type 0 where
  pub state : ParserShows parser r.state
  pub same_line : line ≡ suc r.ended
  pub same_part : part ≡ r.part
  pub same_word : IsWord word r.word

-- a refusal by the first of these faults, or for want of memory, which may come only there
abbrev pub RefusedFirst : ReadRefusal → List Finding → Type 0 → Type 0
RefusedFirst NoMemory findings There = There
RefusedFirst (Fault f) findings There = TellsFirst f findings

abbrev pub ByteEndsHeader : Reading → ℕ → Type 0
ByteEndsHeader r b = (b ≡ 10) × (r.part ≢ Comment) × EndsHeader (word_end_state r.state r.word r.next)

pub record BytesEndHeader (r : Reading) (bytes : List ℕ) : Type 0 where
  pub before : List ℕ
  pub behind : List ℕ
  pub parts : bytes ≡ before ++ 10 ∷ behind
  pub ends : ByteEndsHeader (reading_from r before) 10
