-- What was read of the bytes that the source had left, and what follows from it.
use Rattle.std.specs.Prelude.{◌≡◌, ◌≤◌, ◌⊎◌, ℕ, List, [], ◌++◌, length, Option, None, Some, Ok, Err, IfSome, MatchOption}
use Rattle.std.specs.Io.KnownBytes.{IsAtEnd}
use Rattle.outside.specs.Faults.{Rose}
use Rattle.cut_definitions.specs.Graph.{Graph}
use Rattle.metis_reader.specs.declared.fault.Fault.{Fault}
use Rattle.metis_reader.specs.File.{graph_of, masses_of, fixed}
use Rattle.metis_reader.specs.Fed.{HeaderEndsIn}
use Rattle.stop_lines.specs.declared.stop.Stop.{Stop}
use Rattle.stop_lines.specs.declared.stop.Stop.TheVariants.{BadWords, Refused, ReadFailed, NoMemory, BadVertex, TooLarge, TooManyUnions, CountTooLarge, BalanceTooLarge, GrowTooLarge}
use Rattle.program_words.specs.declared.command.Command.{Command}
use Rattle.program_words.specs.declared.command.Job.{Job}
use Rattle.program_words.specs.declared.command.Job.TheVariants.{Trial}
use Rattle.program_words.specs.Words.{command_of, ReadsGraph, AsksNothing}
use Rattle.job_replies.specs.Jobs.{IsAnswerOf, IsStopFor}
use Rattle.job_replies.specs.Trials.{IsTrialText}
use Rattle.program_words.specs.Notices.{notice_of, text_of}

-- these bytes were read of those that were left, if the source tells which these are
abbrev pub IsRead : Option (List ℕ) → Option (List ℕ) → List ℕ → Type 0
IsRead before now bytes = IfSome before (λ all. (rest : List ℕ) × (now ≡ Some rest) × (all ≡ bytes ++ rest))

-- the greatest length of one read
abbrev pub IsOneRead : List ℕ → Type 0
IsOneRead piece = length piece ≤ 65536

-- the last read fixes the fault: what was read before it fixes none
pub record IsFixedLast (bytes : List ℕ) (fault : Fault) : Type 0 where
  pub earlier : List ℕ
  pub piece : List ℕ
  pub one : IsOneRead piece
  pub parts : bytes ≡ earlier ++ piece
  pub none : fixed earlier ≡ None
  pub fault_fixed : fixed bytes ≡ Some fault

-- what was read fixes the fault with its last read, or it is all there was, and this is its first fault
pub record IsRefused (before now : Option (List ℕ)) (fault : Fault) : Type 0 where
  pub bytes : List ℕ
  pub read : IsRead before now bytes
  pub why : IsFixedLast bytes fault ⊎ (IsAtEnd now × (graph_of bytes ≡ Err fault))

-- what was read fixes no fault
pub record IsUnrefused (before now : Option (List ℕ)) : Type 0 where
  pub bytes : List ℕ
  pub read : IsRead before now bytes
  pub none : fixed bytes ≡ None

-- the last read has the end of the header
pub record IsAtHeader (before now : Option (List ℕ)) : Type 0 where
  pub bytes : List ℕ
  pub piece : List ℕ
  pub one : IsOneRead piece
  pub read : IsRead before now (bytes ++ piece)
  pub header : HeaderEndsIn bytes piece

-- where memory can run out: before anything is read, at the read that has the end of the header, and once all was read
abbrev pub IsMemoryPlace : Option (List ℕ) → Option (List ℕ) → Type 0
IsMemoryPlace before now = IsRead before now [] ⊎ (IsAtHeader before now ⊎ IsAtEnd now)

-- the job of the words has no text for the graph of the bytes
pub record IsStopped (words : List (List ℕ)) (bytes : List ℕ) (stop : Stop) : Type 0 where
  pub command : Command
  pub commanded : command_of words ≡ Some command
  pub graph : Graph
  pub accepted : graph_of bytes ≡ Ok graph
  pub why : IsStopFor command (masses_of bytes) graph stop

-- the words ask for a job that reads a graph, all was read, and the job has no text for this graph
abbrev pub IsJobStop : List (List ℕ) → Option (List ℕ) → Option (List ℕ) → ℕ → ℕ → Stop → Type 0
IsJobStop words before now m n stop = ReadsGraph words × (n ≡ m) × IsAtEnd now × IfSome before (λ bytes. IsStopped words bytes stop)

-- why there is no reply: by the words, by the bytes that the source had left before and has left now, and by its
-- counts of faults
abbrev pub IsCause : List (List ℕ) → Option (List ℕ) → Option (List ℕ) → ℕ → ℕ → Stop → Type 0
IsCause words before now m n BadWords = AsksNothing words
IsCause words before now m n (Refused fault) = ReadsGraph words × (n ≡ m) × IsRefused before now fault
IsCause words before now m n ReadFailed = ReadsGraph words × Rose m n × IsUnrefused before now
IsCause words before now m n NoMemory = (n ≡ m) × IsMemoryPlace before now
IsCause words before now m n (BadVertex x k) = IsJobStop words before now m n (BadVertex x k)
IsCause words before now m n (TooLarge cuts k) = IsJobStop words before now m n (TooLarge cuts k)
IsCause words before now m n (TooManyUnions components k) = IsJobStop words before now m n (TooManyUnions components k)
IsCause words before now m n (CountTooLarge components) = IsJobStop words before now m n (CountTooLarge components)
IsCause words before now m n (BalanceTooLarge components total) = IsJobStop words before now m n (BalanceTooLarge components total)
IsCause words before now m n (GrowTooLarge number) = IsJobStop words before now m n (GrowTooLarge number)

-- the text is the reply of the command for the graph and the masses of the bytes
pub record IsJobAnswer (command : Command) (bytes text : List ℕ) : Type 0 where
  pub graph : Graph
  pub accepted : graph_of bytes ≡ Ok graph
  pub answer : IsAnswerOf command (masses_of bytes) graph text

-- the text is the reply of a job: that of a trial for the graph that it makes, whatever the source has left, and that of any other
-- job for the bytes that the source had left
abbrev pub RepliesAs : Job → Command → Option (List ℕ) → List ℕ → Type 0
RepliesAs (Trial number) command left text = IsTrialText number text
RepliesAs _ command left text = IfSome left (λ bytes. IsJobAnswer command bytes text)

abbrev pub IsJobReply : Command → Option (List ℕ) → List ℕ → Type 0
IsJobReply command left text = RepliesAs command.job command left text

-- the text is the reply of the job of the words
pub record IsAnswer (words : List (List ℕ)) (left : Option (List ℕ)) (text : List ℕ) : Type 0 where
  pub command : Command
  pub commanded : command_of words ≡ Some command
  pub answer : IsJobReply command left text

-- the text is that of the notice that the words ask for, or that of their job if they ask for none
abbrev pub IsReply : List (List ℕ) → Option (List ℕ) → List ℕ → Type 0
IsReply words left text = MatchOption (notice_of words) (IsAnswer words left text) (λ notice. text ≡ text_of notice)
