-- The command that words ask for.
use Rattle.std.specs.Prelude.{◌≡◌, ◌≤◌, ◌&&◌, ◌==◌, ◌∷◌, ◌++◌, ℕ, ⊤, Bool, true, false, not, List, [], length, Option, Some, None, codes, if◌then◌else◌, nat_le, unwrap_or, map, option_map, String, string_bytes}
use Rattle.std.specs.declared.alloc.Global.{Global}
use Rattle.std.specs.Str.{bytes_eq}
use Rattle.clap.specs.Words.{Kinds, Row, Text, all_of, first_of, fault_of, matches_of}
use Rattle.program_words.specs.Insertions.{Insertion, AreInsertions}
use Rattle.program_words.specs.Line.{mincut}
use Rattle.program_words.specs.Notices.{notice_of}
use Rattle.program_words.specs.Numbers.{number_of}
use Rattle.program_words.specs.declared.command.Job.{Job}
use Rattle.program_words.specs.declared.command.Job.TheVariants as job
use Rattle.program_words.specs.declared.command.Command.{Command}

abbrev pub texts : List (String Global) → List Text
texts words = map (λ word. string_bytes word) words

-- a number from `least` to `most`
abbrev pub within : ℕ → ℕ → Option ℕ → Option ℕ
within least most None = None
within least most (Some n) = if nat_le least n && nat_le n most then Some n else None

abbrev pub workers_of : Text → Option ℕ
workers_of text = within 1 64 (number_of text)

-- the job of a name that has no further values
abbrev pub job_named : Text → Option Job
job_named name =
    if bytes_eq name (codes "value") then Some job.Value
    else (if bytes_eq name (codes "cactus") then Some job.Cactus
    else (if bytes_eq name (codes "cuts") then Some job.Cuts
    else (if bytes_eq name (codes "count") then Some job.Count
    else (if bytes_eq name (codes "balanced") then Some job.Balanced
    else (if bytes_eq name (codes "augment") then Some job.Augment else None)))))

-- the job of two numbers
abbrev pub part_of : Option ℕ → Option ℕ → Option Job
part_of (Some u) (Some v) = Some (job.Part u v)
part_of _ _ = None

-- the job of one number
abbrev pub trial_of : Option ℕ → Option Job
trial_of None = None
trial_of (Some number) = Some (job.Trial number)

-- an insertion of three numbers: the two vertices differ, and the weight is 1 or more
abbrev pub insertion_of : Option ℕ → Option ℕ → Option ℕ → Option Insertion
insertion_of (Some u) (Some v) (Some w) = if not (u == v) && nat_le 1 w then Some (u, v, w) else None
insertion_of _ _ _ = None

-- an insertion before others
abbrev pub before_all : Option Insertion → Option (List Insertion) → Option (List Insertion)
before_all (Some i) (Some is) = Some (i ∷ is)
before_all _ _ = None

-- insertions before others
abbrev pub after_all : List Insertion → Option (List Insertion) → Option (List Insertion)
after_all done rest = option_map (λ is. done ++ is) rest

-- the insertions of texts: three texts each
abbrev pub insertions_of : List Text → Option (List Insertion)
insertions_of [] = Some []
insertions_of (u ∷ []) = None
insertions_of (u ∷ v ∷ []) = None
insertions_of (u ∷ v ∷ w ∷ more) = before_all (insertion_of (number_of u) (number_of v) (number_of w)) (insertions_of more)

-- the job of 3 to 3,000 texts
abbrev pub grow_of : List Text → Option Job
grow_of texts = if nat_le (length texts) 3000 then option_map job.Grow (insertions_of texts) else None

-- the job of a name and three texts or more
abbrev pub long_job_of : Text → List Text → Option Job
long_job_of name texts = if bytes_eq name (codes "grow") then grow_of texts else None

-- the job of a name and its further values
abbrev pub job_of : Text → List Text → Option Job
job_of name [] = job_named name
job_of name (first ∷ []) = if bytes_eq name (codes "trial") then trial_of (within 12 100000 (number_of first)) else None
job_of name (first ∷ second ∷ []) = if bytes_eq name (codes "part") then part_of (number_of first) (number_of second) else None
job_of name (first ∷ second ∷ third ∷ more) = long_job_of name (first ∷ second ∷ third ∷ more)

abbrev pub command_from : Option Job → Option ℕ → Option Command
command_from (Some j) (Some n) = Some (record { job = j; workers = n; least = None })
command_from _ _ = None

-- a command with a least balance, which the job `cuts` alone takes
abbrev pub least_for : Job → Option ℕ → Option ℕ
least_for job.Cuts number = number
least_for _ number = None

abbrev pub with_least : Option Text → Command → Option Command
with_least None command = Some command
with_least (Some text) command = option_map (λ k. record command { least = Some k }) (least_for command.job (number_of text))

abbrev pub taken_with : Option Text → Option Command → Option Command
taken_with least None = None
taken_with least (Some command) = with_least least command

-- the job with a name, if there is one
abbrev pub named_job_of : Option Text → List Text → Option Job
named_job_of None values = None
named_job_of (Some name) values = job_of name values

-- a job, a number of workers and a least balance
abbrev pub command_of_job : Option Job → Option Text → Option Text → Option Command
command_of_job job None least = None
command_of_job job (Some workers) least = taken_with least (command_from job (workers_of workers))

-- the rules on what was matched: the job's name, the further values, the number of workers and the least balance
abbrev pub command_by : Option Text → List Text → Option Text → Option Text → Option Command
command_by name values workers least = command_of_job (named_job_of name values) workers least

abbrev pub command_in : List Row → Option Command
command_in rows =
    command_by (first_of (codes "job") rows) (unwrap_or (all_of (codes "values") rows) []) (first_of (codes "workers") rows) (first_of (codes "least") rows)

-- no kind of error may come
abbrev pub is_clean : Kinds → Bool
is_clean [] = true
is_clean (k ∷ ks) = false

-- the command of the words, if they have one: `clap` takes them, and what it matches keeps the rules
unfoldable pub command_of : List Text → Option Command
command_of words = if is_clean (fault_of mincut words) then command_in (matches_of mincut words) else None

-- the job reads a graph; a trial makes one
abbrev pub IsReading : Job → Type 0
IsReading (job.Trial number) = ⊥
IsReading _ = ⊤

-- the number of a trial is 12 to 100,000, and insertions join two vertices each, 1 to 1,000 of them
abbrev pub IsMakeable : Job → Type 0
IsMakeable (job.Trial number) = (12 ≤ number) × (number ≤ 100000)
IsMakeable (job.Grow insertions) = AreInsertions insertions
IsMakeable _ = ⊤

-- the words are a command that reads a graph
pub record ReadsGraph (words : List Text) : Type 0 where
  pub command : Command
  pub commanded : command_of words ≡ Some command
  pub reading : IsReading command.job

-- the words are no command and ask for no notice
abbrev pub AsksNothing : List Text → Type 0
AsksNothing words = (command_of words ≡ None) × (notice_of words ≡ None)
