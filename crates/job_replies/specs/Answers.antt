-- When the program ends with a reply, and when with a stop.
use Rattle.std.specs.Prelude.{◌≡◌, ◌⊎◌, ℕ, List, Option}
use Rattle.std.specs.Io.KnownBytes.{Appends}
use Rattle.outside.specs.Faults.{Rose, AppendsPrefix}
use Rattle.stop_lines.specs.declared.status.Status.{Status}
use Rattle.stop_lines.specs.declared.status.Status.TheVariants.{WriteFault, ListTooLarge, CountTooLarge, BalanceTooLarge, GrowTooLarge}
use Rattle.stop_lines.specs.declared.stop.Stop.{Stop}
use Rattle.stop_lines.specs.Stops.{line_of, status_of}
use Rattle.program_words.specs.declared.command.Job.{Job}
use Rattle.program_words.specs.declared.command.Job.TheVariants.{Count, Balanced, Grow}
use Rattle.job_replies.specs.Intake.{IsReply, IsCause}

-- the status of a job that is above its limit
abbrev pub over_status : Job → Status
over_status Count = CountTooLarge
over_status Balanced = BalanceTooLarge
over_status (Grow insertions) = GrowTooLarge
over_status _ = ListTooLarge

-- the whole text was taken, and no write failed
pub record Wrote (text : List ℕ) (taken_before taken_after : Option (List ℕ)) (before now : ℕ) : Type 0 where
  pub text_taken : Appends taken_before taken_after text
  pub same_count : now ≡ before

-- a write failed, and a first part of the text was taken
pub record Failed (text : List ℕ) (taken_before taken_after : Option (List ℕ)) (before now : ℕ) : Type 0 where
  pub part_taken : AppendsPrefix taken_before taken_after text
  pub rose : Rose before now

-- the text was written and the status is the wanted one, or a write failed
abbrev pub Writes : Status → List ℕ → Option (List ℕ) → Option (List ℕ) → ℕ → ℕ → Status → Type 0
Writes status text taken_before taken_after before now result =
    ((result ≡ status) × Wrote text taken_before taken_after before now)
    ⊎ ((result ≡ WriteFault) × Failed text taken_before taken_after before now)

-- the text of the reply was taken whole
pub record TakesReply (words : List (List ℕ)) (left taken_before taken_after : Option (List ℕ)) : Type 0 where
  pub text : List ℕ
  pub reply : IsReply words left text
  pub text_taken : Appends taken_before taken_after text

-- a write of the reply failed: a first part of its text was taken
pub record ReplyFailed (words : List (List ℕ)) (left taken_before taken_after : Option (List ℕ)) (before now : ℕ) : Type 0 where
  pub rose : Rose before now
  pub text : List ℕ
  pub reply : IsReply words left text
  pub part_taken : AppendsPrefix taken_before taken_after text

-- a stop with its cause was reported: its line was taken whole, and the status is that of the stop
pub record Told (words : List (List ℕ)) (left_before left_now : Option (List ℕ)) (m n : ℕ) (taken_before taken_after : Option (List ℕ)) (result : Status) : Type 0 where
  pub stop : Stop
  pub status : result ≡ status_of stop
  pub cause : IsCause words left_before left_now m n stop
  pub line_taken : Appends taken_before taken_after (line_of stop)

-- a write of the line that says why there is no reply failed: a first part of it was taken
pub record TellingFailed (words : List (List ℕ)) (left_before left_now : Option (List ℕ)) (m n : ℕ)
    (taken_before taken_after : Option (List ℕ)) (before now : ℕ) : Type 0 where
  pub rose : Rose before now
  pub stop : Stop
  pub cause : IsCause words left_before left_now m n stop
  pub part_taken : AppendsPrefix taken_before taken_after (line_of stop)
