-- How a run ends, by what it found.
use Rattle.std.specs.Prelude.{◌≡◌, ℕ, List, Option, Result, Ok, Err}
use Rattle.stop_lines.specs.declared.status.Status.{Status}
use Rattle.stop_lines.specs.declared.status.Status.TheVariants as status
use Rattle.stop_lines.specs.declared.stop.Stop.{Stop}
use Rattle.stop_lines.specs.declared.stop.Stop.TheVariants.{NoMemory}
use Rattle.stop_lines.specs.Stops.{line_of, status_of}
use Rattle.job_replies.specs.Answers.{Failed, Writes, Wrote}
use Rattle.job_replies.specs.declared.reply.Reply.{Reply}
use Rattle.job_replies.specs.Replies.{text_of, TakesMemory}

-- the reply was written whole, and nothing is reported
pub record IsReplied {E : Type 0} (found : Result Reply Stop) (taken_before taken_after : Option (List ℕ)) (before now : ℕ) (err_before err_after : E) (result : Status) : Type 0 where
  pub reply : Reply
  pub found_is : found ≡ Ok reply
  pub status : result ≡ status.Ok
  pub wrote : Wrote (text_of reply) taken_before taken_after before now
  pub nothing_told : err_after ≡ err_before

-- a write of the reply failed, and nothing is reported
pub record IsBroken {E : Type 0} (found : Result Reply Stop) (taken_before taken_after : Option (List ℕ)) (before now : ℕ) (err_before err_after : E) (result : Status) : Type 0 where
  pub reply : Reply
  pub found_is : found ≡ Ok reply
  pub status : result ≡ status.WriteFault
  pub failed : Failed (text_of reply) taken_before taken_after before now
  pub nothing_told : err_after ≡ err_before

-- the stop that is reported: the one that was found, or that there is not enough memory to write the reply
abbrev pub IsStopOf : Result Reply Stop → Stop → Type 0
IsStopOf (Ok reply) stop = (stop ≡ NoMemory) × TakesMemory reply
IsStopOf (Err found) stop = stop ≡ found

-- a stop is reported, or a write of its line failed, and nothing is replied
pub record IsStopped {K : Type 0} (found : Result Reply Stop) (taken_before taken_after : Option (List ℕ)) (before now : ℕ) (out_before out_after : K) (result : Status) : Type 0 where
  pub stop : Stop
  pub stop_of : IsStopOf found stop
  pub writes : Writes (status_of stop) (line_of stop) taken_before taken_after before now result
  pub nothing_replied : out_after ≡ out_before
