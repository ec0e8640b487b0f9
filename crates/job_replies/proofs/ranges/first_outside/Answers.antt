-- A job that names no vertex names none that is not there.
use Rattle.std.proofs.Common.{rules}
use Rattle.job_replies.proofs.ranges.first_outside.Goals as goal

pub returns-in_default : goal.returns-in_default
returns-in_default c = search rules
