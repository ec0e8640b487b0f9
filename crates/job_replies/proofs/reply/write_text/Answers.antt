-- A text that was written whole has not failed.
use Rattle.std.proofs.Common.{rules}
use Rattle.job_replies.proofs.reply.write_text.Goals as goal

pub returns-in-Ok-clause-failed : goal.returns-in-Ok-clause-failed
returns-in-Ok-clause-failed g c = search rules
