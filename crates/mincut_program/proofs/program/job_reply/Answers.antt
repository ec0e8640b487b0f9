-- A trial leaves the source as it is.
use Rattle.std.proofs.Common.{rules}
use Rattle.mincut_program.proofs.program.job_reply.Goals as goal

pub returns-in_err-trial_reply-in-Trial-clause-unread : goal.returns-in_err-trial_reply-in-Trial-clause-unread
returns-in_err-trial_reply-in-Trial-clause-unread g c = search rules

pub returns-in_ok-trial_reply-in-Trial-clause-unread : goal.returns-in_ok-trial_reply-in-Trial-clause-unread
returns-in_ok-trial_reply-in-Trial-clause-unread g c = search rules
