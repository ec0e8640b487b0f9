use Rattle.job_replies.proofs.OneTrial.{one_trial_text}
use Rattle.job_replies.proofs.laws.one_trial_text.Goals as goal

pub returns : goal.returns
returns c = one_trial_text
