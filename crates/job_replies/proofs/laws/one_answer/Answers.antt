use Rattle.job_replies.proofs.OneAnswer.{one_answer}
use Rattle.job_replies.proofs.laws.one_answer.Goals as goal

pub returns : goal.returns
returns c = one_answer
