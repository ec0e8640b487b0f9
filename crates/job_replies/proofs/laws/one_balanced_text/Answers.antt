use Rattle.job_replies.proofs.OneText.{one_balanced_text}
use Rattle.job_replies.proofs.laws.one_balanced_text.Goals as goal

pub returns : goal.returns
returns c = one_balanced_text
