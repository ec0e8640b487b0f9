use Rattle.job_replies.proofs.OneText.{one_cactus_text}
use Rattle.job_replies.proofs.laws.one_cactus_text.Goals as goal

pub returns : goal.returns
returns c = one_cactus_text
