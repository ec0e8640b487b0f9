use Rattle.job_replies.proofs.OneAugmentation.{one_augment_text}
use Rattle.job_replies.proofs.laws.one_augment_text.Goals as goal

pub returns : goal.returns
returns c = one_augment_text
