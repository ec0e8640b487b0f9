use Rattle.std.proofs.Common.{◌∙◌}
use Rattle.job_replies.proofs.Answering.{two_lines}
use Rattle.job_replies.proofs.cuts.number_reply.Goals as goal

pub returns-clause-text : goal.returns-clause-text
returns-clause-text c = c.in_ok-text.ensures.ok ∙ two_lines c.args.value c.args.count
