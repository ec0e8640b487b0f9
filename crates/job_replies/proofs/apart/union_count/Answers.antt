use Rattle.std.proofs.Common.{◌∙◌}
use Rattle.job_replies.proofs.Answering.{two_lines}
use Rattle.job_replies.proofs.Unions.{counted}
use Rattle.job_replies.proofs.apart.union_count.Goals as goal

pub returns-clause-text : goal.returns-clause-text
returns-clause-text c = record {
  few = c.in-Some.ensures.few;
  text_is = c.in_ok-text.ensures.ok
      ∙ (two_lines 0 c.in-Some.count ∙ counted c.args.graph.now c.args.parts.now c.in-Some.count c.minimum_cuts.ensures c.number.ensures c.requires.apart c.in-Some.ensures.is);
}
