use Rattle.std.proofs.Common.{◌∙◌, arith}
use Rattle.answer_pages.specs.Listings.{count_text}
use Rattle.job_replies.proofs.cuts.count_reply.Goals as goal

pub count_of_cuts-requires-clause-few : goal.count_of_cuts-requires-clause-few
count_of_cuts-requires-clause-few c = omega (arith, c.requires.solved.over, c.n-n.ensures.edge_list.few_vertices)

pub returns-clause-text : goal.returns-clause-text
returns-clause-text c =
    c.in_ok-reply.ensures.text ∙ (λ i. count_text (c.requires.solved.value i) (c.in_ok-count.ensures c.args.graph.now c.requires.solved i))
