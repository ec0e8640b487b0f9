use Rattle.std.proofs.Common.{◌∙◌, sym}
use Rattle.job_replies.proofs.Graphs.{best_text, has_block}
use Rattle.job_replies.proofs.cuts.balanced_reply.Goals as goal

pub first_best-requires-clause-some : goal.first_best-requires-clause-some
first_best-requires-clause-some c = has_block c.args.graph.now c.args.solved c.requires.enough c.requires.solved

pub first_best-requires-clause-weights : goal.first_best-requires-clause-weights
first_best-requires-clause-weights c = c.requires.weighed ∙ sym c.requires.solved.over

pub balance_of-balance-requires : goal.balance_of-balance-requires
balance_of-balance-requires c = c.requires.weighed ∙ sym c.requires.solved.over ∙ sym c.in_ok-side.ensures.n

pub returns-clause-text : goal.returns-clause-text
returns-clause-text c =
    best_text c.args.graph.now c.args.solved c.args.weights.now c.in_ok-side.side.members c.balance_of-balance.result c.requires.solved c.balance_of-balance.ensures c.in_ok-side.ensures.first
