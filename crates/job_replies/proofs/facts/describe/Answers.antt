use Rattle.std.proofs.Common.{◌≡◌, ◌∙◌, ap, length, string_bytes, sym, arith}
use Rattle.std.proofs.lemmas.List.{length-replicate}
use Rattle.cut_definitions.proofs.Results.{if_ok_more}
use Rattle.job_replies.specs.Trials.{trial_text, IsFactsText}
use Rattle.job_replies.proofs.Graphs.{facts_known, has_block}
use Rattle.job_replies.proofs.facts.describe.Goals as goal

pub count_of_cuts-requires-clause-few : goal.count_of_cuts-requires-clause-few
count_of_cuts-requires-clause-few c = omega (arith, c.requires.solved.over, c.n-n.ensures.edge_list.few_vertices)

pub best-requires-clause-some : goal.best-requires-clause-some
best-requires-clause-some c = has_block c.args.graph.now c.args.solved.now c.requires.enough c.requires.solved

pub best-requires-clause-weights : goal.best-requires-clause-weights
best-requires-clause-weights c = ap length c.in_ok-weights.ensures ∙ length-replicate c.args.graph.now.vertices 1 ∙ sym c.requires.solved.over

pub balance_of-balance-requires : goal.balance_of-balance-requires
balance_of-balance-requires c = ap length c.in_ok-weights.ensures ∙ length-replicate c.args.graph.now.vertices 1 ∙ sym c.requires.solved.over ∙ sym c.in_ok-side.ensures.n

pub returns : goal.returns
returns c =
    if_ok_more (λ text. string_bytes text ≡ trial_text c.n.result c.len.result c.args.solved.now.value c.in_ok-count.count c.balance_of-balance.result)
    (λ text. IsFactsText c.args.graph.now (string_bytes text)) c.facts_text.result
    (λ text is. facts_known c.args.graph.now c.args.solved.now c.in_ok-weights.weights c.in_ok-side.side.members c.n.result c.len.result c.in_ok-count.count c.balance_of-balance.result c.requires.solved
    c.in_ok-weights.ensures c.in_ok-side.ensures.best c.n.ensures.value c.len.ensures (c.in_ok-count.ensures c.args.graph.now c.requires.solved) c.balance_of-balance.ensures (string_bytes text) is)
    c.facts_text.ensures
