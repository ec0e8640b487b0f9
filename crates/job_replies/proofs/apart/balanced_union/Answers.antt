use Rattle.std.proofs.Common.{rules}
use Rattle.component_cuts.specs.Sums.{IsSmall}
use Rattle.job_replies.proofs.Unions.{best_union}
use Rattle.job_replies.proofs.apart.balanced_union.Goals as goal

pub returns-in-Ok-clause-text : goal.returns-in-Ok-clause-text
returns-in-Ok-clause-text c =
    let small : IsSmall c.args.parts.now c.args.weights.now = search rules in
    record {
      few = small;
      text_is = best_union c.args.graph.now c.args.parts.now c.args.weights.now c.in-Ok.side.members c.balance_of-balance.result c.minimum_cuts.ensures c.components.ensures c.requires.apart c.in-Ok.ensures.best
          c.balance_of-balance.ensures;
    }
