use Rattle.std.proofs.Common.{ℕ, ◌∙◌, subst}
use Rattle.certified_growth.specs.GrownSets.{IsGrownSet}
use Rattle.certified_growth.proofs.grown_set.grow.Goals as goal

pub pair_root-requires-clause-growing : goal.pair_root-requires-clause-growing
pair_root-requires-clause-growing c = c.in_ok-growing.ensures.growing c.args.rule.least

pub returns : goal.returns
returns c =
    subst (λ (k : ℕ). IsGrownSet c.args.graph.now c.args.rule.least c.args.owners.now k c.into_set.result) (c.run.ensures.own ∙ (c.pair_root.ensures.own ∙ c.in_ok-growing.ensures.own))
    (c.into_set.ensures c.args.graph.now c.args.rule.least c.args.owners.now c.in_ok-run.ensures.growing)
