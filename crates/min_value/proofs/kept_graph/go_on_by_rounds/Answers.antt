use Rattle.std.proofs.Common.{arith}
use Rattle.min_value.proofs.Kept.{value_of_small}
use Rattle.min_value.proofs.kept_graph.go_on_by_rounds.Goals as goal

pub rounds-init : goal.rounds-init
rounds-init g c = record { kept = c.requires.kept; at_most = omega arith }

pub rounds-preserved : goal.rounds-preserved
rounds-preserved g c = record {
  kept = c.in_ok-shrinks.ensures.kept c.args.graph.now c.rounds.invariant.kept;
  at_most = omega (arith, c.in_ok-shrinks.ensures.at_most, c.rounds.invariant.at_most);
}

pub contract_again-requires-clause-enough : goal.contract_again-requires-clause-enough
contract_again-requires-clause-enough g c κs within = c.rounds.invariant.kept.enough

pub contract_again-requires-clause-counted : goal.contract_again-requires-clause-counted
contract_again-requires-clause-counted g c κs within = c.rounds.invariant.kept.counted

pub contract_again-requires-clause-value : goal.contract_again-requires-clause-value
contract_again-requires-clause-value g c κs within = value_of_small c.args.graph.now c.rounds.kept.graph c.rounds.kept.value c.rounds.kept.labels c.rounds.invariant.kept
