-- The flow fits the graph after each run.
use Rattle.max_flow.specs.Flow.{StandsFor}
use Rattle.value_tests.proofs.bounded_flows.agree_in_turn.Given as goal

abbrev pub invariant-loop-s : goal.invariant-loop-s
invariant-loop-s l = StandsFor l.flow l.graph
