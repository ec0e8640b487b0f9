use Rattle.weighted_graph.proofs.LeastDegree.{IsLeastBefore}
use Rattle.weighted_graph.proofs.graph.Graph.least_degree.Given as goal

abbrev pub invariant-loop-v : goal.invariant-loop-v
invariant-loop-v l = IsLeastBefore l.self l.v l.least
