use Rattle.weighted_graph.proofs.MergedInPlace.{IsMergedInPlace}
use Rattle.weighted_graph.proofs.merging.merge.Given as goal

abbrev pub invariant-loop-k : goal.invariant-loop-k
invariant-loop-k l = IsMergedInPlace l.fn.edges l.edges l.k l.kept l.current
