use Rattle.std.proofs.Common.{◌+◌, ◌≤◌, cond}
use Rattle.min_value.specs.Kernels.{IsKept}
use Rattle.min_value.proofs.kept_graph.go_on_by_rounds.Given as goal

abbrev pub invariant-rounds : goal.invariant-rounds
invariant-rounds g l = record {
  kept : IsKept l.graph l.kept.value l.kept.graph l.kept.labels;
  at_most : l.kept.graph.vertices ≤ l.fn.first.graph.vertices;
}

abbrev pub decreases-rounds : goal.decreases-rounds
decreases-rounds g l = cond l.shrinks (l.kept.graph.vertices + 1) 0
