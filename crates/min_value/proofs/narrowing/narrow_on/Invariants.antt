use Rattle.std.proofs.Common.{◌≤◌}
use Rattle.min_value.specs.Kernels.{IsNarrowed}
use Rattle.min_value.proofs.narrowing.narrow_on.Given as goal

abbrev pub invariant-scans : goal.invariant-scans
invariant-scans g l = record {
  narrowed : IsNarrowed l.graph l.left.bound l.left.graph l.left.labels;
  at_most : l.left.graph.vertices ≤ l.fn.first.graph.vertices;
}

abbrev pub decreases-scans : goal.decreases-scans
decreases-scans g l = l.left.graph.vertices
