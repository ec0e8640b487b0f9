use Rattle.std.proofs.Common.{◌+◌, ◌≤◌, cond}
use Rattle.min_value.specs.Kernels.{IsKept}
use Rattle.min_value.proofs.closing.scan_on.Given as goal

abbrev pub invariant-scans : goal.invariant-scans
invariant-scans g l = record {
  kept : IsKept l.graph l.kept.value l.kept.graph l.kept.labels;
  at_most : l.kept.graph.vertices ≤ l.fn.first.graph.vertices;
}

abbrev pub decreases-scans : goal.decreases-scans
decreases-scans g l = cond l.shrinks (l.kept.graph.vertices + 1) 0
