use Rattle.min_value.specs.Kernels.{IsKept}
use Rattle.min_value.proofs.kernels.kernel.Given as goal

abbrev pub invariant-closing : goal.invariant-closing
invariant-closing g l = IsKept l.graph l.kept.value l.kept.graph l.kept.labels

abbrev pub decreases-closing : goal.decreases-closing
decreases-closing g l = l.kept.graph.vertices
