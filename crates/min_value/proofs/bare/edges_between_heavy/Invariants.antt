use Rattle.std.proofs.Common.{◌≤◌}
use Rattle.min_value.proofs.bare.edges_between_heavy.Given as goal

abbrev pub invariant-loop-edge : goal.invariant-loop-edge
invariant-loop-edge l = l.count ≤ l.edge-index
