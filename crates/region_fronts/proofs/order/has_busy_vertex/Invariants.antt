-- No vertex so far is busy.
use Rattle.std.proofs.Common.{◌≤◌, ℕ, length}
use Rattle.weighted_graph.specs.Rows.{row_of}
use Rattle.region_fronts.proofs.order.has_busy_vertex.Given as goal

abbrev pub invariant-loop-v : goal.invariant-loop-v
invariant-loop-v l = (u : ℕ) → 1 ≤ u → u ≤ l.v → length (row_of l.graph u) ≤ l.long
