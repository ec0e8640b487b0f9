-- The rows so far are written.
use Rattle.std.proofs.Common.{◌≡◌, ℕ, ◌<◌, map}
use Rattle.weighted_graph.specs.Rows.{row_of}
use Rattle.region_flow.specs.Closed.{residual_on}
use Rattle.max_flow.specs.Rows.{row_within}
use Rattle.max_flow.proofs.rows.fill.Given as goal

abbrev pub invariant-loop-v : goal.invariant-loop-v
invariant-loop-v l = (u : ℕ) → u < l.v → row_within l.residuals l.starts u ≡ map (residual_on u l.toward) (row_of l.graph u)
