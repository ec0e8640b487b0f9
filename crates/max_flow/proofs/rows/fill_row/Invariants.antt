-- The arcs so far are written.
use Rattle.std.proofs.Common.{◌≡◌, map, take}
use Rattle.region_flow.specs.Closed.{residual_on}
use Rattle.max_flow.proofs.rows.fill_row.Given as goal

abbrev pub invariant-loop-k : goal.invariant-loop-k
invariant-loop-k l = take l.k l.residuals ≡ map (residual_on l.v l.toward) (take l.k l.row)
