-- No vertex that was looked at has so small a degree.
use Rattle.std.proofs.Common.{ℕ, ◌<◌, ◌≤◌}
use Rattle.cut_definitions.specs.Scan.{single}
use Rattle.cut_definitions.specs.Weight.{weight}
use Rattle.region_sweep.proofs.shares.has_degree.Given as goal

abbrev pub invariant-loop-v : goal.invariant-loop-v
invariant-loop-v l = (v : ℕ) → 1 ≤ v → v ≤ l.v → l.degree < weight l.graph (single v)
