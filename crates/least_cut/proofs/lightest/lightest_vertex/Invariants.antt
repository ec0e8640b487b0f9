-- No vertex so far is lighter.
use Rattle.std.proofs.Common.{ℕ, ◌<◌, ◌≤◌}
use Rattle.cut_definitions.specs.Scan.{single}
use Rattle.cut_definitions.specs.Weight.{weight}
use Rattle.least_cut.proofs.lightest.lightest_vertex.Given as goal

abbrev pub invariant-loop-v : goal.invariant-loop-v
invariant-loop-v l = record {
  from_one : 1 ≤ l.lightest;
  to_n : l.lightest ≤ l.graph.vertices;
  least : (v : ℕ) → 1 ≤ v → v < l.v → weight l.graph (single l.lightest) ≤ weight l.graph (single v);
}
