-- The tree so far, and that the arcs of each earlier vertex are followed.
use Rattle.std.proofs.Common.{ℕ, ◌≡◌, ◌+◌, ◌-◌, ◌<◌, ◌≤◌}
use Rattle.max_flow.specs.Tree.{step_at, IsTree, IsExpanded}
use Rattle.max_flow.proofs.search.search.Given as goal

abbrev pub invariant-loop-place : goal.invariant-loop-place
invariant-loop-place l = record {
  tree : IsTree l.graph l.toward l.marks l.steps l.count;
  first : (step_at l.steps 0).vertex ≡ l.ends.s;
  within : l.place ≤ l.count;
  done : (j : ℕ) → j < l.place → IsExpanded l.graph l.toward l.marks (step_at l.steps j).vertex;
}

abbrev pub decreases-loop-place : goal.decreases-loop-place
decreases-loop-place l = (l.graph.vertices + 1) - l.place
