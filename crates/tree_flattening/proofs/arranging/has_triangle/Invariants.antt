-- No two nodes and no more follow each other up to the nodes so far.
use Rattle.std.proofs.Common.{ℕ, ◌≡◌, ◌+◌, ◌<◌, ◌≤◌, false, length}
use Rattle.node_tree.specs.Flat.{is_follower}
use Rattle.tree_flattening.specs.Plans.{run_of}
use Rattle.tree_flattening.proofs.arranging.has_triangle.Given as goal

abbrev pub invariant-nodes : goal.invariant-nodes
invariant-nodes l = record {
  low : 2 ≤ l.node;
  none : (h : ℕ) → 1 ≤ h → h + 1 < l.node → is_follower l.tree.follows h ≡ false → length (run_of l.tree h) ≡ 2 → ⊥;
}
