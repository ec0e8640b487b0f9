-- The least vertices of the nodes from one on are known.
use Rattle.std.proofs.Common.{ℕ, ◌≡◌, ◌<◌, ◌≤◌, length}
use Rattle.tree_flattening.specs.Arranged.{IsLeastOfBlock, IsLeastOfNode}
use Rattle.tree_flattening.proofs.leasts.find_leasts.Given as goal

abbrev pub invariant-nodes : goal.invariant-nodes
invariant-nodes l = record {
  len : length l.nodes ≡ length l.tree.uppers;
  long : length l.blocks ≡ length l.tree.uppers;
  within : l.node ≤ length l.tree.uppers;
  nodes : (i : ℕ) → l.node ≤ i → i < length l.tree.uppers → IsLeastOfNode l.members l.heads l.nodes l.blocks i;
  blocks : (h : ℕ) → l.node ≤ h → h < length l.tree.uppers → IsLeastOfBlock l.tree l.nodes l.blocks h;
}

abbrev pub decreases-nodes : goal.decreases-nodes
decreases-nodes l = l.node
