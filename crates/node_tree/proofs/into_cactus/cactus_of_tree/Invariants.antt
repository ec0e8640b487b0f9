use Rattle.std.proofs.Common.{◌≡◌, ℕ, ◌<◌, ◌≤◌, true, length}
use Rattle.std.specs.Prelude.{IsTrue}
use Rattle.std.specs.List.{flat_map}
use Rattle.rooted_cactus.specs.Entered.{entered}
use Rattle.node_tree.specs.Finished.{arrays_of}
use Rattle.node_tree.specs.Flat.{is_follower}
use Rattle.node_tree.specs.Forest.{IsForest}
use Rattle.node_tree.proofs.FilledNodes.{AreFilled}
use Rattle.node_tree.proofs.into_cactus.cactus_of_tree.Given as goal

abbrev pub invariant-nodes : goal.invariant-nodes
invariant-nodes l = record {
  low : 1 ≤ l.first;
  within : l.first ≤ length l.nodes.items;
  few : length l.nodes.items ≤ length l.fn.tree.tree.uppers;
  forest : IsForest l.fn.n (arrays_of l.fn.tree) l.nodes.items;
  filled : IsTrue l.is_filled → AreFilled (flat_map entered l.nodes.items);
  pending : (j : ℕ) → l.first ≤ j → j < length l.nodes.items → is_follower l.fn.tree.tree.follows j ≡ true;
}

abbrev pub decreases-nodes : goal.decreases-nodes
decreases-nodes l = l.first
