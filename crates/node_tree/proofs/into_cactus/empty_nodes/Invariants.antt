use Rattle.std.proofs.Common.{◌≡◌, ℕ, length}
use Rattle.node_tree.specs.Forest.{AreFrom, IsPlaced}
use Rattle.node_tree.proofs.into_cactus.empty_nodes.Given as goal

abbrev pub invariant-nodes : goal.invariant-nodes
invariant-nodes l = record {
  len : length l.nodes.items ≡ l.i;
  empty : (homes : ℕ → ℕ) → AreFrom (IsPlaced 0 homes) 0 l.nodes.items;
}
