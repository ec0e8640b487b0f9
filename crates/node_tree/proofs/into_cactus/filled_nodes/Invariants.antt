use Rattle.std.proofs.Common.{◌≡◌, length}
use Rattle.std.specs.Prelude.{slice_index}
use Rattle.node_tree.specs.Forest.{AreFrom, IsPlaced}
use Rattle.node_tree.proofs.into_cactus.filled_nodes.Given as goal

abbrev pub invariant-vertices : goal.invariant-vertices
invariant-vertices l = record {
  len : length l.nodes.items ≡ length l.tree.uppers;
  placed : AreFrom (IsPlaced l.before (slice_index l.homes.items)) 0 l.nodes.items;
}
