use Rattle.std.proofs.Common.{◌≡◌, length, take, Some}
use Rattle.std.specs.Prelude.{slice_get}
use Rattle.rooted_cactus.specs.Entries.{nodes_of}
use Rattle.rooted_cactus.specs.Trees.{blocks}
use Rattle.rooted_cactus.specs.declared.tree.Node.{Node}
use Rattle.rooted_cactus.specs.declared.tree.Block.{Block}
use Rattle.cactus_growth.specs.Ways.{AreVisited}
use Rattle.cactus_growth.proofs.ways.visit_nodes.Given as goal

abbrev pub invariant-each_node : goal.invariant-each_node
invariant-each_node l = record {
  end : l.child-end ≡ length l.nodes;
  stacked : (x : Node) (b : Block) → slice_get (blocks x) l.block ≡ Some b → nodes_of b ≡ l.nodes → AreVisited l.v x l.depth (take l.child l.nodes) l.initial.stack.items l.stack.items;
}
