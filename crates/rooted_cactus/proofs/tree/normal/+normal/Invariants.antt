use Rattle.std.proofs.Common.{◌≡◌, ◌+◌, ◌*◌, length, take, true}
use Rattle.std.specs.List.{flat_map, list_all}
use Rattle.rooted_cactus.specs.Entered.{entered, entered_block}
use Rattle.rooted_cactus.specs.Normal.{shape, block_shape}
use Rattle.rooted_cactus.specs.Trees.{blocks_in}
use Rattle.rooted_cactus.proofs.tree.normal.+normal.Given as goal

abbrev pub invariant-blocks_are_normal-each_block : goal.invariant-blocks_are_normal-each_block
invariant-blocks_are_normal-each_block l = record {
  end : l.i-end ≡ length (blocks_in l.blocks);
  so_far : list_all (λ b. (block_shape b).fine) (take l.i (blocks_in l.blocks)) ≡ true;
}

abbrev pub invariant-nodes_are_normal-each_node : goal.invariant-nodes_are_normal-each_node
invariant-nodes_are_normal-each_node l = record {
  end : l.i-end ≡ length l.nodes;
  so_far : list_all (λ x. (shape x).fine) (take l.i l.nodes) ≡ true;
}

-- three times the number of the nodes, and one more for each call before the next node
abbrev pub decreases-blocks_are_normal : goal.decreases-blocks_are_normal
decreases-blocks_are_normal l = 3 * length (flat_map entered_block (blocks_in l.blocks.now)) + 2

abbrev pub decreases-block_is_normal : goal.decreases-block_is_normal
decreases-block_is_normal l = 3 * length (entered_block l.block.now) + 1

abbrev pub decreases-nodes_are_normal : goal.decreases-nodes_are_normal
decreases-nodes_are_normal l = 3 * length (flat_map entered l.nodes.now)
