use Rattle.std.proofs.Common.{◌≡◌, ◌-◌, ◌^◌, length, take}
use Rattle.std.specs.Prelude.{min}
use Rattle.std.specs.List.{flat_map}
use Rattle.rooted_cactus.specs.Trees.{nodes_in, blocks_in}
use Rattle.rooted_cactus.specs.Entered.{entered, entered_block}
use Rattle.rooted_cactus.proofs.tree.count.+count.Given as goal

abbrev pub invariant-count_blocks-each_block : goal.invariant-count_blocks-each_block
invariant-count_blocks-each_block l = record {
  end : l.i-end ≡ length (blocks_in l.blocks);
  count : l.count ≡ min (length (flat_map entered_block (take l.i (blocks_in l.blocks)))) (2 ^ 64 - 1);
}

abbrev pub invariant-count_nodes-each_node : goal.invariant-count_nodes-each_node
invariant-count_nodes-each_node l = record {
  end : l.i-end ≡ length (nodes_in l.nodes);
  count : l.count ≡ min (length (flat_map entered (take l.i (nodes_in l.nodes)))) (2 ^ 64 - 1);
}
