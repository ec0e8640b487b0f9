use Rattle.std.proofs.Common.{◌≡◌, ◌+◌, ◌*◌, length, take, map}
use Rattle.std.specs.List.{flat_map}
use Rattle.rooted_cactus.specs.Trees.{blocks_in}
use Rattle.rooted_cactus.specs.Entered.{entered, entered_block}
use Rattle.rooted_cactus.specs.Numbers.{number, tally, total, all_under}
use Rattle.rooted_cactus.proofs.tree.number.+number.Given as goal

abbrev pub invariant-number_below-each_block : goal.invariant-number_below-each_block
invariant-number_below-each_block l = record {
  end : l.i-end ≡ length (blocks_in l.blocks);
  count : l.count ≡ all_under (map tally (take l.i (blocks_in l.blocks)));
}

abbrev pub invariant-number_of_all-each_node : goal.invariant-number_of_all-each_node
invariant-number_of_all-each_node l = record {
  end : l.i-end ≡ length l.nodes;
  count : l.count ≡ total (map number (take l.i l.nodes));
}

-- three times the number of the nodes, and one more for each call before the next node
abbrev pub decreases-number_of : goal.decreases-number_of
decreases-number_of l = 3 * length (entered l.node.now)

abbrev pub decreases-number_below : goal.decreases-number_below
decreases-number_below l = 3 * length (flat_map entered_block (blocks_in l.blocks.now)) + 2

abbrev pub decreases-number_of_all : goal.decreases-number_of_all
decreases-number_of_all l = 3 * length (flat_map entered l.nodes.now) + 1
