use Rattle.std.proofs.Common.{◌≡◌, length, take, true}
use Rattle.std.specs.List.{list_all}
use Rattle.rooted_cactus.specs.Placed.{is_set}
use Rattle.rooted_cactus.proofs.tree.normal.block_is_placed.Given as goal

abbrev pub invariant-each_node : goal.invariant-each_node
invariant-each_node l = record {
  end : l.i-end ≡ length l.nodes;
  so_far : list_all (is_set l.above_is_cycle) (take l.i l.nodes) ≡ true;
}
