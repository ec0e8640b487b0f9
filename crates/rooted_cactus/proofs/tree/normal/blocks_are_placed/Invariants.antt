use Rattle.std.proofs.Common.{◌≡◌, length, take, true}
use Rattle.std.specs.List.{list_all}
use Rattle.rooted_cactus.specs.Trees.{blocks_in}
use Rattle.rooted_cactus.specs.Placed.{is_placed}
use Rattle.rooted_cactus.proofs.tree.normal.blocks_are_placed.Given as goal

abbrev pub invariant-each_block : goal.invariant-each_block
invariant-each_block l = record {
  end : l.i-end ≡ length (blocks_in l.blocks);
  so_far : list_all is_placed (take l.i (blocks_in l.blocks)) ≡ true;
}
