use Rattle.std.proofs.Common.{◌≡◌, length, take, map}
use Rattle.rooted_cactus.specs.Trees.{blocks_in}
use Rattle.rooted_cactus.specs.Numbers.{tally, all_own}
use Rattle.rooted_cactus.proofs.tree.number.cuts_of_blocks.Given as goal

abbrev pub invariant-each_block : goal.invariant-each_block
invariant-each_block l = record {
  end : l.i-end ≡ length (blocks_in l.blocks);
  count : l.count ≡ all_own (map tally (take l.i (blocks_in l.blocks)));
}
