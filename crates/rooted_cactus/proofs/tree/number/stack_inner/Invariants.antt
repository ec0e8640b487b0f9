use Rattle.std.proofs.Common.{◌≡◌, ◌++◌, length, take}
use Rattle.std.specs.List.{filter, flat_map}
use Rattle.rooted_cactus.specs.Trees.{blocks_in}
use Rattle.rooted_cactus.specs.Entries.{nodes_of}
use Rattle.rooted_cactus.specs.Numbers.{seen, is_inner}
use Rattle.rooted_cactus.proofs.tree.number.stack_inner.Given as goal

abbrev pub invariant-each_block : goal.invariant-each_block
invariant-each_block l = record {
  end : l.i-end ≡ length (blocks_in l.blocks);
  stacked : seen l.stack.items ≡ seen l.initial.stack.items ++ filter is_inner (flat_map nodes_of (take l.i (blocks_in l.blocks)));
}
