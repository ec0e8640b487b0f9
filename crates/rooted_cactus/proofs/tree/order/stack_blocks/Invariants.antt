use Rattle.std.proofs.Common.{◌≡◌, ◌≤◌, ◌++◌, length, drop}
use Rattle.std.specs.List.{flat_map}
use Rattle.rooted_cactus.specs.Trees.{blocks_in}
use Rattle.rooted_cactus.specs.Entries.{nodes_of}
use Rattle.rooted_cactus.specs.Numbers.{waiting}
use Rattle.rooted_cactus.proofs.tree.order.stack_blocks.Given as goal

abbrev pub invariant-back : goal.invariant-back
invariant-back l = record {
  within : l.i ≤ length (blocks_in l.blocks);
  stacked : waiting l.stack.items ≡ flat_map nodes_of (drop l.i (blocks_in l.blocks)) ++ waiting l.initial.stack.items;
}

abbrev pub decreases-back : goal.decreases-back
decreases-back l = l.i
