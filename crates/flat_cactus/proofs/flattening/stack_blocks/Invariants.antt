use Rattle.std.proofs.Common.{◌≡◌, ◌≤◌, ◌++◌, length, drop, map}
use Rattle.rooted_cactus.specs.Trees.{blocks_in}
use Rattle.flat_cactus.specs.Tasks.{block, pendings}
use Rattle.flat_cactus.proofs.flattening.stack_blocks.Given as goal

abbrev pub invariant-back : goal.invariant-back
invariant-back l = record {
  within : l.i ≤ length (blocks_in l.items);
  stacked : pendings l.stack.items ≡ map (block l.up) (drop l.i (blocks_in l.items)) ++ pendings l.initial.stack.items;
}

abbrev pub decreases-back : goal.decreases-back
decreases-back l = l.i
