use Rattle.std.proofs.Common.{◌≡◌, ◌≤◌, ◌++◌, length, drop, map}
use Rattle.rooted_cactus.specs.Trees.{nodes_in}
use Rattle.flat_cactus.specs.Tasks.{node, pendings}
use Rattle.flat_cactus.proofs.flattening.stack_nodes.Given as goal

abbrev pub invariant-back : goal.invariant-back
invariant-back l = record {
  within : l.i ≤ length (nodes_in l.nodes);
  stacked : pendings l.stack.items ≡ map node (drop l.i (nodes_in l.nodes)) ++ pendings l.initial.stack.items;
}

abbrev pub decreases-back : goal.decreases-back
decreases-back l = l.i
