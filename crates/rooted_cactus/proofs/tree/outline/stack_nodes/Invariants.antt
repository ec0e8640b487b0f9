use Rattle.std.proofs.Common.{◌≡◌, ◌≤◌, ◌+◌, ◌++◌, length, drop, map}
use Rattle.rooted_cactus.specs.Outlines.{outline}
use Rattle.rooted_cactus.specs.Heads.{entries_waiting}
use Rattle.rooted_cactus.proofs.Stacked.{entries_from}
use Rattle.rooted_cactus.proofs.tree.outline.stack_nodes.Given as goal

abbrev pub invariant-back : goal.invariant-back
invariant-back l = record {
  within : l.i ≤ length l.nodes;
  length : length l.stack.items + l.i ≡ length l.initial.stack.items + length l.nodes;
  entries : entries_waiting l.stack.items ≡ entries_from l.i (map outline (drop l.i l.nodes)) ++ entries_waiting l.initial.stack.items;
}

abbrev pub decreases-back : goal.decreases-back
decreases-back l = l.i
