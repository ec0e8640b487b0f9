use Rattle.std.proofs.Common.{◌≡◌, ◌≤◌, ◌++◌, length, drop}
use Rattle.rooted_cactus.specs.Numbers.{waiting}
use Rattle.rooted_cactus.proofs.tree.order.stack_nodes.Given as goal

abbrev pub invariant-back : goal.invariant-back
invariant-back l = record {
  within : l.i ≤ length l.nodes;
  stacked : waiting l.stack.items ≡ drop l.i l.nodes ++ waiting l.initial.stack.items;
}

abbrev pub decreases-back : goal.decreases-back
decreases-back l = l.i
