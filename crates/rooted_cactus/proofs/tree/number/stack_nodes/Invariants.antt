use Rattle.std.proofs.Common.{◌≡◌, ◌++◌, length, take}
use Rattle.std.specs.List.{filter}
use Rattle.rooted_cactus.specs.Numbers.{seen, is_inner}
use Rattle.rooted_cactus.proofs.tree.number.stack_nodes.Given as goal

abbrev pub invariant-each_node : goal.invariant-each_node
invariant-each_node l = record {
  end : l.i-end ≡ length l.nodes;
  stacked : seen l.stack.items ≡ seen l.initial.stack.items ++ filter is_inner (take l.i l.nodes);
}
