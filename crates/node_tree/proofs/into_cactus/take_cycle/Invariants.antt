use Rattle.std.proofs.Common.{◌≡◌, ◌≤◌, length, take, drop, reverse}
use Rattle.rooted_cactus.specs.Trees.{nodes_in}
use Rattle.node_tree.proofs.into_cactus.take_cycle.Given as goal

abbrev pub invariant-taken : goal.invariant-taken
invariant-taken l = record {
  enough : l.first ≤ length l.nodes.items;
  few : length l.nodes.items ≤ length l.initial.nodes.items;
  front : l.nodes.items ≡ take (length l.nodes.items) l.initial.nodes.items;
  taken : nodes_in l.cycle ≡ reverse (drop (length l.nodes.items) l.initial.nodes.items);
}

abbrev pub decreases-taken : goal.decreases-taken
decreases-taken l = length l.nodes.items
