use Rattle.std.proofs.Common.{◌≡◌, ◌++◌}
use Rattle.std.specs.List.{flat_map}
use Rattle.rooted_cactus.specs.Numbers.{waiting}
use Rattle.rooted_cactus.proofs.Tallies.{nodes_to_come}
use Rattle.edge_augment.specs.Ends.{end_sets, leaves}
use Rattle.edge_augment.proofs.ends.list_ends.Given as goal

abbrev pub invariant-walk : goal.invariant-walk
invariant-walk l = l.ends.items ++ flat_map leaves (waiting l.stack.items) ≡ end_sets l.root

abbrev pub decreases-walk : goal.decreases-walk
decreases-walk l = nodes_to_come (waiting l.stack.items)
