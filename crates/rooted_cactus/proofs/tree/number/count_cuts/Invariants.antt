use Rattle.std.proofs.Common.{◌≡◌, ◌+◌}
use Rattle.rooted_cactus.specs.Numbers.{number, seen}
use Rattle.rooted_cactus.proofs.Tallies.{all_numbers, nodes_to_come}
use Rattle.rooted_cactus.proofs.tree.number.count_cuts.Given as goal

abbrev pub invariant-walk : goal.invariant-walk
invariant-walk l = l.count + all_numbers (seen l.stack.items) ≡ number l.root

abbrev pub decreases-walk : goal.decreases-walk
decreases-walk l = nodes_to_come (seen l.stack.items)
