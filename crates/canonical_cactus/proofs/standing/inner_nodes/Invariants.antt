use Rattle.rooted_cactus.specs.Numbers.{seen}
use Rattle.rooted_cactus.proofs.Tallies.{nodes_to_come}
use Rattle.canonical_cactus.proofs.Inner.{Entering}
use Rattle.canonical_cactus.proofs.standing.inner_nodes.Given as goal

abbrev pub invariant-walk : goal.invariant-walk
invariant-walk l = Entering l.root (seen l.nodes.items) (seen l.stack.items)

abbrev pub decreases-walk : goal.decreases-walk
decreases-walk l = nodes_to_come (seen l.stack.items)
