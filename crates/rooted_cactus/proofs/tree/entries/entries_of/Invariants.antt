use Rattle.rooted_cactus.specs.Entries.{top_first, Shows, kept}
use Rattle.rooted_cactus.proofs.Entries.{nodes_left}
use Rattle.rooted_cactus.proofs.tree.entries.entries_of.Given as goal

abbrev pub invariant-walk : goal.invariant-walk
invariant-walk l = Shows kept l.fn.root l.entries.items (top_first l.stack.items)

abbrev pub decreases-walk : goal.decreases-walk
decreases-walk l = nodes_left (top_first l.stack.items)
